-- Walks from either end, and what a directional round reads on its way.
use Rattle.std.proofs.Common.{◌≡◌, ℕ, ◌+◌, ◌-◌, ◌<◌, ◌≤◌, min, Bool, true, false, cond, ltb, sym, refl, subst, ⊎_elim, arith}
use Rattle.std.proofs.lemmas.Bool.{cases_lt, ltb-true}
use Rattle.sheet.specs.declared.direction.Direction.{Direction}
use Rattle.sheet.specs.declared.direction.Direction.TheVariants.{North, South, West, East}
use Rattle.erosion.specs.declared.raster.Sense.{Sense}
use Rattle.erosion.specs.declared.raster.Sense.TheVariants.{Rising, Falling}
use Rattle.sheet.specs.Keys.{blank, stepped}
use Rattle.sheet.specs.Images.{Image}
use Rattle.transform.specs.Directional.{neighbour_key, swept, AlongRows}
use Rattle.erosion.specs.Walks.{turn, sense_of}

-- the k-th from an end has k before it
pub turn_back : (b : Sense) (n k j : ℕ) → k < n → j ≡ turn b n k → turn b n j ≡ k
turn_back Falling n k j h e = omega arith
turn_back Rising n k j h e = e

pub turn_on : (b : Sense) (n k : ℕ) → k < n → turn b n k < n
turn_on Falling n k h = omega arith
turn_on Rising n k h = h

pub turn_only : (b : Sense) (n i j : ℕ) → i < n → j < n → turn b n i ≡ turn b n j → i ≡ j
turn_only Falling n i j p q e = omega arith
turn_only Rising n i j p q e = e

-- where j is the k-th, what holds of those before it and of j holds of the first k + 1
pub turn_more : (P : ℕ → Type 0) (b : Sense) (n k j : ℕ) → j < n → turn b n j ≡ k → ((i : ℕ) → i < n → turn b n i < k → P i) → P j → (i : ℕ) → i < n → turn b n i < k + 1 → P i
turn_more P b n k j on at before here i p q =
    ⊎_elim
    (λ (l : turn b n i < k). before i p l)
    (λ (l : k ≤ turn b n i).
    let e : turn b n i ≡ turn b n j = omega arith in
    subst P (sym (turn_only b n i j p on e)) here)
    (cases_lt (turn b n i) k)

-- all n come before the n-th
pub turn_below : (b : Sense) (n i k : ℕ) → i < n → n ≤ k → turn b n i < k
turn_below Falling n i k h e = omega arith
turn_below Rising n i k h e = omega arith

pub cond_same : (b : Bool) (x y z : ℕ) → (b ≡ true → x ≡ y) → cond b x z ≡ cond b y z
cond_same true x y z h = h refl
cond_same false x y z h = refl

-- two images with the same key at a pixel, and at its neighbour, have the same key there after a round
swept_at : (d : Direction) (h w v : ℕ) (f g : Image) (r c : ℕ) → f r c ≡ g r c → neighbour_key d h w f r c ≡ neighbour_key d h w g r c → swept d h w v f r c ≡ swept d h w v g r c
unfolding swept
swept_at d h w v f g r c own next i = min (own i) (stepped (next i) v)

-- along a row: f has not changed at the k-th column, those after it and other rows, so that the k-th reads what g holds
pub swept_in_row : (d : Direction) (h w v : ℕ) (f g : Image) (r c : ℕ) → c < w → ((r' c' : ℕ) → c' < w → (r' ≡ r → turn (sense_of d) w c ≤ turn (sense_of d) w c') → f r' c' ≡ g r' c') → swept d h w v f r c ≡ swept d h w v g r c
swept_in_row North h w v f g r c on same =
    swept_at North h w v f g r c (same r c on (λ _. omega arith)) (cond_same (ltb 0 r) _ _ blank (λ e. same (r - 1) c on (λ q. let l = ltb-true 0 r e in absurd (omega arith))))
swept_in_row South h w v f g r c on same =
    swept_at South h w v f g r c (same r c on (λ _. omega arith)) (cond_same (ltb (r + 1) h) _ _ blank (λ e. same (r + 1) c on (λ q. absurd (omega arith))))
swept_in_row West h w v f g r c on same =
    swept_at West h w v f g r c (same r c on (λ _. omega arith)) (cond_same (ltb 0 c) _ _ blank (λ e. same r (c - 1) (omega arith) (λ _. omega arith)))
swept_in_row East h w v f g r c on same =
    swept_at East h w v f g r c (same r c on (λ _. omega arith)) (cond_same (ltb (c + 1) w) _ _ blank (λ e. same r (c + 1) (ltb-true (c + 1) w e) (λ _. omega arith)))

-- row after row: f has not changed at the k-th row and those after it
pub swept_in_rows : (d : Direction) (h w v : ℕ) (f g : Image) (r c : ℕ) → r < h → c < w → ((r' c' : ℕ) → c' < w → turn (sense_of d) h r ≤ turn (sense_of d) h r' → f r' c' ≡ g r' c') → swept d h w v f r c ≡ swept d h w v g r c
swept_in_rows North h w v f g r c row on same =
    swept_at North h w v f g r c (same r c on (omega arith)) (cond_same (ltb 0 r) _ _ blank (λ e. same (r - 1) c on (omega arith)))
swept_in_rows South h w v f g r c row on same =
    swept_at South h w v f g r c (same r c on (omega arith)) (cond_same (ltb (r + 1) h) _ _ blank (λ e. same (r + 1) c on (omega arith)))
swept_in_rows West h w v f g r c row on same =
    swept_at West h w v f g r c (same r c on (omega arith)) (cond_same (ltb 0 c) _ _ blank (λ e. same r (c - 1) (omega arith) (omega arith)))
swept_in_rows East h w v f g r c row on same =
    swept_at East h w v f g r c (same r c on (omega arith)) (cond_same (ltb (c + 1) w) _ _ blank (λ e. same r (c + 1) (ltb-true (c + 1) w e) (omega arith)))

-- rows are independent of one another where keys come along them
pub swept_along : (d : Direction) (h w v : ℕ) (f g : Image) (r : ℕ) → AlongRows d → ((c : ℕ) → c < w → f r c ≡ g r c) → (c : ℕ) → c < w → swept d h w v f r c ≡ swept d h w v g r c
swept_along North h w v f g r along same c on = absurd along
swept_along South h w v f g r along same c on = absurd along
swept_along West h w v f g r along same c on =
    swept_at West h w v f g r c (same c on) (cond_same (ltb 0 c) _ _ blank (λ e. same (c - 1) (omega arith)))
swept_along East h w v f g r along same c on =
    swept_at East h w v f g r c (same c on) (cond_same (ltb (c + 1) w) _ _ blank (λ e. same (c + 1) (ltb-true (c + 1) w e)))
