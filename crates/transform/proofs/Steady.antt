-- A steady metric: its weights know no level, its far is so many straight and so many diagonal weights, and no step between
-- neighbours lowers a settled key.
use Rattle.std.proofs.Common.{◌≡◌, ℕ, zero, suc, ◌+◌, ◌-◌, ◌*◌, ◌<◌, ◌≤◌, min, max, true, eqb, sym, refl, ap, ◌∙◌, ⊎_elim, le_trans, le_refl, le_antisymm, mul-one, mul-add, arith}
use Rattle.std.proofs.lemmas.Bool.{cases_eq, cond-true, cond_both, eq-eqb, eqb-true}
use Rattle.sheet.specs.Pixels.{place_of, apart, ring, weight_of}
use Rattle.sheet.specs.Keys.{blank, key_of, stepped}
use Rattle.sheet.specs.Images.{Image, Same}
use Rattle.sheet.proofs.Weights.{weight_straight, weight_diagonal}
use Rattle.metric.specs.Model.{Model}
use Rattle.metric.specs.Laws.{Lawful, Reached, step_weight}
use Rattle.transform.specs.Settled.{settled}
use Rattle.transform.specs.Erosion.{starting}
use Rattle.transform.proofs.Offsets.{ring_zero, Nearer, raises_at, nearer}
use Rattle.transform.proofs.Rings.{Under, settled_under, le_settled, settled_blank}
use Rattle.transform.proofs.Rounds.{starting_blank}

-- a key that is offered along a way on which far grows by the step's weight
pub key_along : (n x far far' v place : ℕ) → n ≤ stepped x v → x ≤ key_of far' place → far ≡ far' + v → n ≤ key_of far place
key_along n x far far' v place offered under exact = omega arith

-- the weight of a way of x columns and y rows: a diagonal step as long as both are left, and then straight ones
abbrev way_weight : ℕ → ℕ → ℕ → ℕ → ℕ
way_weight s d x y = s * (max x y - min x y) + d * min x y

-- each neighbour step that leaves one ring less is on such a way
way_step : (s d x y x' y' u v : ℕ) → x ≡ x' + u → y ≡ y' + v → max u v ≡ 1 → max x y ≡ suc (max x' y') → way_weight s d x y ≡ way_weight s d x' y' + weight_of s d u v
way_step s d x y x' y' u v columns rows near inner =
    ⊎_elim
    (λ (e : u + v ≡ 2).
    let lesser : min x y ≡ min x' y' + 1 = omega arith in
    let rest : max x y - min x y ≡ max x' y' - min x' y' = omega arith in
    omega (arith, weight_diagonal s d u v e, ap (λ (n : ℕ). d * n) lesser, ap (λ (n : ℕ). s * n) rest, mul-add d (min x' y') 1, mul-one d))
    (λ (e : u + v ≡ 2 → ⊥).
    let one : u + v ≡ 1 = omega arith in
    let lesser : min x y ≡ min x' y' = omega arith in
    let rest : max x y - min x y ≡ (max x' y' - min x' y') + 1 = omega arith in
    omega (arith, weight_straight s d u v one, ap (λ (n : ℕ). d * n) lesser, ap (λ (n : ℕ). s * n) rest, mul-add s (max x' y' - min x' y') 1, mul-one s))
    (cases_eq (u + v) 2)

pub ring_below : (n r c a b : ℕ) → r < n → c < n → a < n → b < n → ring r c a b < n
unfolding ring
ring_below n r c a b p q p' q' = omega arith

-- the key of an air pixel at the start
pub starting_air : (w : ℕ) (picture : Image) (r c : ℕ) → picture r c ≡ 0 → starting w picture r c ≡ place_of w r c
unfolding starting
starting_air w picture r c air = cond-true _ _ _ (eq-eqb _ _ air)

-- a key that is at most that of the start is, on an air pixel, at most its place
pub key_here : (w : ℕ) (picture K : Image) (r c a b far : ℕ) → picture a b ≡ 0 → K r c ≤ starting w picture r c → (r ≡ a) × (c ≡ b) → K r c ≤ key_of far (place_of w a b)
key_here w picture K r c a b far air start same = first _ _ _ far start ((λ k. starting w picture (same.0 k) (same.1 k)) ∙ starting_air w picture a b air)
  where
    first : (n s p d : ℕ) → n ≤ s → s ≡ p → n ≤ d * 1048576 + p
    first n s p d u e = omega arith

pub settled_start : (m : Model) (h w : ℕ) (picture : Image) → Lawful m → (r c : ℕ) → r < h → c < w → settled m h w picture r c ≤ starting w picture r c
unfolding starting
settled_start m h w picture law r c row column =
    cond_both (eqb (picture r c) 0) _ blank (λ (x : ℕ). settled m h w picture r c ≤ x)
    (λ e. first _ _ _ (settled_under m h w picture r c r c row column (eqb-true _ _ e) tt) (none c r))
    (λ e. settled_blank m h w picture r c)
  where
    none : (x y : ℕ) → m.far (apart x x) (apart y y) ≡ 0
    none x y = let p : apart x x ≡ 0 = omega arith in let q : apart y y ≡ 0 = omega arith in (λ k. m.far (p k) (q k)) ∙ law.far_zero

    first : (n F p : ℕ) → n ≤ F * 1048576 + p → F ≡ 0 → n ≤ p
    first n F p u e = omega arith

module _ (m : Model) (law : Lawful m) (steady : m.steady ≡ true) where
  -- each level weighs as the first
  level_weight : (i x y : ℕ) → 1 ≤ i → i ≤ 1024 → step_weight m i x y ≡ step_weight m 1 x y
  level_weight i x y low high =
      let same = law.tells_steady.0 steady i 1 low high (omega arith) (omega arith) in
      λ k. weight_of (same.0 k) (same.1 k) x y

  nearer_weight : (i r c a b : ℕ) → suc i ≤ 1024 → (N : Nearer m i r c a b) → m.far (apart c b) (apart r a) ≡ m.far (apart N.column b) (apart N.row a) + step_weight m 1 (apart c N.column) (apart r N.row)
  nearer_weight i r c a b top N = N.exact ∙ ap (λ (v : ℕ). m.far (apart N.column b) (apart N.row a) + v) (level_weight (suc i) (apart c N.column) (apart r N.row) (omega arith) top)

  -- far is the weight of such a way: by induction on the ring, along the ways of the fourth law
  far_weight : (n x y : ℕ) → max x y ≡ n → x ≤ 1023 → y ≤ 1023 → m.far x y ≡ way_weight (m.straight 1) (m.diagonal 1) x y
  far_weight zero x y level p q =
      let u : x ≡ 0 = omega arith in
      let v : y ≡ 0 = omega arith in
      (λ k. m.far (u k) (v k)) ∙ law.far_zero ∙ none (m.straight 1) (m.diagonal 1) ∙ (λ k. way_weight (m.straight 1) (m.diagonal 1) (sym u k) (sym v k))
    where
      none : (s d : ℕ) → 0 ≡ way_weight s d 0 0
      none s d = omega arith
  far_weight (suc n) x y level p q =
      let B : Reached m x y = law.reached x y p q (omega arith) in
      let rest = far_weight n B.x' B.y' (less (max B.x' B.y') (max x y) B.inner level) (le_trans B.x_within p) (le_trans B.y_within q) in
      join (m.far x y) _ _ _ _ _ B.exact (level_weight (max x y) (x - B.x') (y - B.y') (omega arith) (omega arith)) rest
      (way_step (m.straight 1) (m.diagonal 1) x y B.x' B.y' (x - B.x') (y - B.y') (whole x B.x' B.x_within) (whole y B.y' B.y_within) B.near (sym B.inner))
    where
      less : (n' k : ℕ) → suc n' ≡ k → k ≡ suc n → n' ≡ n
      less n' k u v = omega arith

      whole : (x x' : ℕ) → x' ≤ x → x ≡ x' + (x - x')
      whole x x' h = omega arith

      join : (F F₁ V W S S₁ : ℕ) → F ≡ F₁ + V → V ≡ W → F₁ ≡ S₁ → S ≡ S₁ + W → F ≡ S
      join F F₁ V W S S₁ u v k e = omega arith

  -- so far grows by the weight of each neighbour step that leads one ring further out
  pub far_step : (x y x' y' u v : ℕ) → x ≤ 1023 → y ≤ 1023 → x ≡ x' + u → y ≡ y' + v → max u v ≡ 1 → max x y ≡ suc (max x' y') → m.far x y ≡ m.far x' y' + step_weight m 1 u v
  far_step x y x' y' u v p q columns rows near inner =
      join _ _ _ _ _ (far_weight (max x y) x y refl p q) (far_weight (max x' y') x' y' refl (omega arith) (omega arith)) (way_step (m.straight 1) (m.diagonal 1) x y x' y' u v columns rows near inner)
    where
      join : (F F₁ W S S₁ : ℕ) → F ≡ S → F₁ ≡ S₁ → S ≡ S₁ + W → F ≡ F₁ + W
      join F F₁ W S S₁ u v e = omega arith

  module _ (h w : ℕ) (picture : Image) (tall : h ≤ 1024) (wide : w ≤ 1024) where
    -- no step between neighbours lowers a settled key
    pub settled_stable : (r c r' c' : ℕ) → r < h → c < w → r' < h → c' < w → ring r c r' c' ≡ 1 → settled m h w picture r c ≤ stepped (settled m h w picture r' c') (weight_of (m.straight 1) (m.diagonal 1) (apart c c') (apart r r'))
    settled_stable r c r' c' row column row' column' near =
        let n : ℕ = settled m h w picture r c in
        let W : ℕ = step_weight m 1 (apart c c') (apart r r') in
        forward n _ W (settled_blank m h w picture r c)
        (le_settled m h w picture r' c' (n - W * 1048576) (less n (W * 1048576) (settled_blank m h w picture r c)) (λ a b row'' column'' air _.
        let i : ℕ = ring r' c' a b in
        let inside : i < 1024 = ring_below 1024 r' c' a b (omega arith) (omega arith) (omega arith) (omega arith) in
        back n W _ _ _ _ (settled_under m h w picture r c a b row'' column'' air tt)
        (raises_at m law i r c r' c' a b inside (omega arith) (omega arith) (omega arith) (omega arith) near (le_refl i))
        (level_weight (suc i) (apart c c') (apart r r') (omega arith) inside)))
      where
        less : (n k : ℕ) → n ≤ blank → n - k ≤ blank
        less n k u = omega arith

        back : (n W V F F₁ p : ℕ) → n ≤ F * 1048576 + p → F ≤ F₁ + V → V ≡ W → n - W * 1048576 ≤ F₁ * 1048576 + p
        back n W V F F₁ p u v e = omega arith

        forward : (n x v : ℕ) → n ≤ blank → n - v * 1048576 ≤ x → n ≤ stepped x v
        forward n x v u e = omega arith

    -- an image between the settled and the starting one, of which no step between neighbours lowers a key, is settled
    pub stable_settles : (K : Image) → ((r c : ℕ) → r < h → c < w → K r c ≤ starting w picture r c) → ((r c : ℕ) → r < h → c < w → settled m h w picture r c ≤ K r c) →
        ((r c r' c' : ℕ) → r < h → c < w → r' < h → c' < w → ring r c r' c' ≡ 1 → K r c ≤ stepped (K r' c') (weight_of (m.straight 1) (m.diagonal 1) (apart c c') (apart r r'))) → Same h w K (settled m h w picture)
    stable_settles K start low stable r c row column =
        le_antisymm
        (le_settled m h w picture r c (K r c) (le_trans (start r c row column) (starting_blank h w picture r c tall wide row column)) (λ a b row' column' air _. under (ring r c a b) r c row column a b row' column' air refl))
        (low r c row column)
      where
        under : (n r c : ℕ) → r < h → c < w → Under m h w picture (λ a b. ring r c a b ≡ n) r c (K r c)
        under zero r c row column a b row' column' air level = key_here w picture K r c a b _ air (start r c row column) (ring_zero r c a b (omega arith))
        under (suc n) r c row column a b row' column' air level =
            let N = nearer m law n r c a b (omega arith) (omega arith) (omega arith) (omega arith) level in
            let row₁ : N.row < h = omega (arith, N.row_between) in
            let column₁ : N.column < w = omega (arith, N.column_between) in
            let top : suc n ≤ 1024 = omega (arith, ring_below 1024 r c a b (omega arith) (omega arith) (omega arith) (omega arith)) in
            key_along (K r c) (K N.row N.column) (m.far (apart c b) (apart r a)) (m.far (apart N.column b) (apart N.row a)) (step_weight m 1 (apart c N.column) (apart r N.row)) (place_of w a b)
            (stable r c N.row N.column row column row₁ column₁ N.near) (under n N.row N.column row₁ column₁ a b row' column' air N.inner) (nearer_weight n r c a b top N)
