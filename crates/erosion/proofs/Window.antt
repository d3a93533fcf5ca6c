-- The least over the window around a pixel is the erosion equation's key.
use Rattle.std.proofs.Common.{◌≡◌, ℕ, ◌+◌, ◌-◌, ◌<◌, ◌≤◌, min, ltb, ◌⊎◌, sym, ap, ◌∙◌, subst, inl, inr, ⊎_elim, le_trans, le_antisymm, arith}
use Rattle.std.proofs.lemmas.Bool.{cases_lt, cases_eq, cond-true, cond_both, lt-ltb, ltb-true}
use Rattle.std.proofs.lemmas.Bool.Decides.{nat_tests}
use Rattle.sheet.specs.Pixels.{apart, ring, weight_of}
use Rattle.sheet.specs.Keys.{blank, stepped}
use Rattle.sheet.specs.Images.{Image}
use Rattle.sheet.proofs.Weights.{weight_straight, weight_diagonal}
use Rattle.transform.specs.Erosion.{eroded}
use Rattle.transform.proofs.Least.{eroded_own, eroded_blank, eroded_near, le_eroded}
use Rattle.erosion.specs.Window.{west_of, east_of, upright_of, lowest_of}

-- what an image holds west of the next pixel
pub west_next : (f : Image) (r c : ℕ) → west_of f r (c + 1) ≡ f r c
west_next f r c = let e : c + 1 - 1 ≡ c = omega arith in cond-true _ _ _ (lt-ltb 0 (c + 1) (omega arith)) ∙ ap (f r) e

-- west or east, north or south
either_side : (a b : ℕ) → apart a b ≡ 1 → (a - 1 ≡ b) ⊎ (b ≡ a + 1)
either_side a b e = ⊎_elim (λ (h : b < a). inl (omega arith)) (λ (h : a ≤ b). inr (omega arith)) (cases_lt b a)

beside_le : (w : ℕ) (f : Image) (r c b : ℕ) → b < w → apart c b ≡ 1 → min (west_of f r c) (east_of w f r c) ≤ f r b
beside_le w f r c b on e =
    ⊎_elim
    (λ (p : c - 1 ≡ b). let y = ap (f r) p in grind (arith, nat_tests))
    (λ (p : b ≡ c + 1). let y = ap (f r) p in grind (arith, nat_tests))
    (either_side c b e)

upright_le : (h : ℕ) (f : Image) (r c q : ℕ) → q < h → apart r q ≡ 1 → upright_of h f r c ≤ f q c
unfolding upright_of
upright_le h f r c q on e =
    ⊎_elim
    (λ (p : r - 1 ≡ q). let y = ap (λ (z : ℕ). f z c) p in grind (arith, nat_tests))
    (λ (p : q ≡ r + 1). let y = ap (λ (z : ℕ). f z c) p in grind (arith, nat_tests))
    (either_side r q e)

-- a number below two stepped keys is below the lesser one stepped
pub le_min : (n a b s : ℕ) → n ≤ stepped a s → n ≤ stepped b s → n ≤ stepped (min a b) s
le_min n a b s p q = omega arith

pub step_le : (a b s : ℕ) → a ≤ b → stepped a s ≤ stepped b s
step_le a b s p = omega arith

module _ (h w s d : ℕ) (f : Image) (r c : ℕ) (row : r < h) (column : c < w) where
  near : ℕ
  near = min (min (west_of f r c) (east_of w f r c)) (upright_of h f r c)

  across : ℕ
  across = min (west_of (upright_of h f) r c) (east_of w (upright_of h f) r c)

  near_le : (q b : ℕ) → q < h → b < w → apart c b + apart r q ≡ 1 → near ≤ f q b
  unfolding near
  near_le q b on_Row on_column lone =
      ⊎_elim
      (λ (z : r ≡ q). let i = ap (λ (y : ℕ). f y b) z in let u = beside_le w f r c b on_column (omega arith) in omega arith)
      (λ (z : (r ≡ q) → ⊥).
      let y : b ≡ c = omega (arith, z) in
      let i = ap (f q) y in
      let u = upright_le h f r c q on_Row (omega (arith, z)) in
      omega arith)
      (cases_eq r q)

  -- the window's least is below each neighbour's key stepped
  below : (q b : ℕ) → q < h → b < w → ring r c q b ≡ 1 → lowest_of (f r c) near across s d ≤ stepped (f q b) (weight_of s d (apart c b) (apart r q))
  unfolding ring near across
  below q b on_Row on_column one =
      let P : ℕ → Type 0 = λ z. lowest_of (f r c) near across s d ≤ stepped (f q b) z in
      ⊎_elim
      (λ (two : apart c b + apart r q ≡ 2).
      let u = beside_le w (upright_of h f) r c b on_column (omega arith) in
      let v = upright_le h f r b q on_Row (omega arith) in
      let k : P d = le_trans (omega arith) (step_le across (f q b) d (omega arith)) in
      subst P (sym (weight_diagonal s d (apart c b) (apart r q) two)) k)
      (λ (not : (apart c b + apart r q ≡ 2) → ⊥).
      let lone : apart c b + apart r q ≡ 1 = omega (arith, not) in
      let k : P s = le_trans (omega arith) (step_le near (f q b) s (near_le q b on_Row on_column lone)) in
      subst P (sym (weight_straight s d (apart c b) (apart r q) lone)) k)
      (cases_eq (apart c b + apart r q) 2)

  -- the eroded key is below each key of the window stepped
  straight_near : (q b : ℕ) → q < h → b < w → apart c b + apart r q ≡ 1 → eroded h w s d f r c ≤ stepped (f q b) s
  unfolding ring
  straight_near q b on_Row on_column lone =
      subst (λ (z : ℕ). eroded h w s d f r c ≤ stepped (f q b) z) (weight_straight s d (apart c b) (apart r q) lone)
      (eroded_near h w s d f r c q b on_Row on_column (omega arith))

  diagonal_near : (q b : ℕ) → q < h → b < w → apart c b ≡ 1 → apart r q ≡ 1 → eroded h w s d f r c ≤ stepped (f q b) d
  unfolding ring
  diagonal_near q b on_Row on_column x y =
      subst (λ (z : ℕ). eroded h w s d f r c ≤ stepped (f q b) z) (weight_diagonal s d (apart c b) (apart r q) (omega arith))
      (eroded_near h w s d f r c q b on_Row on_column (omega arith))

  off : (v : ℕ) → eroded h w s d f r c ≤ stepped blank v
  off v = let low = eroded_blank h w s d f r c in omega arith

  le_near : eroded h w s d f r c ≤ stepped near s
  unfolding near upright_of
  le_near =
      let P : ℕ → Type 0 = λ x. eroded h w s d f r c ≤ stepped x s in
      le_min _ _ _ s
      (le_min _ _ _ s
      (cond_both (ltb 0 c) _ blank P (λ t. let o = ltb-true 0 c t in straight_near r (c - 1) row (omega arith) (omega arith)) (λ t. off s))
      (cond_both (ltb (c + 1) w) _ blank P (λ t. straight_near r (c + 1) row (ltb-true (c + 1) w t) (omega arith)) (λ t. off s)))
      (le_min _ _ _ s
      (cond_both (ltb 0 r) _ blank P (λ t. let o = ltb-true 0 r t in straight_near (r - 1) c (omega arith) column (omega arith)) (λ t. off s))
      (cond_both (ltb (r + 1) h) _ blank P (λ t. straight_near (r + 1) c (ltb-true (r + 1) h t) column (omega arith)) (λ t. off s)))

  le_upright : (b : ℕ) → b < w → apart c b ≡ 1 → eroded h w s d f r c ≤ stepped (upright_of h f r b) d
  unfolding upright_of
  le_upright b on x =
      let P : ℕ → Type 0 = λ x. eroded h w s d f r c ≤ stepped x d in
      le_min _ _ _ d
      (cond_both (ltb 0 r) _ blank P (λ t. let o = ltb-true 0 r t in diagonal_near (r - 1) b (omega arith) on x (omega arith)) (λ t. off d))
      (cond_both (ltb (r + 1) h) _ blank P (λ t. diagonal_near (r + 1) b (ltb-true (r + 1) h t) on x (omega arith)) (λ t. off d))

  le_across : eroded h w s d f r c ≤ stepped across d
  unfolding across
  le_across =
      let P : ℕ → Type 0 = λ x. eroded h w s d f r c ≤ stepped x d in
      le_min _ _ _ d
      (cond_both (ltb 0 c) _ blank P (λ t. let o = ltb-true 0 c t in le_upright (c - 1) (omega arith) (omega arith)) (λ t. off d))
      (cond_both (ltb (c + 1) w) _ blank P (λ t. le_upright (c + 1) (ltb-true (c + 1) w t) (omega arith)) (λ t. off d))

  pub window_eroded : lowest_of (f r c) (min (min (west_of f r c) (east_of w f r c)) (upright_of h f r c)) (min (west_of (upright_of h f) r c) (east_of w (upright_of h f) r c)) s d ≡ eroded h w s d f r c
  unfolding near across
  window_eroded =
      let own = eroded_own h w s d f r c in
      let u = le_near in
      let v = le_across in
      le_antisymm (le_eroded h w s d f r c _ (omega arith) (omega arith) below) (omega arith)
