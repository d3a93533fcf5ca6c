-- Offsets between pixels, one coordinate at a time, and the laws of a metric at pixels.
use Rattle.std.proofs.Common.{◌≡◌, ℕ, suc, ◌+◌, ◌-◌, ◌<◌, ◌≤◌, max, sym, ◌∙◌, ⊎_elim, arith}
use Rattle.std.proofs.lemmas.Bool.{cases_lt}
use Rattle.sheet.specs.Pixels.{apart, ring}
use Rattle.metric.specs.Model.{Model}
use Rattle.metric.specs.Laws.{Lawful, Reached, step_weight}

-- a step of one coordinate changes the offset to any third by as much
apart_step : (a b t : ℕ) → apart a b ≤ 1 → apart (apart b t) (apart a t) ≡ apart a b
apart_step a b t h = omega arith

apart_triangle : (a b t : ℕ) → apart a t ≤ apart a b + apart b t
apart_triangle a b t = omega arith

apart_small : (a b : ℕ) → a < 1024 → b < 1024 → apart a b ≤ 1023
apart_small a b p q = omega arith

pub apart_below : (n a b : ℕ) → a < n → b < n → suc (apart a b) ≤ n
apart_below n a b p q = omega arith

pub ring_triangle : (r c r' c' a b : ℕ) → ring r c a b ≤ ring r c r' c' + ring r' c' a b
unfolding ring
ring_triangle r c r' c' a b = go (apart c b) (apart r a) (apart c c') (apart r r') (apart c' b) (apart r' a) (apart_triangle c c' b) (apart_triangle r r' a)
  where
    go : (x y x₁ y₁ x₂ y₂ : ℕ) → x ≤ x₁ + x₂ → y ≤ y₁ + y₂ → max x y ≤ max x₁ y₁ + max x₂ y₂
    go x y x₁ y₁ x₂ y₂ p q = omega arith

pub ring_zero : (r c a b : ℕ) → ring r c a b ≤ 0 → (r ≡ a) × (c ≡ b)
unfolding ring
ring_zero r c a b h = (omega arith, omega arith)

pub ring_self : (r c : ℕ) → ring r c r c ≤ 0
unfolding ring
ring_self r c = omega arith

-- a coordinate between two others, x' short of the second
record Toward (c t x' : ℕ) : Type 0 where
  at : ℕ
  left : apart at t ≡ x'
  moved : apart c at ≡ apart c t - x'
  between : at ≤ max c t

toward : (c t x' : ℕ) → x' ≤ apart c t → Toward c t x'
toward c t x' h =
    ⊎_elim
    (λ (p : c < t). record { at = t - x'; left = omega arith; moved = omega arith; between = omega arith })
    (λ (p : t ≤ c). record { at = t + x'; left = omega arith; moved = omega arith; between = omega arith })
    (cases_lt c t)

-- a neighbour of r, c that is one ring nearer to a, b, on a way along which far grows by the weights
pub record Nearer (m : Model) (i r c a b : ℕ) : Type 0 where
  pub row : ℕ
  pub column : ℕ
  pub row_between : row ≤ max r a
  pub column_between : column ≤ max c b
  pub near : ring r c row column ≡ 1
  pub inner : ring row column a b ≡ i
  pub exact : m.far (apart c b) (apart r a) ≡ m.far (apart column b) (apart row a) + step_weight m (suc i) (apart c column) (apart r row)

module _ (m : Model) (law : Lawful m) where
  -- a pixel's distance to a third is at most its neighbour's with the step between them
  pub raises_at : (i r c r' c' a b : ℕ) → i < 1024 → r < 1024 → c < 1024 → a < 1024 → b < 1024 → ring r c r' c' ≡ 1 → ring r' c' a b ≤ i → m.far (apart c b) (apart r a) ≤ m.far (apart c' b) (apart r' a) + step_weight m (suc i) (apart c c') (apart r r')
  unfolding ring
  raises_at i r c r' c' a b hi hr hc ha hb near inside =
      let ex : apart (apart c' b) (apart c b) ≡ apart c c' = apart_step c c' b (one (apart c c') (apart r r') near) in
      let ey : apart (apart r' a) (apart r a) ≡ apart r r' = apart_step r r' a (other (apart c c') (apart r r') near) in
      coe 0 1 (k. m.far (apart c b) (apart r a) ≤ m.far (apart c' b) (apart r' a) + step_weight m (suc i) (ex k) (ey k))
      (law.raises (suc i) (apart c' b) (apart r' a) (apart c b) (apart r a) (omega arith) (up (max (apart c' b) (apart r' a)) inside)
      (apart_small c b hc hb) (apart_small r a hr ha) ((λ k. max (ex k) (ey k)) ∙ near))
    where
      one : (x y : ℕ) → max x y ≡ 1 → x ≤ 1
      one x y e = omega arith

      other : (x y : ℕ) → max x y ≡ 1 → y ≤ 1
      other x y e = omega arith

      up : (n : ℕ) → n ≤ i → suc n ≤ suc i
      up n e = omega arith

  pub nearer : (i r c a b : ℕ) → r < 1024 → c < 1024 → a < 1024 → b < 1024 → ring r c a b ≡ suc i → Nearer m i r c a b
  unfolding ring
  nearer i r c a b hr hc ha hb level =
      let x : ℕ = apart c b in
      let y : ℕ = apart r a in
      let B : Reached m x y = law.reached x y (apart_small c b hc hb) (apart_small r a hr ha) (some (max x y) level) in
      let C = toward c b B.x' B.x_within in
      let R = toward r a B.y' B.y_within in
      record {
        row = R.at;
        column = C.at;
        row_between = R.between;
        column_between = C.between;
        near = (λ k. max (C.moved k) (R.moved k)) ∙ B.near;
        inner = (λ k. max (C.left k) (R.left k)) ∙ less (max B.x' B.y') (max x y) B.inner level;
        exact = coe 0 1 (k. m.far x y ≡ m.far (sym C.left k) (sym R.left k) + step_weight m (level k) (sym C.moved k) (sym R.moved k)) B.exact;
      }
    where
      some : (n : ℕ) → n ≡ suc i → 1 ≤ n
      some n e = omega arith

      less : (n k : ℕ) → suc n ≡ k → k ≡ suc i → n ≡ i
      less n k u v = omega arith
