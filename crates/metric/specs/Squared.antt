-- The laws of the squared Euclidean metric.
use Rattle.std.specs.Prelude.{◌≡◌, ℕ, suc, ◌+◌, ◌-◌, ◌*◌, ◌<◌, ◌≤◌, max, true, false, refl}
use Rattle.std.proofs.Common.{ap, ◌∙◌, ⊎_elim, mul-add, add-mul, mul-one, mul-le-mul, arith}
use Rattle.std.proofs.lemmas.Bool.{cases_order, cases_eq, cases_lt, false≢true}
use Rattle.sheet.specs.Pixels.{apart, weight_of}
use Rattle.sheet.proofs.Weights.{weight_straight, weight_diagonal}
use Rattle.metric.specs.Model.{at_level, at_offset}
use Rattle.metric.specs.Laws.{Lawful, Reached, Constant}
use Rattle.metric.specs.Metrics.{squared_euclidean}
use Rattle.metric.specs.Bounds.{level_in, level_out, level_bound, offset_in, offset_out, offset_bound}

square_le : (x n : ℕ) → x ≤ n → x * x ≤ n * n
square_le x n h = mul-le-mul h h

square_of_next : (x : ℕ) → (x + 1) * (x + 1) ≡ x * x + (2 * x + 1)
square_of_next x = mul-add (x + 1) x 1 ∙ omega (arith, add-mul x 1 x, mul-one (x + 1))

square_next : (x' x : ℕ) → x' ≤ x + 1 → x' * x' ≤ x * x + (2 * x + 1)
square_next x' x h = omega (arith, square_le x' (x + 1) h, square_of_next x)

square_more : (x x' : ℕ) → x ≡ x' + 1 → x * x ≡ x' * x' + (2 * x - 1)
square_more x x' e = rw e (omega (arith, square_of_next x'))

-- far inside its range
inside : (x y : ℕ) → x ≤ 1023 → y ≤ 1023 → at_offset x y (x * x + y * y) ≡ x * x + y * y
inside x y h k = offset_in x y (x * x + y * y) h k

-- the sum of two squares below 1024
pub squares_bound : (x y : ℕ) → x ≤ 1023 → y ≤ 1023 → x * x + y * y ≤ 2093058
squares_bound x y h k = omega (arith, square_le x 1023 h, square_le y 1023 k)

far_positive : (x y : ℕ) → x ≤ 1023 → y ≤ 1023 → 1 ≤ max x y → 1 ≤ at_offset x y (x * x + y * y)
far_positive x y h k p =
    ⊎_elim
    (λ (l : 0 < x). omega (arith, inside x y h k, square_le 1 x (omega arith)))
    (λ (l : x ≤ 0). omega (arith, inside x y h k, square_le 1 y (omega arith)))
    (cases_lt 0 x)

raises : (i x y x' y' : ℕ) → i ≤ 1024 → suc (max x y) ≤ i → x' ≤ 1023 → y' ≤ 1023 → max (apart x x') (apart y y') ≡ 1 → at_offset x' y' (x' * x' + y' * y') ≤ at_offset x y (x * x + y * y) + weight_of (at_level i (2 * i - 1)) (at_level i (4 * i - 2)) (apart x x') (apart y y')
raises i x y x' y' high ring h k near =
    let e = inside x y (omega arith) (omega arith) in
    let e' = inside x' y' h k in
    let low : 1 ≤ i = omega arith in
    let wide = square_next x' x (omega arith) in
    let tall = square_next y' y (omega arith) in
    let S = at_level i (2 * i - 1) in
    let D = at_level i (4 * i - 2) in
    ⊎_elim
    (λ (d : apart x x' + apart y y' ≡ 2). omega (arith, e, e', weight_diagonal S D (apart x x') (apart y y') d, level_in i (4 * i - 2) low high, wide, tall))
    (λ (d : (apart x x' + apart y y' ≡ 2) → ⊥).
    let one : apart x x' + apart y y' ≡ 1 = omega arith in
    let w = weight_straight S D (apart x x') (apart y y') one in
    let s = level_in i (2 * i - 1) low high in
    ⊎_elim
    (λ (q : x ≡ x'). omega (arith, e, e', w, s, tall, ap (λ n. n * n) q))
    (λ (q : (x ≡ x') → ⊥).
    let r : y ≡ y' = omega arith in
    omega (arith, e, e', w, s, wide, ap (λ n. n * n) r))
    (cases_eq x x'))
    (cases_eq (apart x x' + apart y y') 2)

-- one step straight in along the greater offset, and diagonally where both are equal
reached : (x y : ℕ) → x ≤ 1023 → y ≤ 1023 → 1 ≤ max x y → Reached squared_euclidean x y
reached x y h k p =
    let st = level_in (max x y) (2 * max x y - 1) p (omega arith) in
    let dg = level_in (max x y) (4 * max x y - 2) p (omega arith) in
    let S = at_level (max x y) (2 * max x y - 1) in
    let D = at_level (max x y) (4 * max x y - 2) in
    ⊎_elim
    (λ (e : x ≡ y).
    record {
      x' = x - 1;
      y' = y - 1;
      x_within = omega arith;
      y_within = omega arith;
      near = omega arith;
      inner = omega arith;
      exact = omega (arith, inside x y h k, inside (x - 1) (y - 1) (omega arith) (omega arith), weight_diagonal S D (x - (x - 1)) (y - (y - 1)) (omega arith), dg, square_more x (x - 1) (omega arith), square_more y (y - 1) (omega arith));
    })
    (⊎_elim
    (λ (l : x < y).
    record {
      x' = x;
      y' = y - 1;
      x_within = omega arith;
      y_within = omega arith;
      near = omega arith;
      inner = omega arith;
      exact = omega (arith, inside x y h k, inside x (y - 1) h (omega arith), weight_straight S D (x - x) (y - (y - 1)) (omega arith), st, square_more y (y - 1) (omega arith));
    })
    (λ (l : y < x).
    record {
      x' = x - 1;
      y' = y;
      x_within = omega arith;
      y_within = omega arith;
      near = omega arith;
      inner = omega arith;
      exact = omega (arith, inside x y h k, inside (x - 1) y (omega arith) k, weight_straight S D (x - (x - 1)) (y - y) (omega arith), st, square_more x (x - 1) (omega arith));
    }))
    (cases_order x y)

unsteady : Constant squared_euclidean → false ≡ true
unsteady h =
    let e : ◌≡◌ {A = ℕ} 1 3 = (h 1 2 (omega arith) (omega arith) (omega arith) (omega arith)).0 in
    absurd (omega arith)

both_in : (i : ℕ) → 1 ≤ i → i ≤ 1024 → (at_level i (2 * i - 1) ≡ 2 * i - 1) × (at_level i (4 * i - 2) ≡ 4 * i - 2)
both_in i h k = (level_in i (2 * i - 1) h k, level_in i (4 * i - 2) h k)

pub squared_lawful : Lawful squared_euclidean
squared_lawful = record {
  far_zero = refl;
  far_positive = far_positive;
  weights_positive = λ i h k. let e = both_in i h k in (omega arith, omega arith);
  weights_rise = λ i h k. let e = both_in i h (omega arith) in let e' = both_in (suc i) (omega arith) (omega arith) in (omega arith, omega arith);
  raises = raises;
  reached = reached;
  weights_bound = λ i. (level_bound i (2 * i - 1) 16777215 (λ h k. omega arith), level_bound i (4 * i - 2) 16777215 (λ h k. omega arith));
  far_bound = λ x y. offset_bound x y (x * x + y * y) 16777215 (λ h k. omega (arith, squares_bound x y h k));
  weights_outside = λ i h. (level_out i (2 * i - 1) h, level_out i (4 * i - 2) h);
  far_outside = λ x y h. offset_out x y (x * x + y * y) h;
  tells_steady = ((λ e. absurd (false≢true e)), unsteady);
  tells_splits = (
    (λ _. record {
      sums = λ x y h k. omega (arith, inside x y h k, inside x 0 h (omega arith), inside 0 y (omega arith) k);
      doubles = λ i h k. let e = both_in i h k in omega arith;
    }),
    (λ _. refl),
  );
}
