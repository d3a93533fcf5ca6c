-- The laws of weights that do not change with the level, once for all weights: straight a and diagonal b with
-- 1 ≤ a ≤ b ≤ 2 * a, where far takes a step of b for each of the lesser offset and one of a for each of the rest.
use Rattle.std.specs.Prelude.{◌≡◌, ℕ, suc, ◌+◌, ◌-◌, ◌*◌, ◌<◌, ◌≤◌, min, max, Bool, true, false, ◌==◌, refl}
use Rattle.std.proofs.Common.{sym, ap, subst, ◌∙◌, ⊎_elim, mul-add, add-mul, mul-one, mul-le-mul_left, arith}
use Rattle.std.proofs.Math.Nat.{max-add-min}
use Rattle.std.proofs.lemmas.Bool.{cases_order, cases_eq, cases_lt, eqb-true, eq-eqb}
use Rattle.std.proofs.lemmas.Bool.Decides.{nat_tests}
use Rattle.sheet.specs.Pixels.{apart, weight_of}
use Rattle.sheet.proofs.Weights.{weight_straight, weight_diagonal}
use Rattle.metric.specs.Model.{at_level, at_offset}
use Rattle.metric.specs.Laws.{Lawful, Reached, Parted}
use Rattle.metric.specs.Metrics.{ByWeights, steady_model, city_block, chessboard, chamfer}
use Rattle.metric.specs.Bounds.{level_in, level_out, level_bound, offset_in, offset_out, offset_bound}

-- a product with one more, and with at most as much
mul_next : (a m n : ℕ) → m ≤ n + 1 → a * m ≤ a * n + a
mul_next a m n h = omega (arith, mul-le-mul_left a h, mul-add a n 1, mul-one a)

mul_more : (a m n : ℕ) → m ≡ n + 1 → a * m ≡ a * n + a
mul_more a m n h = rw h (omega (arith, mul-add a n 1, mul-one a))

-- with a diagonal of a + c far is a for each of the greater offset and c for each of the lesser
module _ (a c : ℕ) (f : ℕ → ℕ → ℕ) (s : Bool) (positive : 1 ≤ a) (lesser : c ≤ a) (small : a + c ≤ 16000) (splits : s ≡ (a == c)) (far-is : (g l : ℕ) → l ≤ g → f g l ≡ a * g + c * l) where
  -- far inside its range
  inside : (x y : ℕ) → x ≤ 1023 → y ≤ 1023 → at_offset x y (f (max x y) (min x y)) ≡ a * max x y + c * min x y
  inside x y h k = offset_in x y (f (max x y) (min x y)) h k ∙ far-is (max x y) (min x y) (omega arith)

  far_positive : (x y : ℕ) → x ≤ 1023 → y ≤ 1023 → 1 ≤ max x y → 1 ≤ at_offset x y (f (max x y) (min x y))
  far_positive x y h k p = omega (arith, inside x y h k, mul-le-mul_left a p, mul-one a)

  far_bound : (x y : ℕ) → at_offset x y (f (max x y) (min x y)) ≤ 16777215
  far_bound x y =
      offset_bound x y (f (max x y) (min x y)) 16777215
      (λ h k.
      let g : max x y ≤ 1023 = omega arith in
      let l : min x y ≤ 1023 = omega arith in
      omega (arith, far-is (max x y) (min x y) (omega arith), mul-le-mul_left a g, mul-le-mul_left c l))

  raises_straight : (x y x' y' : ℕ) → apart x x' + apart y y' ≡ 1 → a * max x' y' + c * min x' y' ≤ (a * max x y + c * min x y) + a
  raises_straight x y x' y' e =
      ⊎_elim
      (λ (h : max x y < max x' y').
      let g : max x' y' ≤ max x y + 1 = omega arith in
      let l : min x' y' ≤ min x y = omega arith in
      omega (arith, mul_next a (max x' y') (max x y) g, mul-le-mul_left c l))
      (λ (h : max x' y' ≤ max x y).
      let l : min x' y' ≤ min x y + 1 = omega arith in
      omega (arith, mul-le-mul_left a h, mul_next c (min x' y') (min x y) l))
      (cases_lt (max x y) (max x' y'))

  raises_diagonal : (x y x' y' : ℕ) → max (apart x x') (apart y y') ≡ 1 → a * max x' y' + c * min x' y' ≤ (a * max x y + c * min x y) + (a + c)
  raises_diagonal x y x' y' h =
      let g : max x' y' ≤ max x y + 1 = omega arith in
      let l : min x' y' ≤ min x y + 1 = omega arith in
      omega (arith, mul_next a (max x' y') (max x y) g, mul_next c (min x' y') (min x y) l)

  raises : (i x y x' y' : ℕ) → i ≤ 1024 → suc (max x y) ≤ i → x' ≤ 1023 → y' ≤ 1023 → max (apart x x') (apart y y') ≡ 1 → at_offset x' y' (f (max x' y') (min x' y')) ≤ at_offset x y (f (max x y) (min x y)) + weight_of (at_level i a) (at_level i (a + c)) (apart x x') (apart y y')
  raises i x y x' y' high ring h k near =
      let e = inside x y (omega arith) (omega arith) in
      let e' = inside x' y' h k in
      let low : 1 ≤ i = omega arith in
      ⊎_elim
      (λ (d : apart x x' + apart y y' ≡ 2). omega (arith, e, e', weight_diagonal (at_level i a) (at_level i (a + c)) (apart x x') (apart y y') d, level_in i (a + c) low high, raises_diagonal x y x' y' near))
      (λ (d : (apart x x' + apart y y' ≡ 2) → ⊥).
      let one : apart x x' + apart y y' ≡ 1 = omega arith in
      omega (arith, e, e', weight_straight (at_level i a) (at_level i (a + c)) (apart x x') (apart y y') one, level_in i a low high, raises_straight x y x' y' one))
      (cases_eq (apart x x' + apart y y') 2)

  -- one step straight in along the greater offset, and diagonally where both are equal
  reached : (x y : ℕ) → x ≤ 1023 → y ≤ 1023 → 1 ≤ max x y → Reached (steady_model a (a + c) f s) x y
  reached x y h k p =
      let st = level_in (max x y) a p (omega arith) in
      let dg = level_in (max x y) (a + c) p (omega arith) in
      let S = at_level (max x y) a in
      let D = at_level (max x y) (a + c) in
      ⊎_elim
      (λ (e : x ≡ y).
      record {
        x' = x - 1;
        y' = y - 1;
        x_within = omega arith;
        y_within = omega arith;
        near = omega arith;
        inner = omega arith;
        exact = omega (arith, inside x y h k, inside (x - 1) (y - 1) (omega arith) (omega arith), weight_diagonal S D (x - (x - 1)) (y - (y - 1)) (omega arith), dg, mul_more a (max x y) (max (x - 1) (y - 1)) (omega arith), mul_more c (min x y) (min (x - 1) (y - 1)) (omega arith));
      })
      (⊎_elim
      (λ (l : x < y).
      record {
        x' = x;
        y' = y - 1;
        x_within = omega arith;
        y_within = omega arith;
        near = omega arith;
        inner = omega arith;
        exact =
            let m : min x (y - 1) ≡ min x y = omega arith in
            let e = inside x (y - 1) h (omega arith) in
            omega (arith, inside x y h k, e, ap (λ (n : ℕ). c * n) m, weight_straight S D (x - x) (y - (y - 1)) (omega arith), st, mul_more a (max x y) (max x (y - 1)) (omega arith));
      })
      (λ (l : y < x).
      record {
        x' = x - 1;
        y' = y;
        x_within = omega arith;
        y_within = omega arith;
        near = omega arith;
        inner = omega arith;
        exact =
            let m : min (x - 1) y ≡ min x y = omega arith in
            let e = inside (x - 1) y (omega arith) k in
            omega (arith, inside x y h k, e, ap (λ (n : ℕ). c * n) m, weight_straight S D (x - (x - 1)) (y - y) (omega arith), st, mul_more a (max x y) (max (x - 1) y) (omega arith));
      }))
      (cases_order x y)

  -- with c ≡ a
  sum_is : (x y : ℕ) → a * max x y + a * min x y ≡ a * x + a * y
  sum_is x y = sym (mul-add a (max x y) (min x y)) ∙ ap (λ n. a * n) (max-add-min x y) ∙ mul-add a x y

  parted : s ≡ true → Parted (steady_model a (a + c) f s)
  parted e =
      let same : c ≡ a = sym (eqb-true a c (sym splits ∙ e)) in
      let half : (x y : ℕ) → x ≤ 1023 → y ≤ 1023 → at_offset x y (f (max x y) (min x y)) ≡ a * x + a * y = λ x y h k. inside x y h k ∙ rw same (sum_is x y) in
      record {
        sums = λ x y h k. omega (arith, half x y h k, half x 0 h (omega arith), half 0 y (omega arith) k);
        doubles = λ i h k. omega (arith, level_in i a h k, level_in i (a + c) h k);
      }

  unparted : Parted (steady_model a (a + c) f s) → s ≡ true
  unparted p =
      let e : f 1 1 ≡ f 1 0 + f 1 0 = p.sums 1 1 (omega arith) (omega arith) in
      splits ∙ eq-eqb a c (omega (arith, e, far-is 1 1 (omega arith), far-is 1 0 (omega arith)))

  both_in : (i : ℕ) → 1 ≤ i → i ≤ 1024 → (at_level i a ≡ a) × (at_level i (a + c) ≡ a + c)
  both_in i h k = (level_in i a h k, level_in i (a + c) h k)

  lawful : Lawful (steady_model a (a + c) f s)
  lawful = record {
    far_zero = omega (arith, far-is 0 0 (omega arith));
    far_positive = far_positive;
    weights_positive = λ i h k. let e = both_in i h k in (omega arith, omega arith);
    weights_rise = λ i h k. let e = both_in i h (omega arith) in let e' = both_in (suc i) (omega arith) (omega arith) in (omega arith, omega arith);
    raises = raises;
    reached = reached;
    weights_bound = λ i. (level_bound i a 16777215 (λ _ _. omega arith), level_bound i (a + c) 16777215 (λ _ _. omega arith));
    far_bound = far_bound;
    weights_outside = λ i h. (level_out i a h, level_out i (a + c) h);
    far_outside = λ x y h. offset_out x y (f (max x y) (min x y)) h;
    tells_steady = ((λ _ i j h k p q. (level_in i a h k ∙ sym (level_in j a p q), level_in i (a + c) h k ∙ sym (level_in j (a + c) p q))), (λ _. refl));
    tells_splits = (parted, unparted);
  }

-- steps of b and of a are steps of a with c more at each of b's
regrouped : (a b g l : ℕ) → a ≤ b → l ≤ g → a * (g - l) + b * l ≡ a * g + (b - a) * l
regrouped a b g l h k =
    let p : g - l + l ≡ g = omega arith in
    let q : a + (b - a) ≡ b = omega arith in
    omega (arith, sym (mul-add a (g - l) l) ∙ ap (λ (n : ℕ). a * n) p, sym (add-mul a (b - a) l) ∙ ap (λ (n : ℕ). n * l) q)

halves : (a b : ℕ) → a ≤ b → (b == 2 * a) ≡ (a == b - a)
halves a b h = grind (arith, nat_tests)

module _ (a b : ℕ) (f : ℕ → ℕ → ℕ) (s : Bool) (positive : 1 ≤ a) (rising : a ≤ b) (double : b ≤ 2 * a) (small : b ≤ 16000) (splits : s ≡ (b == 2 * a)) (far-is : (g l : ℕ) → l ≤ g → f g l ≡ a * (g - l) + b * l) where
  pub steady_lawful : Lawful (steady_model a b f s)
  steady_lawful =
      let e : a + (b - a) ≡ b = omega arith in
      subst (λ (d : ℕ). Lawful (steady_model a d f s)) e
      (lawful a (b - a) f s positive (omega arith) (omega arith) (splits ∙ halves a b rising) (λ g l h. far-is g l h ∙ regrouped a b g l rising h))

-- the metrics whose weights do not change
pub city_block_lawful : Lawful city_block
city_block_lawful = steady_lawful 1 2 (λ g l. g + l) true (omega arith) (omega arith) (omega arith) (omega arith) refl (λ g l h. omega arith)

pub chessboard_lawful : Lawful chessboard
chessboard_lawful = steady_lawful 1 1 (λ g l. g) false (omega arith) (omega arith) (omega arith) (omega arith) refl (λ g l h. omega arith)

pub chamfer_lawful : Lawful chamfer
chamfer_lawful = steady_lawful 3 4 (λ g l. 3 * g + l) false (omega arith) (omega arith) (omega arith) (omega arith) refl (λ g l h. omega arith)

pub chamfer_by_weights : ByWeights 3 4 chamfer
chamfer_by_weights = record { rising = omega arith; small = omega arith; straights = λ i. refl; diagonals = λ i. refl; fars = λ x y. ap (at_offset x y) (omega arith); is_steady = refl; halves = refl }

pub city_block_by_weights : ByWeights 1 2 city_block
city_block_by_weights = record { rising = omega arith; small = omega arith; straights = λ i. refl; diagonals = λ i. refl; fars = λ x y. ap (at_offset x y) (omega arith); is_steady = refl; halves = refl }

pub chessboard_by_weights : ByWeights 1 1 chessboard
chessboard_by_weights = record { rising = omega arith; small = omega arith; straights = λ i. refl; diagonals = λ i. refl; fars = λ x y. ap (at_offset x y) (omega arith); is_steady = refl; halves = refl }
