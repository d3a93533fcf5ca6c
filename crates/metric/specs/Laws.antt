-- The five laws of a metric, and that it tells the truth of itself. Offsets are given by their absolute values.
use Rattle.std.specs.Prelude.{◌≡◌, ℕ, suc, ◌+◌, ◌-◌, ◌*◌, ◌≤◌, max, ◌⊎◌, Decides}
use Rattle.sheet.specs.Pixels.{apart, weight_of}
use Rattle.metric.specs.Model.{Model}

-- the weight of a neighbour step of x columns and y rows at level i
abbrev pub step_weight : Model → ℕ → ℕ → ℕ → ℕ
step_weight m i x y = weight_of (m.straight i) (m.diagonal i) x y

-- the offset x, y has a predecessor: one neighbour step nearer and one ring further in, inside the box between zero
-- and the offset, from which far grows by exactly that step's weight at the offset's own ring
pub record Reached (m : Model) (x y : ℕ) : Type 0 where
  pub x' : ℕ
  pub y' : ℕ
  pub x_within : x' ≤ x
  pub y_within : y' ≤ y
  pub near : max (x - x') (y - y') ≡ 1
  pub inner : suc (max x' y') ≡ max x y
  pub exact : m.far x y ≡ m.far x' y' + step_weight m (max x y) (x - x') (y - y')

-- no weight changes with the level
abbrev pub Constant : Model → Type 0
Constant m = (i j : ℕ) → 1 ≤ i → i ≤ 1024 → 1 ≤ j → j ≤ 1024 → (m.straight i ≡ m.straight j) × (m.diagonal i ≡ m.diagonal j)

-- far is the sum of its column and row parts, and a diagonal step weighs two straight ones
pub record Parted (m : Model) : Type 0 where
  pub sums : (x y : ℕ) → x ≤ 1023 → y ≤ 1023 → m.far x y ≡ m.far x 0 + m.far 0 y
  pub doubles : (i : ℕ) → 1 ≤ i → i ≤ 1024 → m.diagonal i ≡ 2 * m.straight i

pub record Lawful (m : Model) : Type 0 where
  -- first law: far is 0 at the zero offset and nowhere else, and no weight is 0
  pub far_zero : m.far 0 0 ≡ 0
  pub far_positive : (x y : ℕ) → x ≤ 1023 → y ≤ 1023 → 1 ≤ max x y → 1 ≤ m.far x y
  pub weights_positive : (i : ℕ) → 1 ≤ i → i ≤ 1024 → (1 ≤ m.straight i) × (1 ≤ m.diagonal i)
  -- second law: no weight falls from one level to the next
  pub weights_rise : (i : ℕ) → 1 ≤ i → i ≤ 1023 → (m.straight i ≤ m.straight (suc i)) × (m.diagonal i ≤ m.diagonal (suc i))
  -- third law: from an offset of a lesser ring than i, a neighbour step raises far by at most its weight at level i
  pub raises : (i x y x' y' : ℕ) → i ≤ 1024 → suc (max x y) ≤ i → x' ≤ 1023 → y' ≤ 1023 → max (apart x x') (apart y y') ≡ 1 → m.far x' y' ≤ m.far x y + step_weight m i (apart x x') (apart y y')
  -- fourth law: every offset but zero is reached
  pub reached : (x y : ℕ) → x ≤ 1023 → y ≤ 1023 → 1 ≤ max x y → Reached m x y
  -- fifth law: no weight or far exceeds 16,777,215
  pub weights_bound : (i : ℕ) → (m.straight i ≤ 16777215) × (m.diagonal i ≤ 16777215)
  pub far_bound : (x y : ℕ) → m.far x y ≤ 16777215
  -- outside the levels and offsets all is 0
  pub weights_outside : (i : ℕ) → (i ≡ 0) ⊎ (1025 ≤ i) → (m.straight i ≡ 0) × (m.diagonal i ≡ 0)
  pub far_outside : (x y : ℕ) → 1024 ≤ max x y → m.far x y ≡ 0
  -- it says that it is steady exactly when it is, and that it splits exactly when it does
  pub tells_steady : Decides m.steady (Constant m)
  pub tells_splits : Decides m.splits (Parted m)
