-- The four metrics. g is the greater and l the lesser absolute value of an offset.
use Rattle.std.specs.Prelude.{◌≡◌, ◌≤◌, ◌==◌, ℕ, ◌+◌, ◌-◌, ◌*◌, min, max, Bool, true, false}
use Rattle.metric.specs.Model.{Model, at_level, at_offset}

-- the same weights at every level
abbrev pub steady_model : ℕ → ℕ → (ℕ → ℕ → ℕ) → Bool → Model
steady_model straight diagonal far splits = record {
  straight = λ i. at_level i straight;
  diagonal = λ i. at_level i diagonal;
  far = λ x y. at_offset x y (far (max x y) (min x y));
  steady = true;
  splits = splits;
}

abbrev pub city_block : Model
city_block = steady_model 1 2 (λ g l. g + l) true

abbrev pub chessboard : Model
chessboard = steady_model 1 1 (λ g l. g) false

-- the chamfer with weights 3 and 4
abbrev pub chamfer : Model
chamfer = steady_model 3 4 (λ g l. 3 * g + l) false

-- x * x + y * y is the sum of the squares of g and l
abbrev pub squared_euclidean : Model
squared_euclidean = record {
  straight = λ i. at_level i (2 * i - 1);
  diagonal = λ i. at_level i (4 * i - 2);
  far = λ x y. at_offset x y (x * x + y * y);
  steady = false;
  splits = true;
}

-- the numbers of a metric with these weights at every level, whose far takes a step of the diagonal weight for each of the lesser offset
-- and one of the straight weight for each of the rest
pub record ByWeights (straight diagonal : ℕ) (m : Model) : Type 0 where
  pub rising : straight ≤ diagonal
  pub small : diagonal ≤ 1000
  pub straights : (i : ℕ) → m.straight i ≡ at_level i straight
  pub diagonals : (i : ℕ) → m.diagonal i ≡ at_level i diagonal
  pub fars : (x y : ℕ) → m.far x y ≡ at_offset x y (straight * max x y + (diagonal - straight) * min x y)
  pub is_steady : m.steady ≡ true
  pub halves : m.splits ≡ (diagonal == 2 * straight)
