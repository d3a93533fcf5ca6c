-- Worked examples, one table.
use Rattle.std.specs.Prelude.{◌≡◌, ℕ, List, [], ◌∷◌, Some, None, Option}
use Rattle.sheet.specs.Keys.{key_of, reading_of}
use Rattle.sheet.specs.Images.{image_of}
use Rattle.metric.specs.Model.{Model}
use Rattle.metric.specs.Laws.{Lawful}
use Rattle.metric.specs.Metrics.{city_block, chessboard, chamfer, squared_euclidean}
use Rattle.transform.specs.Settled.{settled}
use Rattle.transform.specs.Erosion.{rounds, FirstIdle}
use Rattle.transform.specs.Directional.{Phases}

-- what a settled sheet h high and w wide reads at row r, column c
abbrev pub reads : Model → ℕ → ℕ → List ℕ → ℕ → ℕ → Option (ℕ × ℕ)
reads m h w picture r c = reading_of (settled m h w (image_of w picture) r c)

pub record Worked : Type 0 where
  -- distance 10 at place 0, and distance 1 at place 3
  pub key_of_ten : key_of 10 0 ≡ 10485760
  pub key_of_one : key_of 1 3 ≡ 1048579
  -- 4 columns and 2 rows away
  pub far_city_block : city_block.far 4 2 ≡ 6
  pub far_chessboard : chessboard.far 4 2 ≡ 4
  pub far_chamfer : chamfer.far 4 2 ≡ 14
  pub far_squared_euclidean : squared_euclidean.far 4 2 ≡ 20
  -- the squared Euclidean weights of level 3
  pub straight_three : squared_euclidean.straight 3 ≡ 5
  pub diagonal_three : squared_euclidean.diagonal 3 ≡ 10
  -- one pixel of carbon, any metric: no reading, and the first round is idle
  pub lone_carbon : (m : Model) → Lawful m → reads m 1 1 (1 ∷ []) 0 0 ≡ None
  pub lone_carbon_rounds : (m : Model) → Lawful m → FirstIdle 1 1 (rounds m 1 1 (image_of 1 (1 ∷ []))) 1
  -- one pixel of air, any metric: distance 0, place 0
  pub lone_air : (m : Model) → Lawful m → reads m 1 1 (0 ∷ []) 0 0 ≡ Some (0, 0)
  -- air at both ends of a row of five: the middle is 4 from both by squared Euclidean distance, and names the first
  pub first_of_equals : reads squared_euclidean 1 5 (0 ∷ 1 ∷ 1 ∷ 1 ∷ 0 ∷ []) 0 2 ≡ Some (4, 0)
  -- air at the left end of a row of three: the right end reads 4 after 3 rounds, of which the third is the first idle one
  pub row_of_three : reading_of (rounds squared_euclidean 1 3 (image_of 3 (0 ∷ 1 ∷ 1 ∷ [])) 3 0 2) ≡ Some (4, 0)
  pub row_of_three_rounds : FirstIdle 1 3 (rounds squared_euclidean 1 3 (image_of 3 (0 ∷ 1 ∷ 1 ∷ []))) 3
  -- two by two, all air: each of the four directional phases is idle at once
  pub all_air_phases : Phases squared_euclidean 2 2 (image_of 2 (0 ∷ 0 ∷ 0 ∷ 0 ∷ [])) 4
