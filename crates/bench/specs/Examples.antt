-- Worked rings, one table: figures, counts and readings.
use Rattle.std.specs.Prelude.{◌≡◌, ℕ, List, [], ◌∷◌, Some, None, Option}
use Rattle.sheet.specs.Images.{image_of}
use Rattle.metric.specs.Model.{Model}
use Rattle.metric.specs.Laws.{Lawful}
use Rattle.metric.specs.Metrics.{squared_euclidean}
use Rattle.transform.specs.Examples.{Worked}
use Rattle.bench.specs.Truth.{ReadingTrue, PeakTrue}

-- the one true reading of the pixel r, c of a picture
pub record OnlyReading (m : Model) (h w : ℕ) (picture : List ℕ) (r c : ℕ) (reading : Option (ℕ × ℕ)) : Type 0 where
  pub holds : ReadingTrue m h w (image_of w picture) r c reading
  pub only : (other : Option (ℕ × ℕ)) → ReadingTrue m h w (image_of w picture) r c other → other ≡ reading

-- the one true peak of a picture
pub record OnlyPeak (m : Model) (h w : ℕ) (picture : List ℕ) (peak : Option (ℕ × ℕ)) : Type 0 where
  pub holds : PeakTrue m h w (image_of w picture) peak
  pub only : (other : Option (ℕ × ℕ)) → PeakTrue m h w (image_of w picture) other → other ≡ peak

pub record WorkedRings : Type 0 where
  -- keys, distances, weights, counts of rounds and phases
  pub figures : Worked
  -- one pixel of carbon, any metric: no reading and no peak
  pub lone_carbon : (m : Model) → Lawful m → OnlyReading m 1 1 (1 ∷ []) 0 0 None
  pub lone_carbon_peak : (m : Model) → Lawful m → OnlyPeak m 1 1 (1 ∷ []) None
  -- one pixel of air, any metric: distance 0, place 0
  pub lone_air : (m : Model) → Lawful m → OnlyReading m 1 1 (0 ∷ []) 0 0 (Some (0, 0))
  pub lone_air_peak : (m : Model) → Lawful m → OnlyPeak m 1 1 (0 ∷ []) (Some (0, 0))
  -- air at both ends of a row of five: the middle is 4 from both by squared Euclidean distance, names the first, and lies deepest
  pub first_of_equals : OnlyReading squared_euclidean 1 5 (0 ∷ 1 ∷ 1 ∷ 1 ∷ 0 ∷ []) 0 2 (Some (4, 0))
  pub first_of_equals_peak : OnlyPeak squared_euclidean 1 5 (0 ∷ 1 ∷ 1 ∷ 1 ∷ 0 ∷ []) (Some (4, 2))
  -- air at the left end of a row of three: the right end reads 4
  pub row_of_three : OnlyReading squared_euclidean 1 3 (0 ∷ 1 ∷ 1 ∷ []) 0 2 (Some (4, 0))
  -- two by two, all air: the first of four equal peaks
  pub all_air : OnlyReading squared_euclidean 2 2 (0 ∷ 0 ∷ 0 ∷ 0 ∷ []) 1 1 (Some (0, 3))
  pub all_air_peak : OnlyPeak squared_euclidean 2 2 (0 ∷ 0 ∷ 0 ∷ 0 ∷ []) (Some (0, 0))
