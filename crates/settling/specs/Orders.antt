-- Settling a picture by any order: what is refused, what the count is, and what becomes of the front.
use Rattle.std.specs.Prelude.{◌≡◌, ℕ, ◌*◌, ◌<◌, ◌≤◌, Bool, true, false, not, ◌||◌, List, length, Option, ◌≢◌, nat_lt}
use Rattle.sheet.specs.declared.order.Order.{Order}
use Rattle.sheet.specs.declared.order.Order.TheVariants.{Parallel, Directional, Raster, Free}
use Rattle.sheet.specs.declared.refusal.Refusal.{Refusal}
use Rattle.sheet.specs.declared.refusal.Refusal.TheVariants.{NotAdmitted, UnfitFront}
use Rattle.sheet.specs.declared.size.Size.{Size}
use Rattle.sheet.specs.Images.{image_of}
use Rattle.sheet.specs.Refusals.{check, passed}
use Rattle.metric.specs.Model.{Model}
use Rattle.front.specs.Waiting.{idle, many}
use Rattle.erosion.specs.Memory.{needs_all}
use Rattle.erosion.specs.Rounds.{CountsRounds, CountsPhases}
use Rattle.settling.specs.Spreading.{too_small}

-- whether an order admits a metric
abbrev pub admits : Order → Model → Bool
admits Parallel m = true
admits Directional m = m.splits
admits Raster m = m.steady
admits Free m = m.steady

-- the free order wants a front with a place for each pixel, of which none waits; the others want none
abbrev pub unfit : Order → Size → List Bool → Bool
unfit Parallel size waits = false
unfit Directional size waits = false
unfit Raster size waits = false
unfit Free size waits = too_small size waits || nat_lt 0 (many waits)

-- the refusal of a settling: first for memory, then for the metric, then for the front
abbrev pub settle_refusal : Order → Model → Size → List ℕ → List ℕ → List ℕ → List Bool → Option Refusal
settle_refusal order m size picture keys spare waits =
    needs_all size picture keys spare
    (check (not (admits order m)) NotAdmitted (check (unfit order size waits) UnfitFront passed))

-- the count of a free settling: at least as many as there are pixels where there is air, else 0
pub record CountsTakes (size : Size) (picture : List ℕ) (count : ℕ) : Type 0 where
  pub airy : (r c : ℕ) → r < size.height → c < size.width → image_of size.width picture r c ≡ 0 → size.width * size.height ≤ count
  pub airless : ((r c : ℕ) → r < size.height → c < size.width → image_of size.width picture r c ≢ 0) → count ≡ 0

-- the count of a settling
abbrev pub Counts : Order → Model → Size → List ℕ → ℕ → Type 0
Counts Parallel m size picture count = CountsRounds m size picture count
Counts Directional m size picture count = CountsPhases m size picture count
Counts Raster m size picture count = count ≡ 2
Counts Free m size picture count = CountsTakes size picture count

-- the free order leaves its front empty, with the count as tally; the others leave it as it was
abbrev pub LeavesFront : Order → ℕ → List Bool → ℕ → List Bool → ℕ → Type 0
LeavesFront Parallel count waits tally waits' tally' = (waits' ≡ waits) × (tally' ≡ tally)
LeavesFront Directional count waits tally waits' tally' = (waits' ≡ waits) × (tally' ≡ tally)
LeavesFront Raster count waits tally waits' tally' = (waits' ≡ waits) × (tally' ≡ tally)
LeavesFront Free count waits tally waits' tally' = (waits' ≡ idle (length waits)) × (tally' ≡ count)
