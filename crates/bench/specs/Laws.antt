-- The law of runs.
use Rattle.std.specs.Prelude.{◌≡◌, ℕ, ◌+◌, ◌*◌, ◌<◌, ◌≤◌, max, Bool, List, ◌∷◌, Ok, Result}
use Rattle.sheet.specs.declared.order.Order.TheVariants.{Parallel, Directional, Raster, Free}
use Rattle.sheet.specs.declared.refusal.Refusal.{Refusal}
use Rattle.sheet.specs.declared.size.Size.{Size}
use Rattle.sheet.specs.Images.{image_of}
use Rattle.metric.specs.Model.{Model}
use Rattle.bench.specs.declared.held.Answer.{Answer}
use Rattle.bench.specs.declared.held.Answer.TheVariants.{Counted}
use Rattle.bench.specs.declared.held.Bench.{Bench}
use Rattle.bench.specs.Truth.{Air, Airless, SameAir}
use Rattle.bench.specs.Calls.{Request, settles, reads, peaks, Scene, scene, bench_of}
use Rattle.bench.specs.Runs.{Event, event, Keeps, Run, present, latest, state_after, TrueCall, AllTrue}

-- a run is true: every call was true when it was made, and bench and picture are what the accepted calls made of them
pub record RunTrue (size : Size) (start : List ℕ) (es : List Event) (bench : Bench) (picture : List ℕ) : Type 0 where
  pub calls : AllTrue size start es
  pub state : bench ≡ bench_of size (state_after es)
  pub present_picture : picture ≡ present size start es

-- every run is true
abbrev pub RunsAreTrue : Type 0
RunsAreTrue = (size : Size) (start : List ℕ) (es : List Event) (bench : Bench) (picture keys : List ℕ) → Run size start es bench picture keys → RunTrue size start es bench picture

-- the last calls of two runs ask the same, and both are accepted
pub record BothGive (e e' : Event) (request : Request) (answer answer' : Answer) : Type 0 where
  pub asks : e.call ≡ request
  pub asks' : e'.call ≡ request
  pub gives : e.gave ≡ Ok answer
  pub gives' : e'.gave ≡ Ok answer'

-- two benches of one size, each after a run of its own, settled by one metric and with the same present air
pub record Alike (size size' : Size) (start start' : List ℕ) (es es' : List Event) : Type 0 where
  pub width : size.width ≡ size'.width
  pub height : size.height ≡ size'.height
  pub metric : latest es ≡ latest es'
  pub air : SameAir size.height size.width (image_of size.width (present size start es)) (image_of size.width (present size' start' es'))

-- such benches give equal readings and equal peaks
abbrev pub RunsAgree : Type 0
RunsAgree =
    (size size' : Size) (start start' : List ℕ) (es es' : List Event) (e e' : Event) (bench bench' : Bench) (picture keys picture' keys' : List ℕ) (answer answer' : Answer) →
    Run size start (e ∷ es) bench picture keys → Run size' start' (e' ∷ es') bench' picture' keys' → Alike size size' start start' es es' →
    ((row column : ℕ) → BothGive e e' (reads row column) answer answer' → answer ≡ answer') × (BothGive e e' peaks answer answer' → answer ≡ answer')

-- the bounds of what a settling of a picture counts, by its order
pub record Bounded (m : Model) (size : Size) (picture : List ℕ) (call : Request) (count : ℕ) : Type 0 where
  pub parallel : call ≡ settles m Parallel → count ≤ max size.width size.height
  pub directional : call ≡ settles m Directional → count ≤ 2 * (size.width + size.height)
  pub raster : call ≡ settles m Raster → count ≡ 2
  pub free_airy : call ≡ settles m Free → (r c : ℕ) → r < size.height → c < size.width → Air (image_of size.width picture) r c → size.width * size.height ≤ count
  pub free_airless : call ≡ settles m Free → Airless size.height size.width (image_of size.width picture) → count ≡ 0

-- in every run each settling's count is within the bounds of its order
abbrev pub RunsCount : Type 0
RunsCount =
    (size : Size) (start : List ℕ) (es : List Event) (e : Event) (bench : Bench) (picture keys : List ℕ) (m : Model) (count : ℕ) →
    Run size start (e ∷ es) bench picture keys → e.gave ≡ Ok (Counted count) → Bounded m size (present size start es) e.call count

-- the law of runs, whole
pub record RunLaw : Type 0 where
  pub true_calls : RunsAreTrue
  pub agreement : RunsAgree
  pub counts : RunsCount

-- wherever a run ends at the bench that a call finds, the call is true, and the run goes on to what it leaves
abbrev pub GoesOn : Scene → Request → Scene → Result Answer Refusal → Type 0
GoesOn s request t result =
    (size : Size) (start : List ℕ) (es : List Event) (picture keys picture' keys' : List ℕ) →
    Run size start es s.bench picture keys →
    Keeps (size.width * size.height) picture s.picture t.picture picture' →
    Keeps (size.width * size.height) keys s.keys t.keys keys' →
    TrueCall size start es (event s request t result) × Run size start (event s request t result ∷ es) t.bench picture' keys'

-- so it is with a call that needs the picture alone, whatever else there is
abbrev pub PictureGoesOn : Bench → Request → List ℕ → List ℕ → Result Answer Refusal → Type 0
PictureGoesOn b request picture picture' result =
    (keys spare : List ℕ) (waits : List Bool) (tally : ℕ) → GoesOn (scene b picture keys spare waits tally) request (scene b picture' keys spare waits tally) result

-- and with one that needs the keys alone
abbrev pub KeysGoOn : Bench → Request → List ℕ → Bench → List ℕ → Result Answer Refusal → Type 0
KeysGoOn b request keys b' keys' result =
    (picture spare : List ℕ) (waits : List Bool) (tally : ℕ) → GoesOn (scene b picture keys spare waits tally) request (scene b' picture keys' spare waits tally) result
