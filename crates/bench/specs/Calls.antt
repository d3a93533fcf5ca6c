-- The calls of a bench: what each asks, when it is refused, and what it does and gives.
use Rattle.std.specs.Prelude.{◌≡◌, ℕ, ◌*◌, Bool, true, false, List, Ok, Err, Option, Result}
use Rattle.sheet.specs.declared.order.Order.{Order}
use Rattle.sheet.specs.declared.order.Order.TheVariants.{Free}
use Rattle.sheet.specs.declared.refusal.Refusal.{Refusal}
use Rattle.sheet.specs.declared.refusal.Refusal.TheVariants.{WrongState}
use Rattle.sheet.specs.declared.size.Size.{Size}
use Rattle.sheet.specs.Refusals.{check, Answers}
use Rattle.metric.specs.Model.{Model}
use Rattle.erosion.specs.Rounds.{Settles}
use Rattle.settling.specs.Orders.{settle_refusal, Counts, LeavesFront}
use Rattle.sheets.specs.Calls.{pixel_refusal, memory_refusal, marked, blanked, reading_at, peak_of}
use Rattle.bench.specs.declared.held.Answer.{Answer}
use Rattle.bench.specs.declared.held.Answer.TheVariants.{Done, Counted, Reading, Highest}
use Rattle.bench.specs.declared.held.Bench.{Bench}
use Rattle.bench.specs.declared.held.Call.{Call}
use Rattle.bench.specs.declared.held.Call.TheVariants.{Strike, Restore, Settle, Read, Peak, Reopen}
use Rattle.bench.specs.declared.held.State.{State}
use Rattle.bench.specs.declared.held.State.TheVariants.{Open, Settled}

-- what a call may ask, with the metric's numbers in the metric's place
pub data Request : Type 0 where
  strikes : ℕ → ℕ → Request
  restores : ℕ → ℕ → Request
  settles : Model → Order → Request
  reads : ℕ → ℕ → Request
  peaks : Request
  reopens : Request

-- what a call asks, given what metrics mean
abbrev pub request_of : {M : Type 0} → (M → Model) → Call M → Request
request_of model (Strike row column) = strikes row column
request_of model (Restore row column) = restores row column
request_of model (Settle metric order) = settles (model metric.now) order
request_of model (Read row column) = reads row column
request_of model Peak = peaks
request_of model Reopen = reopens

-- a bench with all that a call is handed, or leaves: the memories, which places of the front wait, and the front's tally
pub record Scene : Type 0 where
  pub bench : Bench
  pub picture : List ℕ
  pub keys : List ℕ
  pub spare : List ℕ
  pub waits : List Bool
  pub tally : ℕ

abbrev pub scene : Bench → List ℕ → List ℕ → List ℕ → List Bool → ℕ → Scene
scene b p k s w t = record { bench = b; picture = p; keys = k; spare = s; waits = w; tally = t }

-- the same with another picture, with other keys, with another bench
abbrev pub with_picture : Scene → List ℕ → Scene
with_picture s p = scene s.bench p s.keys s.spare s.waits s.tally

abbrev pub with_keys : Scene → List ℕ → Scene
with_keys s k = scene s.bench s.picture k s.spare s.waits s.tally

abbrev pub with_bench : Scene → Bench → Scene
with_bench s b = scene b s.picture s.keys s.spare s.waits s.tally

-- a bench of a size in a state, and the same bench in another state
abbrev pub bench_of : Size → State → Bench
bench_of size state = record { size = size; state = state }

abbrev pub turned : Bench → State → Bench
turned bench state = bench_of bench.size state

-- two states are not the same
abbrev pub differ : State → State → Bool
differ Open Settled = true
differ Settled Open = true
differ _ _ = false

-- the refusal of a call that wants a state: first for the state, then by the rest
abbrev pub in_state : State → State → Option Refusal → Option Refusal
in_state wanted state rest = check (differ wanted state) WrongState rest

-- the state that a call wants
abbrev pub wants : Request → State
wants (strikes row column) = Open
wants (restores row column) = Open
wants (settles m order) = Open
wants (reads row column) = Settled
wants peaks = Settled
wants reopens = Settled

-- the refusal of the same call on a sheet
abbrev pub sheet_refusal : Scene → Request → Option Refusal
sheet_refusal s (strikes row column) = pixel_refusal s.bench.size s.picture row column
sheet_refusal s (restores row column) = pixel_refusal s.bench.size s.picture row column
sheet_refusal s (settles m order) = settle_refusal order m s.bench.size s.picture s.keys s.spare s.waits
sheet_refusal s (reads row column) = pixel_refusal s.bench.size s.keys row column
sheet_refusal s peaks = memory_refusal s.bench.size s.keys
sheet_refusal s reopens = memory_refusal s.bench.size s.keys

-- the refusal that is due
abbrev pub refusal_of : Scene → Request → Option Refusal
refusal_of s request = in_state (wants request) s.bench.state (sheet_refusal s request)

-- an answer is a value of this kind, as Counted or Reading, of which P holds
abbrev pub Gives : {A : Type 0} → (A → Answer) → Answer → (A → Type 0) → Type 0
Gives {A} kind answer P = (value : A) × ((answer ≡ kind value) × P value)

-- the answer that a result stands for
abbrev pub answering : {A : Type 0} → (A → Answer) → Result A Refusal → Result Answer Refusal
answering answer (Ok x) = Ok (answer x)
answering answer (Err refusal) = Err refusal

-- an accepted settling: the keys and the spare hold the settled image, and the count is the order's own
pub record Settling (m : Model) (order : Order) (before after : Scene) (count : ℕ) : Type 0 where
  pub bench : after.bench ≡ turned before.bench Settled
  pub picture : after.picture ≡ before.picture
  pub memory : Settles m before.bench.size before.picture before.keys after.keys before.spare after.spare
  pub counts : Counts order m before.bench.size before.picture count
  pub front : LeavesFront order count before.waits before.tally after.waits after.tally

-- what an accepted call does and gives
abbrev pub Does : Scene → Request → Scene → Answer → Type 0
Does s (strikes row column) t answer = (answer ≡ Done) × (t ≡ with_picture s (marked s.bench.size s.picture row column 0))
Does s (restores row column) t answer = (answer ≡ Done) × (t ≡ with_picture s (marked s.bench.size s.picture row column 1))
Does s (settles m order) t answer = Gives Counted answer (Settling m order s t)
Does s (reads row column) t answer = (answer ≡ Reading (reading_at s.bench.size s.keys row column)) × (t ≡ s)
Does s peaks t answer = (answer ≡ Highest (peak_of (s.bench.size.width * s.bench.size.height) s.keys)) × (t ≡ s)
Does s reopens t answer = (answer ≡ Done) × (t ≡ with_keys (with_bench s (turned s.bench Open)) (blanked s.bench.size s.keys))

-- a call: it is refused exactly as is due, and then leaves all as it was; else it does what it is to do
abbrev pub Answered : Scene → Request → Scene → Result Answer Refusal → Type 0
Answered s request t result = Answers (refusal_of s request) (t ≡ s) (Does s request t) result

-- whether a call used the front: only an accepted settling by the free order does
abbrev pub by_free : Order → Bool
by_free Free = true
by_free _ = false

abbrev pub may_use_front : Request → Bool
may_use_front (settles m order) = by_free order
may_use_front _ = false

abbrev pub uses_front : Request → Result Answer Refusal → Bool
uses_front request (Ok answer) = may_use_front request
uses_front request (Err refusal) = false
