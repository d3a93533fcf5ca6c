-- Runs of a bench: it is newly opened over a picture, and then any list of calls is made, refused ones included.
use Rattle.std.specs.Prelude.{◌≡◌, ℕ, ◌*◌, ◌<◌, List, [], ◌∷◌, length, Some, None, IsSomeAnd, Ok, Err, Option, Result}
use Rattle.sheet.specs.declared.refusal.Refusal.{Refusal}
use Rattle.sheet.specs.declared.size.Size.{Size}
use Rattle.sheet.specs.Images.{image_of}
use Rattle.sheet.specs.Refusals.{Answers}
use Rattle.metric.specs.Model.{Model}
use Rattle.metric.specs.Laws.{Lawful}
use Rattle.settling.specs.Orders.{Counts, LeavesFront}
use Rattle.sheets.specs.Calls.{open_refusal, marked, blanked}
use Rattle.bench.specs.declared.held.Answer.{Answer}
use Rattle.bench.specs.declared.held.Answer.TheVariants.{Done, Counted, Reading, Highest}
use Rattle.bench.specs.declared.held.Bench.{Bench}
use Rattle.bench.specs.declared.held.State.{State}
use Rattle.bench.specs.declared.held.State.TheVariants.{Open, Settled}
use Rattle.bench.specs.Truth.{ReadingTrue, PeakTrue}
use Rattle.bench.specs.Calls.{Request, strikes, restores, settles, reads, peaks, reopens, Scene, bench_of, refusal_of, Gives, Answered}

-- a call as it happened: what it asked, what it found, what it gave and what it left
pub record Event : Type 0 where
  pub call : Request
  pub found : Scene
  pub gave : Result Answer Refusal
  pub left : Scene

-- a call that found s, asked this, and left t
abbrev pub event : Scene → Request → Scene → Result Answer Refusal → Event
event s request t result = record { call = request; found = s; gave = result; left = t }

-- a memory from call to call: the call finds all that was kept, and what it leaves is kept; or it is handed too little for n pixels, and
-- what was kept stays
pub data Keeps (n : ℕ) : List ℕ → List ℕ → List ℕ → List ℕ → Type 0 where
  finds_all : {kept left : List ℕ} → Keeps n kept kept left left
  too_little : {kept handed left : List ℕ} → length handed < n → Keeps n kept handed left kept

-- the metric of a settling keeps the five laws and tells truly
abbrev pub LawfulCall : Request → Type 0
LawfulCall (settles m order) = Lawful m
LawfulCall _ = Unit {0}

-- a bench of this size was opened over the picture start; these calls happened, the latest first; and now bench, picture and keys are
-- these. Spare and front are free at each call
pub data Run (size : Size) (start : List ℕ) : List Event → Bench → List ℕ → List ℕ → Type 0 where
  opened : {bench : Bench} {keys' : List ℕ} (keys : List ℕ) → open_refusal size.width size.height start keys ≡ None → bench ≡ bench_of size Open → keys' ≡ blanked size keys → Run size start [] bench start keys'
  called : {es : List Event} {picture keys picture' keys' : List ℕ} (e : Event)
      → Run size start es e.found.bench picture keys
      → LawfulCall e.call
      → Keeps (size.width * size.height) picture e.found.picture e.left.picture picture'
      → Keeps (size.width * size.height) keys e.found.keys e.left.keys keys'
      → Answered e.found e.call e.left e.gave
      → Run size start (e ∷ es) e.left.bench picture' keys'

-- an accepted call changes what a refused one leaves
abbrev pub accepted : {A : Type 0} → Result Answer Refusal → (A → A) → A → A
accepted (Ok answer) change x = change x
accepted (Err refusal) change x = x

-- a strike makes its pixel air (byte 0), a restore makes it carbon (byte 1)
abbrev pub edited : Size → Request → List ℕ → List ℕ
edited size (strikes row column) picture = marked size picture row column 0
edited size (restores row column) picture = marked size picture row column 1
edited size _ picture = picture

-- the present picture: the opening's with every accepted strike and restore done in turn
abbrev pub present : Size → List ℕ → List Event → List ℕ
present size start [] = start
present size start (e ∷ es) = accepted e.gave (edited size e.call) (present size start es)

-- a settling's metric takes the place of the former one
abbrev pub settled_with : Request → Option Model → Option Model
settled_with (settles m order) former = Some m
settled_with _ former = former

-- the metric of the latest settling
abbrev pub latest : List Event → Option Model
latest [] = None
latest (e ∷ es) = accepted e.gave (settled_with e.call) (latest es)

-- a settling leaves the bench settled, a reopening leaves it open
abbrev pub state_with : Request → State → State
state_with (settles m order) former = Settled
state_with reopens former = Open
state_with _ former = former

-- the present state: open at first, and then as the accepted calls left it
abbrev pub state_after : List Event → State
state_after [] = Open
state_after (e ∷ es) = accepted e.gave (state_with e.call) (state_after es)

-- what a call gave is true of a picture, by the metric of the latest settling
abbrev pub GivenTrue : Size → List ℕ → Option Model → Scene → Request → Scene → Answer → Type 0
GivenTrue size picture metric s (strikes row column) t answer = answer ≡ Done
GivenTrue size picture metric s (restores row column) t answer = answer ≡ Done
GivenTrue size picture metric s (settles m order) t answer =
    Gives Counted answer (λ count. Counts order m size picture count × LeavesFront order count s.waits s.tally t.waits t.tally)
GivenTrue size picture metric s (reads row column) t answer =
    Gives Reading answer (λ reading. IsSomeAnd metric (λ m. ReadingTrue m size.height size.width (image_of size.width picture) row column reading))
GivenTrue size picture metric s peaks t answer =
    Gives Highest answer (λ peak. IsSomeAnd metric (λ m. PeakTrue m size.height size.width (image_of size.width picture) peak))
GivenTrue size picture metric s reopens t answer = answer ≡ Done

-- a call that came after these is true: the bench was as they left it, it is refused by the table alone, a refused call leaves all as it
-- was, and what an accepted one gives is true of the present picture by the latest settling's metric
pub record TrueCall (size : Size) (start : List ℕ) (es : List Event) (e : Event) : Type 0 where
  pub bench : e.found.bench ≡ bench_of size (state_after es)
  pub answer : Answers (refusal_of e.found e.call) (e.left ≡ e.found) (GivenTrue size (present size start es) (latest es) e.found e.call e.left) e.gave

-- every call was true when it was made
abbrev pub AllTrue : Size → List ℕ → List Event → Type 0
AllTrue size start [] = Unit {0}
AllTrue size start (e ∷ es) = TrueCall size start es e × AllTrue size start es
