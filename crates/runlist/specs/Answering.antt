-- What the answer to a run list is: its calls, made in turn on a bench, and what each gave.
use Rattle.std.specs.Prelude.{◌≡◌, ℕ, ◌*◌, ◌/◌, ◌%◌, List, [], ◌∷◌, ◌++◌, replicate, Some, None, Ok, Err, Option, Result}
use Rattle.sheet.specs.declared.refusal.Refusal.{Refusal}
use Rattle.sheet.specs.declared.size.Size.{Size}
use Rattle.metric.specs.Model.{Model}
use Rattle.metric.specs.Metrics.{city_block, chessboard, chamfer, squared_euclidean}
use Rattle.bench.specs.declared.held.Answer.{Answer as GivenAnswer}
use Rattle.bench.specs.declared.held.Answer.TheVariants.{Done, Counted, Reading, Highest}
use Rattle.bench.specs.declared.held.Bench.{Bench}
use Rattle.bench.specs.Calls.{Request, strikes, restores, settles, reads, peaks, reopens}
use Rattle.bench.specs.Runs.{Event, Run, AllTrue}
use Rattle.words.specs.declared.call.Call.{Call}
use Rattle.words.specs.declared.call.Call.TheVariants.{Strike, Restore, Settle, Read, Peak, Reopen}
use Rattle.words.specs.declared.metric_name.MetricName.{MetricName}
use Rattle.words.specs.declared.metric_name.MetricName.TheVariants as name
use Rattle.reader.specs.declared.list.Entry.{Entry}
use Rattle.reader.specs.declared.list.Fault.{Fault}
use Rattle.reader.specs.Lists.{RunList}
use Rattle.writer.specs.declared.answer.Answer.{Answer}
use Rattle.writer.specs.declared.answer.Figures.{Figures}

-- the metric of a name
abbrev pub model_of : MetricName → Model
model_of name.City = city_block
model_of name.Chess = chessboard
model_of name.Chamfer = chamfer
model_of name.Euclid = squared_euclidean

-- what a call of a list asks of a bench, by the list's metric
abbrev pub request_in : Model → Call → Request
request_in m (Strike row column) = strikes row column
request_in m (Restore row column) = restores row column
request_in m (Settle order) = settles m order
request_in m (Read row column) = reads row column
request_in m Peak = peaks
request_in m Reopen = reopens

-- the figures of a distance and the place of a pixel on a sheet w wide, where there are any
abbrev pub figures : ℕ → Option (ℕ × ℕ) → Option Figures
figures w None = None
figures w (Some found) = Some (record { distance = found.0; row = found.1 / w; column = found.1 % w })

-- the figures of what a call gave: a settling its count, 0 and 0; all zeros where there is nothing to tell
abbrev pub figures_of : ℕ → GivenAnswer → Option Figures
figures_of w Done = Some (record { distance = 0; row = 0; column = 0 })
figures_of w (Counted count) = Some (record { distance = count; row = 0; column = 0 })
figures_of w (Reading reading) = figures w reading
figures_of w (Highest peak) = figures w peak

-- how a call ended: with figures, or refused
abbrev pub outcome_of : ℕ → Result GivenAnswer Refusal → Result (Option Figures) Refusal
outcome_of w (Ok given) = Ok (figures_of w given)
outcome_of w (Err refusal) = Err refusal

-- the answer to the call of a line
abbrev pub answer_to : ℕ → Entry → Event → Answer
answer_to w entry e = record { line = entry.line; outcome = outcome_of w e.gave }

-- the calls of the entries were made in turn, which are the events, the latest first; and these are the answers, the first first
pub data AnsweredInTurn (w : ℕ) (m : Model) : List Entry → List Event → List Answer → Type 0 where
  none : AnsweredInTurn w m [] [] []
  next : {entries : List Entry} {es : List Event} {answers : List Answer} (entry : Entry) (e : Event) → AnsweredInTurn w m entries es answers → e.call ≡ request_in m entry.call →
      AnsweredInTurn w m (entries ++ entry ∷ []) (e ∷ es) (answers ++ answer_to w entry e ∷ [])

-- a picture of carbon alone
abbrev pub carbon : Size → List ℕ
carbon size = replicate (size.width * size.height) 1

-- the calls were run: a bench so wide and high was opened over carbon alone, they were made in turn, each was true when it was made,
-- and now bench, picture and keys are these
pub record Running (width height : ℕ) (m : Model) (entries : List Entry) (answers : List Answer) (bench : Bench) (picture keys : List ℕ) : Type 0 where
  pub size : Size
  pub is_wide : size.width ≡ width
  pub is_high : size.height ≡ height
  pub events : List Event
  pub run : Run size (carbon size) events bench picture keys
  pub true_calls : AllTrue size (carbon size) events
  pub in_turn : AnsweredInTurn width m entries events answers

-- the same, whatever became of the bench and its memory
abbrev pub Ran : ℕ → ℕ → Model → List Entry → List Answer → Type 0
Ran width height m entries answers = (bench : Bench) × (picture : List ℕ) × (keys : List ℕ) × Running width height m entries answers bench picture keys

-- the answer with a fault: its line, and the refusal
abbrev pub fault_answer : Fault → Answer
fault_answer due = record { line = due.line; outcome = Err due.refusal }

-- the answers to a text: those of its run, or where it is refused one answer with the fault
abbrev pub AnswersTo : Result RunList Fault → List Answer → Type 0
AnswersTo (Ok list) answers = Ran list.values.width list.values.height (model_of list.values.metric) list.entries answers
AnswersTo (Err due) answers = answers ≡ fault_answer due ∷ []
