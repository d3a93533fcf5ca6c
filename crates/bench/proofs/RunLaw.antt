-- The law of runs.
use Rattle.std.proofs.Common.{◌≡◌, ℕ, List, ◌∷◌, Some, None, IsSomeAnd, Ok, Option, Result, sym, refl, ap, ◌∙◌, subst}
use Rattle.sheet.specs.declared.order.Order.{Order}
use Rattle.sheet.specs.declared.order.Order.TheVariants.{Parallel, Directional, Raster, Free}
use Rattle.sheet.specs.declared.refusal.Refusal.{Refusal}
use Rattle.sheet.specs.declared.size.Size.{Size}
use Rattle.sheet.specs.Images.{image_of}
use Rattle.sheet.specs.Refusals.{Answers}
use Rattle.metric.specs.Model.{Model}
use Rattle.metric.specs.Laws.{Lawful}
use Rattle.settling.specs.Orders.{Counts}
use Rattle.bench.specs.declared.held.Answer.{Answer}
use Rattle.bench.specs.declared.held.Answer.TheVariants.{Counted, Reading, Highest}
use Rattle.bench.specs.declared.held.Bench.{Bench}
use Rattle.bench.specs.declared.held.Call.{Call}
use Rattle.bench.specs.declared.held.Call.TheVariants.{Strike, Restore, Settle, Read, Peak, Reopen}
use Rattle.bench.specs.declared.held.State.TheVariants.{Open}
use Rattle.bench.specs.Truth.{ReadingTrue, PeakTrue}
use Rattle.bench.specs.Calls.{Request, request_of, strikes, restores, settles, reads, peaks, reopens, Scene, refusal_of, Answered}
use Rattle.bench.specs.Runs.{Event, event, LawfulCall, Run, opened, called, present, latest, state_after, GivenTrue, AllTrue}
use Rattle.bench.specs.Laws.{RunsAreTrue, RunsAgree, RunsCount, RunLaw, GoesOn}
use Rattle.bench.proofs.Alike.{same_reading, same_peak}
use Rattle.bench.proofs.Steps.{Holds, not_both, step, true_now}

-- what holds between calls holds at the end of every run
run_holds : (size : Size) (start : List ℕ) (es : List Event) (bench : Bench) (picture keys : List ℕ) → Run size start es bench picture keys → Holds size (state_after es) (present size start es) (latest es) bench picture keys
run_holds size start es bench picture keys (opened first due is blank) = record { bench_is = is; picture_is = refl; settled_is = λ s. absurd (not_both Open refl s) }
run_holds size start es bench picture keys (called {es = before} {picture = p} {keys = k} e run law pictures all-keys a) =
    step size _ _ _ e.found e.left p k picture keys (run_holds size start before e.found.bench p k run) pictures all-keys e.call e.gave law a

run_calls : (size : Size) (start : List ℕ) (es : List Event) (bench : Bench) (picture keys : List ℕ) → Run size start es bench picture keys → AllTrue size start es
run_calls size start es bench picture keys (opened first due is blank) = tt
run_calls size start es bench picture keys (called {es = before} {picture = p} {keys = k} e run law pictures all-keys a) =
    let holds = run_holds size start before e.found.bench p k run in (
      record { bench = holds.bench_is; answer = true_now size _ _ _ e.found e.left p k picture keys holds pictures all-keys e.call e.gave a },
      run_calls size start before e.found.bench p k run,
    )

runs_are_true : RunsAreTrue
runs_are_true size start es bench picture keys run =
    let holds = run_holds size start es bench picture keys run in
    record { calls = run_calls size start es bench picture keys run; state = holds.bench_is; present_picture = holds.picture_is }

-- a run goes on with every call
pub goes_on : (s : Scene) (request : Request) (t : Scene) (result : Result Answer Refusal) → LawfulCall request → Answered s request t result → GoesOn s request t result
goes_on s request t result law a size start es picture keys picture' keys' run pictures all-keys =
    let holds = run_holds size start es s.bench picture keys run in (
      record { bench = holds.bench_is; answer = true_now size _ _ _ s t picture keys picture' keys' holds pictures all-keys request result a },
      called (event s request t result) run law pictures all-keys a,
    )

-- so with a call by a value, of which the metric is lawful
pub call_goes_on : {M : Type 0} (model : M → Model) → ((m : M) → Lawful (model m)) → (call : Call M) (s t : Scene) (result : Result Answer Refusal) →
    Answered s (request_of model call) t result → GoesOn s (request_of model call) t result
call_goes_on model lawful (Strike row column) s t result a = goes_on s (strikes row column) t result tt a
call_goes_on model lawful (Restore row column) s t result a = goes_on s (restores row column) t result tt a
call_goes_on model lawful (Settle metric order) s t result a = goes_on s (settles (model metric.now) order) t result (lawful metric.now) a
call_goes_on model lawful (Read row column) s t result a = goes_on s (reads row column) t result tt a
call_goes_on model lawful Peak s t result a = goes_on s peaks t result tt a
call_goes_on model lawful Reopen s t result a = goes_on s reopens t result tt a

-- two facts of one metric
by_both : (o : Option Model) (P Q : Model → Type 0) (R : Type 0) → ((m : Model) → P m → Q m → R) → IsSomeAnd o P → IsSomeAnd o Q → R
by_both None P Q R f x y = absurd x
by_both (Some m) P Q R f x y = f m x y

-- what the last call of a run gave is true
given : (size : Size) (start : List ℕ) (es : List Event) (e : Event) (bench : Bench) (picture keys : List ℕ) (request : Request) (answer : Answer) →
    Run size start (e ∷ es) bench picture keys → e.call ≡ request → e.gave ≡ Ok answer → GivenTrue size (present size start es) (latest es) e.found request e.left answer
given size start es e bench picture keys request answer run asks gives =
    (coe 0 1 (i. Answers (refusal_of e.found (asks i)) (e.left ≡ e.found) (GivenTrue size (present size start es) (latest es) e.found (asks i) e.left) (gives i)) (run_calls size start (e ∷ es) bench picture keys run).0.answer).1

runs_agree : RunsAgree
runs_agree size size' start start' es es' e e' bench bench' picture keys picture' keys' answer answer' run run' alike = (
  (λ row column both.
      let x = given size start es e bench picture keys (reads row column) answer run both.asks both.gives in
      let y = given size' start' es' e' bench' picture' keys' (reads row column) answer' run' both.asks' both.gives' in
      let same : x.0 ≡ y.0 =
      by_both (latest es) _ _ (x.0 ≡ y.0)
      (λ m p q. same_reading m size.height size.width _ _ alike.air row column x.0 y.0 p q)
      x.1.1
      (coe 1 0 (i. IsSomeAnd (alike.metric i) (λ m. ReadingTrue m (alike.height i) (alike.width i) (image_of (alike.width i) (present size' start' es')) row column y.0)) y.1.1) in
      x.1.0 ∙ ap Reading same ∙ sym y.1.0),
  (λ both.
      let x = given size start es e bench picture keys peaks answer run both.asks both.gives in
      let y = given size' start' es' e' bench' picture' keys' peaks answer' run' both.asks' both.gives' in
      let same : x.0 ≡ y.0 =
      by_both (latest es) _ _ (x.0 ≡ y.0)
      (λ m p q. same_peak m size.height size.width _ _ alike.air x.0 y.0 p q)
      x.1.1
      (coe 1 0 (i. IsSomeAnd (alike.metric i) (λ m. PeakTrue m (alike.height i) (alike.width i) (image_of (alike.width i) (present size' start' es')) y.0)) y.1.1) in
      x.1.0 ∙ ap Highest same ∙ sym y.1.0),
)

runs_count : RunsCount
runs_count size start es e bench picture keys m count run gives = record {
  parallel = λ asks. (counts Parallel asks).soon;
  directional = λ asks. (counts Directional asks).soon;
  raster = λ asks. counts Raster asks;
  free_airy = λ asks. (counts Free asks).airy;
  free_airless = λ asks. (counts Free asks).airless;
}
  where
    counts : (order : Order) → e.call ≡ settles m order → Counts order m size (present size start es) count
    counts order asks =
        let x = given size start es e bench picture keys (settles m order) (Counted count) run asks gives in
        let counted : Counted count ≡ Counted x.0 = x.1.0 in
        let same : x.0 ≡ count = cc in
        subst (Counts order m size (present size start es)) same x.1.1.0

pub run_law : RunLaw
run_law = record { true_calls = runs_are_true; agreement = runs_agree; counts = runs_count }
