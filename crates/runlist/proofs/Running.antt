-- The calls of a list, made one after another.
use Rattle.std.proofs.Common.{◌≡◌, ℕ, ◌*◌, ◌≤◌, Bool, false, ◌||◌, List, [], ◌∷◌, ◌++◌, length, replicate, is_some, refl, None, Ok, Err, IsOk, Option, Result, sym, ap, ◌∙◌, subst, le_refl, arith}
use lib.ListN.{length-replicate}
use Rattle.std.proofs.lemmas.Bool.{le-ltb, true≢false}
use Rattle.std.proofs.lemmas.Bool.Decides.{nat_tests}
use Rattle.sheet.specs.declared.refusal.Refusal.{Refusal}
use Rattle.sheet.specs.declared.size.Size.{Size}
use Rattle.sheet.specs.Refusals.{bad_side, Answers}
use Rattle.sheet.proofs.Answered.{check_passed}
use Rattle.metric.specs.Model.{Model}
use Rattle.erosion.specs.Memory.{Fits}
use Rattle.sheets.specs.Calls.{open_refusal}
use Rattle.bench.specs.declared.held.Answer.{Answer as GivenAnswer}
use Rattle.bench.specs.declared.held.Bench.{Bench}
use Rattle.bench.specs.Calls.{Request, Scene}
use Rattle.bench.specs.Runs.{Run, event, finds_all}
use Rattle.bench.specs.Laws.{GoesOn}
use Rattle.reader.specs.declared.list.Entry.{Entry}
use Rattle.writer.specs.declared.answer.Answer.{Answer}
use Rattle.runlist.specs.Answering.{request_in, outcome_of, AnsweredInTurn, none, next, carbon, Running}

-- a bench that is newly opened over carbon alone
pub running_none : (m : Model) (size : Size) (bench : Bench) (picture keys : List ℕ) → bench.size.width ≡ size.width → bench.size.height ≡ size.height → picture ≡ carbon size →
    Run bench.size picture [] bench picture keys → Running size.width size.height m [] [] bench picture keys
running_none m size bench picture keys wide high is run =
    let same : picture ≡ carbon bench.size = is ∙ (λ k. replicate (sym wide k * sym high k) 1) in
    record {
      size = bench.size;
      is_wide = wide;
      is_high = high;
      events = [];
      run = subst (λ start. Run bench.size start [] bench picture keys) same run;
      true_calls = tt;
      in_turn = none;
    }

-- one more call, with its answer
pub running_next : (w h : ℕ) (m : Model) (entries : List Entry) (answers : List Answer) (s t : Scene) (request : Request) (result : Result GivenAnswer Refusal) (entry : Entry) (answer : Answer) →
    Running w h m entries answers s.bench s.picture s.keys → GoesOn s request t result → request ≡ request_in m entry.call → answer ≡ record { line = entry.line; outcome = outcome_of w result } →
    Running w h m (entries ++ entry ∷ []) (answers ++ answer ∷ []) t.bench t.picture t.keys
running_next w h m entries answers s t request result entry answer r goes asks is =
    let on = goes r.size (carbon r.size) r.events s.picture s.keys t.picture t.keys r.run finds_all finds_all in
    record {
      size = r.size;
      is_wide = r.is_wide;
      is_high = r.is_high;
      events = event s request t result ∷ r.events;
      run = on.1;
      true_calls = (on.0, r.true_calls);
      in_turn = subst (λ (a : Answer). AnsweredInTurn w m (entries ++ entry ∷ []) (event s request t result ∷ r.events) (answers ++ a ∷ [])) (sym is) (next entry (event s request t result) r.in_turn asks);
    }

-- the same with equal calls and equal answers
pub running_same : (w h : ℕ) (m : Model) (entries entries' : List Entry) (answers answers' : List Answer) (bench : Bench) (picture keys : List ℕ) →
    Running w h m entries answers bench picture keys → entries' ≡ entries → answers' ≡ answers → Running w h m entries' answers' bench picture keys
running_same w h m entries entries' answers answers' bench picture keys r e f = coe 0 1 (k. Running w h m (sym e k) (sym f k) bench picture keys) r

-- a bench of a sound size, with memory that is long enough, is opened
pub opens : (size : Size) (picture keys : List ℕ) → picture ≡ carbon size → Fits size keys → open_refusal size.width size.height picture keys ≡ None
opens size picture keys is fits =
    check_passed _ _ _ (both _ _ (sound size.width size.columns size.wide) (sound size.height size.rows size.tall))
    ∙ check_passed _ _ _ (le-ltb _ _ (subst (λ n. size.width * size.height ≤ n) (sym (ap length is ∙ length-replicate (size.width * size.height) 1)) (le_refl _)))
    ∙ check_passed _ _ _ (le-ltb _ _ fits)
  where
    sound : (n : ℕ) → 1 ≤ n → n ≤ 1024 → bad_side n ≡ false
    sound n low high = grind (arith, nat_tests)

    both : (a b : Bool) → a ≡ false → b ≡ false → (a || b) ≡ false
    both a b e f = grind (arith, nat_tests)

-- a call that has nothing to refuse accepts
pub accepts : {A : Type 0} (due : Option Refusal) (kept : Type 0) (given : A → Type 0) (r : Result A Refusal) → Answers due kept given r → due ≡ None → IsOk r
accepts due kept given (Ok a) h e = refl
accepts due kept given (Err x) h e = absurd (true≢false (ap is_some (sym h.0 ∙ e)))
