-- A call that has nothing to refuse accepts.
use Rattle.std.proofs.Common.{◌≡◌, Bool, false, is_some, Some, None, Ok, Err, Option, Result, sym, ap, ◌∙◌}
use Rattle.std.proofs.lemmas.Bool.{cond-false, true≢false}
use Rattle.sheet.specs.declared.refusal.Refusal.{Refusal}
use Rattle.sheet.specs.Refusals.{Answers, check}

pub accepted : {A : Type 0} (due : Option Refusal) (kept : Type 0) (given : A → Type 0) (r : Result A Refusal) → due ≡ None → Answers due kept given r → (a : A) × given a
accepted due kept given (Ok a) e h = (a, h.1)
accepted due kept given (Err x) e h = absurd (true≢false (ap is_some (sym h.0 ∙ e)))

pub check_passed : (fails : Bool) (refusal : Refusal) (rest : Option Refusal) → fails ≡ false → check fails refusal rest ≡ rest
check_passed fails refusal rest e = cond-false fails (Some refusal) rest e
