use Rattle.std.proofs.Common.{◌≡◌, ℕ, false, Some, None, Option, MatchOption, sym, ap, ◌∙◌}
use Rattle.std.specs.Option.{is_some}
use Rattle.std.proofs.lemmas.Bool.{true≢false}
use Rattle.front.specs.Fronts.{queue_waits}
use Rattle.front.proofs.Marked.{all_false}
use Rattle.front.proofs.queue_front.methods.QueueFrontFront.start.Goals as goal

none_taken : (A : Type 0) (B : ℕ → Type 0) (taken : Option ℕ) → is_some taken ≡ false → MatchOption taken A B → A
none_taken A B None e h = h
none_taken A B (Some place) e h = absurd (true≢false e)

pub returns-clause-waits : goal.returns-clause-waits
returns-clause-waits c =
    let t = none_taken _ _ c.take.result (sym c.is_some.ensures ∙ c.loop-test.false) c.take.ensures.taken in
    ap queue_waits t.1 ∙ all_false (queue_waits c.loop.self) _ c.loop.invariant.0 t.0
