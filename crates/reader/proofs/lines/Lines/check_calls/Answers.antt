use Rattle.std.proofs.Common.{◌≡◌, Some, Ok, sym, ◌∙◌, rules}
use Rattle.reader.proofs.Taking.{taken}
use Rattle.reader.proofs.lines.Lines.check_calls.Goals as goal

pub loop-line-preserved : goal.loop-line-preserved
loop-line-preserved c =
    let is : c.next.result ≡ Some (Ok c.in_ok-line.field-0) = search rules in
    let past = taken c.loop-line.line-iterator c.next.new.self c.in_ok-line.field-0 c.in_ok-entry.field-0 (rw is at c.next.ensures.steps) (sym c.entry.ensures ∙ c.in_ok-entry.was) in
    (tt, tt, sym past.1 ∙ c.loop-line.invariant.2)
