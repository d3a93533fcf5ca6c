use Rattle.std.proofs.Common.{◌≡◌}
use Rattle.reader.specs.Lists.{call_fault}
use Rattle.reader.specs.Reading.{lines_left}
use Rattle.reader.proofs.lines.Lines.check_calls.Given as goal

abbrev pub invariant-loop-line : goal.invariant-loop-line
invariant-loop-line l =
    (goal.iterator-loop-line).can_next l.line-iterator
    × (goal.iterator-loop-line).is_finite l.line-iterator
    × (call_fault l.line-iterator.number (lines_left l.line-iterator) ≡ call_fault l.fn.self.number (lines_left l.fn.self))
