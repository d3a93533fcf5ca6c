use Rattle.reader.specs.Lists.{lines_of}
use Rattle.reader.proofs.Skipping.{Skipped}
use Rattle.reader.proofs.calls.Calls.of.Given as goal

abbrev pub invariant-loop-line : goal.invariant-loop-line
invariant-loop-line l = Skipped (lines_of l.text) l._line l.rest
