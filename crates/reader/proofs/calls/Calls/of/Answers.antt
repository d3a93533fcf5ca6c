use Rattle.std.proofs.Common.{inl, arith}
use Rattle.reader.specs.Lists.{lines_of}
use Rattle.reader.proofs.Skipping.{skip_more, skipped}
use Rattle.reader.proofs.calls.Calls.of.Goals as goal

pub loop-line-preserved : goal.loop-line-preserved
loop-line-preserved c =
    skip_more (lines_of c.args.text.now) c.loop-line._line c.loop-line.rest c.next.new.self c.next.result c.next.ensures.steps c.loop-line.invariant

pub loop-line-init : goal.loop-line-init
loop-line-init c = (c.of-rest.ensures.lines, inl c.of-rest.ensures.number)

pub returns : goal.returns
returns c = skipped (lines_of c.args.text.now) c.loop-line._line c.loop-line.rest (omega arith) c.loop-line.invariant
