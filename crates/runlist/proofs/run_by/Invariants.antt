use Rattle.std.proofs.Common.{◌≡◌, ◌++◌, vec_items}
use Rattle.reader.specs.Left.{left}
use Rattle.runlist.specs.Answering.{Running}
use Rattle.runlist.proofs.run_by.Given as goal

abbrev pub invariant-loop-entry : goal.invariant-loop-entry
invariant-loop-entry g l =
    (goal.iterator-loop-entry g).can_next l.entry-iterator
    × (goal.iterator-loop-entry g).is_finite l.entry-iterator
    × Running l.size.width l.size.height (g.M.Metric.model l.metric) l.yielded (vec_items l.answers) l.bench l.picture l.keys
    × (left l.fn.list ≡ l.yielded ++ left l.entry-iterator)
