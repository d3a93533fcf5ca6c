use Rattle.std.proofs.Common.{◌≡◌, length}
use Rattle.erosion.specs.Phases.{Straights}
use Rattle.erosion.proofs.phases.straights.Given as goal

abbrev pub invariant-loop-k : goal.invariant-loop-k
invariant-loop-k g l = (length l.weights ≡ 1024) × Straights (g.M.Metric.model l.metric) l.k l.weights
