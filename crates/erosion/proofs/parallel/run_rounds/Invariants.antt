use Rattle.std.proofs.Common.{◌-◌}
use Rattle.erosion.specs.Grids.{Stays}
use Rattle.erosion.proofs.Settling.{Done}
use Rattle.erosion.proofs.parallel.run_rounds.Given as goal

abbrev pub invariant-rounds : goal.invariant-rounds
invariant-rounds g l =
    Done (g.M.Metric.model l.metric) l.fn.size l.picture l.grid.keys.now l.level
    × Stays l.initial.grid l.grid
    × Stays l.initial.other l.other

abbrev pub decreases-rounds : goal.decreases-rounds
decreases-rounds g l = 1024 - l.level
