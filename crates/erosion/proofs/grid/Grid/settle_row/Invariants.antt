use Rattle.std.proofs.Common.{◌≡◌, ℕ, ◌<◌}
use Rattle.metric.specs.Laws.{Lawful}
use Rattle.metric.specs.Model.{Model}
use Rattle.erosion.specs.Grids.{held, Stays}
use Rattle.erosion.specs.Phases.{Straights, RowDone, sweeps_in}
use Rattle.erosion.proofs.grid.Grid.settle_row.Given as goal

abbrev pub invariant-loop-k : goal.invariant-loop-k
invariant-loop-k l =
    ((m : Model) → Lawful m → Straights m l.initial.self.size.width l.weights → RowDone l.initial.self.size.width (sweeps_in m l.direction l.initial.self) l.row l.k (held l.self))
    × ((r c : ℕ) → c < l.initial.self.size.width → (r ≡ l.row → ⊥) → held l.self r c ≡ held l.initial.self r c)
    × Stays l.initial.self l.self
