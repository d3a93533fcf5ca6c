use Rattle.std.proofs.Common.{◌≡◌, ℕ, ◌<◌, ◌≤◌}
use Rattle.metric.specs.Laws.{Lawful}
use Rattle.metric.specs.Model.{Model}
use Rattle.transform.specs.Directional.{Keyed}
use Rattle.erosion.specs.Grids.{held, Stays}
use Rattle.erosion.specs.Phases.{Straights, sweeps_in}
use Rattle.erosion.proofs.RowPhases.{RowsDone}
use Rattle.erosion.proofs.grid.Grid.settle_rows.Given as goal

abbrev pub invariant-loop-row : goal.invariant-loop-row
invariant-loop-row l =
    let s = l.initial.self in
    ((m : Model) → Lawful m → Straights m s.size.width l.weights → Keyed s.size.height s.size.width (held s) → RowsDone s.size.width (sweeps_in m l.direction s) l.row l.most (held l.self))
    × ((r c : ℕ) → l.row ≤ r → c < s.size.width → held l.self r c ≡ held s r c)
    × Stays s l.self
    × (l.most ≤ s.size.width)
