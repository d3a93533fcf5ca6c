use Rattle.std.proofs.Common.{◌≡◌, ℕ, ◌<◌}
use Rattle.erosion.specs.Grids.{held, Stays}
use Rattle.erosion.proofs.grid.Grid.transpose.Given as goal

abbrev pub invariant-loop-row : goal.invariant-loop-row
invariant-loop-row l =
    ((r c : ℕ) → r < l.row → c < l.self.size.width → held l.other c r ≡ held l.self r c)
    × Stays l.initial.other l.other
