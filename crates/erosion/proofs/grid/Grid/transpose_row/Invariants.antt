use Rattle.std.proofs.Common.{◌≡◌, ℕ, ◌<◌}
use Rattle.erosion.specs.Grids.{held, Stays}
use Rattle.erosion.proofs.grid.Grid.transpose_row.Given as goal

abbrev pub invariant-loop-column : goal.invariant-loop-column
invariant-loop-column l =
    ((c : ℕ) → c < l.column → held l.other c l.row ≡ held l.self l.row c)
    × ((r c : ℕ) → r < l.self.size.height → (r ≡ l.row → ⊥) → held l.other c r ≡ held l.initial.other c r)
    × Stays l.initial.other l.other
