use Rattle.std.proofs.Common.{◌≡◌, ℕ, ◌<◌, ◌≤◌, true, false}
use Rattle.erosion.specs.Grids.{held, sweep_in, Stays}
use Rattle.erosion.specs.Walks.{turn, sense_of}
use Rattle.erosion.proofs.grid.Grid.sweep_row.Given as goal

-- columns before the k-th are rewritten, the others and all other rows are as they were
abbrev pub invariant-loop-k : goal.invariant-loop-k
invariant-loop-k l =
    ((c : ℕ) → c < l.width → turn (sense_of l.direction) l.width c < l.k → held l.self l.row c ≡ sweep_in l.initial.self l.direction l.straight l.row c)
    × ((r c : ℕ) → c < l.width → (r ≡ l.row → l.k ≤ turn (sense_of l.direction) l.width c) → held l.self r c ≡ held l.initial.self r c)
    × Stays l.initial.self l.self
    × (l.altered ≡ false → (c : ℕ) → c < l.width → turn (sense_of l.direction) l.width c < l.k → sweep_in l.initial.self l.direction l.straight l.row c ≡ held l.initial.self l.row c)
    × (l.altered ≡ true → ((c : ℕ) → c < l.width → sweep_in l.initial.self l.direction l.straight l.row c ≡ held l.initial.self l.row c) → ⊥)
