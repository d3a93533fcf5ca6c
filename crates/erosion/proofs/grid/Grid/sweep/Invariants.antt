use Rattle.std.proofs.Common.{◌≡◌, ℕ, ◌<◌, ◌≤◌, true, false}
use Rattle.sheet.specs.Images.{Same}
use Rattle.erosion.specs.Grids.{held, sweep_in, Stays}
use Rattle.erosion.specs.Walks.{turn, sense_of}
use Rattle.erosion.proofs.grid.Grid.sweep.Given as goal

-- rows before the k-th are rewritten, the others are as they were
abbrev pub invariant-loop-k : goal.invariant-loop-k
invariant-loop-k l =
    ((r : ℕ) → r < l.height → turn (sense_of l.direction) l.height r < l.k → (c : ℕ) → c < l.initial.self.size.width → held l.self r c ≡ sweep_in l.initial.self l.direction l.straight r c)
    × ((r c : ℕ) → c < l.initial.self.size.width → l.k ≤ turn (sense_of l.direction) l.height r → held l.self r c ≡ held l.initial.self r c)
    × Stays l.initial.self l.self
    × (l.altered ≡ false → (r : ℕ) → r < l.height → turn (sense_of l.direction) l.height r < l.k → (c : ℕ) → c < l.initial.self.size.width → sweep_in l.initial.self l.direction l.straight r c ≡ held l.initial.self r c)
    × (l.altered ≡ true → Same l.height l.initial.self.size.width (sweep_in l.initial.self l.direction l.straight) (held l.initial.self) → ⊥)
