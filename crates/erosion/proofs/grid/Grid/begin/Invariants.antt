use Rattle.std.proofs.Common.{◌≡◌, ℕ, ◌<◌, cond, eqb, get_or}
use Rattle.sheet.specs.Keys.{blank}
use Rattle.erosion.specs.Grids.{Stays}
use Rattle.erosion.proofs.grid.Grid.begin.Given as goal

abbrev pub invariant-loop-place : goal.invariant-loop-place
invariant-loop-place l =
    ((k : ℕ) → k < l.place → get_or l.self.keys.now k 0 ≡ cond (eqb (get_or l.picture k 0) 0) k blank)
    × Stays l.initial.self l.self
