use Rattle.std.proofs.Common.{◌≡◌, ℕ, ◌<◌, ◌≤◌}
use Rattle.sheet.specs.Images.{Image}
use Rattle.erosion.specs.Grids.{held, Stays}
use Rattle.erosion.specs.Walks.{turn, walked}
use Rattle.erosion.specs.Window.{window_of}
use Rattle.erosion.proofs.grid.Grid.scan_rows.Given as goal

-- rows before the i-th are rewritten, the others are as they were
abbrev pub invariant-loop-i : goal.invariant-loop-i
invariant-loop-i l =
    let s = l.initial.self in
    let f : Image = walked l.sense s.size (held s) in
    let g : Image = walked l.sense s.size (held l.self) in
    ((r c : ℕ) → r < l.i → c < s.size.width → g r c ≡ window_of s.size.width l.weights.straight l.weights.diagonal f g r c)
    × ((r c : ℕ) → c < s.size.width → l.i ≤ turn l.sense s.size.height r → held l.self r c ≡ held s r c)
    × Stays s l.self
