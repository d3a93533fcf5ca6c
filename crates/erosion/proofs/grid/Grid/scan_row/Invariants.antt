use Rattle.std.proofs.Common.{◌≡◌, ℕ, ◌+◌, ◌<◌, ◌≤◌, min}
use Rattle.sheet.specs.Images.{Image}
use Rattle.erosion.specs.Grids.{held, Stays}
use Rattle.erosion.specs.Walks.{turn, turned_image}
use Rattle.erosion.specs.Window.{west_of, prior_of, lowest_of}
use Rattle.erosion.proofs.grid.Grid.scan_row.Given as goal

-- f is the image as the row began, g the image now; columns before the j-th are rewritten
abbrev pub invariant-loop-j : goal.invariant-loop-j
invariant-loop-j l =
    let f : Image = turned_image l.sense l.size.height l.size.width (held l.initial.grid) in
    let g : Image = turned_image l.sense l.size.height l.size.width (held l.grid) in
    ((k : ℕ) → k < l.j → g l.i k ≡ lowest_of (f l.i k) (min (west_of g l.i k) (prior_of l.size.width f l.i k)) (min (west_of (prior_of l.size.width f) l.i k) (prior_of l.size.width f l.i (k + 1))) l.weights.straight l.weights.diagonal)
    × ((r c : ℕ) → c < l.size.width → (r ≡ l.row → l.j ≤ turn l.sense l.size.width c) → held l.grid r c ≡ held l.initial.grid r c)
    × Stays l.initial.grid l.grid
    × (l.west ≡ west_of g l.i l.j)
    × (l.corner ≡ west_of (prior_of l.size.width f) l.i l.j)
    × (l.above ≡ prior_of l.size.width f l.i l.j)
