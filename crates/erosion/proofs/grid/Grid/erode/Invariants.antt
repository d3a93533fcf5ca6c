use Rattle.std.proofs.Common.{◌≡◌, true, false}
use Rattle.sheet.specs.Images.{Same, image_of}
use Rattle.erosion.specs.Grids.{held, Stays}
use Rattle.erosion.specs.Rounds.{round_of}
use Rattle.erosion.proofs.grid.Grid.erode.Given as goal

abbrev pub invariant-loop-row : goal.invariant-loop-row
invariant-loop-row l =
    Same l.row l.from.size.width (held l.self) (round_of l.from.size l.weights.straight l.weights.diagonal l.from.keys.now)
    × Stays l.initial.self l.self
    × (l.altered ≡ false → Same l.row l.from.size.width (round_of l.from.size l.weights.straight l.weights.diagonal l.from.keys.now) (image_of l.from.size.width l.from.keys.now))
    × (l.altered ≡ true → Same l.from.size.height l.from.size.width (round_of l.from.size l.weights.straight l.weights.diagonal l.from.keys.now) (image_of l.from.size.width l.from.keys.now) → ⊥)
