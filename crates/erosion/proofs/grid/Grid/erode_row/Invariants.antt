use Rattle.std.proofs.Common.{◌≡◌, ℕ, ◌<◌, true, false, cond, ltb}
use Rattle.sheet.specs.Keys.{blank}
use Rattle.sheet.specs.Images.{image_of}
use Rattle.erosion.specs.Grids.{held, Stays}
use Rattle.erosion.specs.Window.{west_of, upright_of}
use Rattle.erosion.specs.Rounds.{round_of}
use Rattle.erosion.proofs.grid.Grid.erode_row.Given as goal

abbrev pub invariant-loop-column : goal.invariant-loop-column
invariant-loop-column l =
    ((c : ℕ) → c < l.column → held l.self l.row c ≡ round_of l.from.size l.weights.straight l.weights.diagonal l.from.keys.now l.row c)
    × ((r c : ℕ) → c < l.from.size.width → (r ≡ l.row → ⊥) → held l.self r c ≡ held l.initial.self r c)
    × Stays l.initial.self l.self
    × (l.altered ≡ false → (c : ℕ) → c < l.column → round_of l.from.size l.weights.straight l.weights.diagonal l.from.keys.now l.row c ≡ image_of l.from.size.width l.from.keys.now l.row c)
    × (l.altered ≡ true → ((c : ℕ) → c < l.from.size.width → round_of l.from.size l.weights.straight l.weights.diagonal l.from.keys.now l.row c ≡ image_of l.from.size.width l.from.keys.now l.row c) → ⊥)
    × (l.west ≡ west_of (image_of l.from.size.width l.from.keys.now) l.row l.column)
    × (l.west_pair ≡ west_of (upright_of l.from.size.height (image_of l.from.size.width l.from.keys.now)) l.row l.column)
    × (l.own ≡ cond (ltb l.column l.from.size.width) (image_of l.from.size.width l.from.keys.now l.row l.column) blank)
    × (l.pair ≡ cond (ltb l.column l.from.size.width) (upright_of l.from.size.height (image_of l.from.size.width l.from.keys.now) l.row l.column) blank)
