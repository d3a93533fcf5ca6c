-- Pixels of a sheet, and how they lie to one another. Rows and columns count from 0.
use Rattle.std.specs.Prelude.{ℕ, ◌+◌, ◌-◌, ◌*◌, max, cond, ◌==◌}

-- the place of row r, column c on a sheet w wide; raster order is rising place
abbrev pub place_of : ℕ → ℕ → ℕ → ℕ
place_of w r c = r * w + c

-- how far two rows, or two columns, lie apart
abbrev pub apart : ℕ → ℕ → ℕ
apart a b = (a - b) + (b - a)

-- how many rings of pixels the pixel r', c' lies from r, c: 0 is the pixel itself, 1 its eight neighbours
unfoldable pub ring : ℕ → ℕ → ℕ → ℕ → ℕ
ring r c r' c' = max (apart c c') (apart r r')

-- the weight of a step to a neighbour x columns and y rows away: diagonal where both change
abbrev pub weight_of : ℕ → ℕ → ℕ → ℕ → ℕ
weight_of straight diagonal x y = cond (x + y == 2) diagonal straight
