-- The phases of the directional order, row by row; for the inner functions only.
use Rattle.std.specs.Prelude.{◌≡◌, ℕ, suc, ◌<◌, List, slice_index}
use Rattle.sheet.specs.declared.direction.Direction.{Direction}
use Rattle.sheet.specs.Images.{Image, Same}
use Rattle.metric.specs.Model.{Model}
use Rattle.transform.specs.Directional.{sweeps}
use Rattle.transform.specs.Erosion.{FirstIdle}
use Rattle.erosion.specs.declared.grid.Grid.{Grid}
use Rattle.erosion.specs.Grids.{held}

-- the first n straight weights of a metric, in a table
abbrev pub Straights : Model → ℕ → List ℕ → Type 0
Straights m n weights = (i : ℕ) → i < n → slice_index weights i ≡ m.straight (suc i)

-- the round after i rounds of a series leaves one row as it is
abbrev pub RowIdle : ℕ → (ℕ → Image) → ℕ → ℕ → Type 0
RowIdle w series r i = (c : ℕ) → c < w → series (suc i) r c ≡ series i r c

-- the row r of f is that after i rounds, none of which left the row as it was
pub record RowDone (w : ℕ) (series : ℕ → Image) (r i : ℕ) (f : Image) : Type 0 where
  pub line : (c : ℕ) → c < w → f r c ≡ series i r c
  pub busy : (j : ℕ) → j < i → RowIdle w series r j → ⊥

-- round n is the first that leaves the row as it is, and f holds the row after it
pub record RowPhase (w : ℕ) (series : ℕ → Image) (r n : ℕ) (f : Image) : Type 0 where
  pub before : ℕ
  pub next : n ≡ suc before
  pub idle : RowIdle w series r before
  pub busy : (i : ℕ) → i < before → RowIdle w series r i → ⊥
  pub line : (c : ℕ) → c < w → f r c ≡ series n r c

-- the rounds of a phase from a grid
abbrev pub sweeps_in : Model → Direction → Grid → ℕ → Image
sweeps_in m direction grid = sweeps m direction grid.size.height grid.size.width (held grid)

-- a phase of a grid, which becomes grid': n is its first idle round
pub record PhaseOf (m : Model) (direction : Direction) (grid : Grid) (n : ℕ) (grid' : Grid) : Type 0 where
  pub first : FirstIdle grid.size.height grid.size.width (sweeps_in m direction grid) n
  pub image : Same grid.size.height grid.size.width (held grid') (sweeps_in m direction grid n)
