-- What a grid of keys holds, and what stays while it is written.
use Rattle.std.specs.Prelude.{◌≡◌, ℕ}
use Rattle.sheet.specs.declared.direction.Direction.{Direction}
use Rattle.sheet.specs.Images.{Image, image_of}
use Rattle.erosion.specs.declared.view.View.{View}
use Rattle.erosion.specs.declared.grid.Grid.{Grid}
use Rattle.erosion.specs.Memory.{past}
use Rattle.erosion.specs.Rounds.{sweep_of}

-- the image of the keys
abbrev pub held : Grid → Image
held grid = image_of grid.size.width grid.keys.now

-- the image that a directional round makes of it
abbrev pub sweep_in : Grid → Direction → ℕ → Image
sweep_in grid direction straight = sweep_of grid.size direction straight grid.keys.now

-- a grid stays in its memory: with its size, and with what lies past the sheet
pub record Stays (grid grid' : Grid) : Type 0 where
  pub same_width : grid'.size.width ≡ grid.size.width
  pub same_height : grid'.size.height ≡ grid.size.height
  pub lender : grid'.keys.ghost_name ≡ grid.keys.ghost_name
  pub rest : past grid'.size grid'.keys.now ≡ past grid.size grid.keys.now

-- a grid has rows and columns exchanged
pub record Exchanged (grid other : Grid) : Type 0 where
  pub wide : other.size.width ≡ grid.size.height
  pub high : other.size.height ≡ grid.size.width

-- a view is as wide and as high as a grid
pub record Alike (view : View) (grid : Grid) : Type 0 where
  pub width : view.size.width ≡ grid.size.width
  pub height : view.size.height ≡ grid.size.height
