-- What a pixel that offers its key to its neighbours does to the keys and to the front.
use Rattle.std.specs.Prelude.{◌≡◌, ℕ, ◌*◌, ◌≤◌, Bool, false, ◌||◌, List, length, nat_lt, slice_index, slice_index_or}
use Rattle.sheet.specs.declared.size.Size.{Size}
use Rattle.sheet.specs.Images.{image_of}
use Rattle.transform.specs.Free.{spread}
use Rattle.erosion.specs.Memory.{Shows, past}

-- a front has fewer places than the sheet has pixels
abbrev pub too_small : Size → List Bool → Bool
too_small size waits = nat_lt (length waits) (size.width * size.height)

-- a front has a place for each pixel
abbrev pub HasRoom : Size → List Bool → Type 0
HasRoom size waits = size.width * size.height ≤ length waits

-- a place waits afterwards exactly where it waited before or its key was lowered
abbrev pub LoweredWait : List ℕ → List ℕ → List Bool → List Bool → Type 0
LoweredWait keys keys' waits waits' = (k : ℕ) → slice_index_or waits' k false ≡ (slice_index_or waits k false || nat_lt (slice_index keys' k) (slice_index keys k))

-- the pixel offers its key: keys become keys', and exactly the lowered neighbours are put
pub record Spread (size : Size) (straight diagonal row column : ℕ) (keys keys' : List ℕ) (waits waits' : List Bool) : Type 0 where
  pub image : Shows size keys' (spread straight diagonal (image_of size.width keys) row column)
  pub rest : past size keys' ≡ past size keys
  pub put : LoweredWait keys keys' waits waits'
  pub same_size : length waits' ≡ length waits
