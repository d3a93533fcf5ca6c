-- The ways in which rows and columns are walked; for the inner functions only.
use Rattle.std.specs.Prelude.{ℕ, ◌-◌, List}
use Rattle.sheet.specs.declared.size.Size.{Size}
use Rattle.sheet.specs.declared.direction.Direction.{Direction}
use Rattle.sheet.specs.Images.{Image, image_of}
use Rattle.sheet.specs.declared.direction.Direction.TheVariants.{North, South, West, East}
use Rattle.erosion.specs.declared.raster.Sense.{Sense}
use Rattle.erosion.specs.declared.raster.Sense.TheVariants.{Rising, Falling}

-- the k-th of n that are walked in a sense
abbrev pub turn : Sense → ℕ → ℕ → ℕ
turn Rising n k = k
turn Falling n k = n - 1 - k

-- an image walked so, along rows and columns
abbrev pub turned_image : Sense → ℕ → ℕ → Image → Image
turned_image sense h w f i j = f (turn sense h i) (turn sense w j)

-- an image walked so on a sheet
abbrev pub walked : Sense → Size → Image → Image
walked sense size f = turned_image sense size.height size.width f

-- the image that memory holds, walked so
abbrev pub walk_of : Sense → Size → List ℕ → Image
walk_of sense size keys = turned_image sense size.height size.width (image_of size.width keys)

-- keys that come from the north or the west are taken in falling place, so that each is read before it is rewritten
abbrev pub sense_of : Direction → Sense
sense_of North = Falling
sense_of South = Rising
sense_of West = Falling
sense_of East = Rising
