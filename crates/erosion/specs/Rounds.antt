-- What a round and a settling do to the memory that is lent to them.
use Rattle.std.specs.Prelude.{◌≡◌, ℕ, ◌+◌, ◌*◌, ◌≤◌, max, Bool, true, false, List}
use Rattle.sheet.specs.declared.direction.Direction.{Direction}
use Rattle.sheet.specs.declared.size.Size.{Size}
use Rattle.sheet.specs.Images.{Image, image_of}
use Rattle.metric.specs.Model.{Model}
use Rattle.transform.specs.Settled.{settled}
use Rattle.transform.specs.Erosion.{eroded, rounds, FirstIdle}
use Rattle.transform.specs.Directional.{swept, Phases}
use Rattle.transform.specs.Raster.{rising, falling, Scan}
use Rattle.erosion.specs.declared.raster.Sense.{Sense}
use Rattle.erosion.specs.declared.raster.Sense.TheVariants.{Rising, Falling}
use Rattle.erosion.specs.Memory.{Shows, past}

-- the image that a round makes of keys
abbrev pub round_of : Size → ℕ → ℕ → List ℕ → Image
round_of size straight diagonal keys = eroded size.height size.width straight diagonal (image_of size.width keys)

-- a round from keys into spare, which becomes spare', and whether it altered anything
pub record Rounded (size : Size) (straight diagonal : ℕ) (keys spare spare' : List ℕ) (altered : Bool) : Type 0 where
  pub image : Shows size spare' (round_of size straight diagonal keys)
  pub rest : past size spare' ≡ past size spare
  pub idle : altered ≡ false → Shows size spare' (image_of size.width keys)
  pub busy : altered ≡ true → Shows size spare' (image_of size.width keys) → ⊥

-- the image that a directional round makes of keys
abbrev pub sweep_of : Size → Direction → ℕ → List ℕ → Image
sweep_of size direction straight keys = swept direction size.height size.width straight (image_of size.width keys)

-- a directional round in keys, which become keys', and whether it altered anything
pub record Swept (size : Size) (direction : Direction) (straight : ℕ) (keys keys' : List ℕ) (altered : Bool) : Type 0 where
  pub image : Shows size keys' (sweep_of size direction straight keys)
  pub rest : past size keys' ≡ past size keys
  pub idle : altered ≡ false → Shows size keys' (image_of size.width keys)
  pub busy : altered ≡ true → Shows size keys' (image_of size.width keys) → ⊥

-- which places come before a pixel in a scan
abbrev pub before_in : Sense → ℕ → ℕ → Bool
before_in Rising = rising
before_in Falling = falling

-- a scan of keys, which become keys'
pub record Scanned (size : Size) (sense : Sense) (straight diagonal : ℕ) (keys keys' : List ℕ) : Type 0 where
  pub image : Scan (before_in sense) size.height size.width straight diagonal (image_of size.width keys) (image_of size.width keys')
  pub rest : past size keys' ≡ past size keys

-- a settling of a picture: keys and spare, which become keys' and spare', both hold the settled image
pub record Settles (m : Model) (size : Size) (picture keys keys' spare spare' : List ℕ) : Type 0 where
  pub image : Shows size keys' (settled m size.height size.width (image_of size.width picture))
  pub copy : Shows size spare' (settled m size.height size.width (image_of size.width picture))
  pub rest : past size keys' ≡ past size keys
  pub spare_rest : past size spare' ≡ past size spare

-- the count of a parallel settling: its first idle round, at most as many as the longer side has pixels
pub record CountsRounds (m : Model) (size : Size) (picture : List ℕ) (count : ℕ) : Type 0 where
  pub first : FirstIdle size.height size.width (rounds m size.height size.width (image_of size.width picture)) count
  pub soon : count ≤ max size.width size.height

-- the count of a directional settling: the sum over its phases, at most twice the sum of width and height
pub record CountsPhases (m : Model) (size : Size) (picture : List ℕ) (count : ℕ) : Type 0 where
  pub phases : Phases m size.height size.width (image_of size.width picture) count
  pub soon : count ≤ 2 * (size.width + size.height)

-- two settlings of one picture by one metric, by whatever orders, leave equal keys
abbrev pub OrdersAgree : Type 0
OrdersAgree = (m : Model) (size : Size) (picture keys keys' spare spare' other other' more more' : List ℕ) → Settles m size picture keys keys' spare spare' → Settles m size picture other other' more more' → Shows size keys' (image_of size.width other')
