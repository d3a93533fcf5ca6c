-- What is true of a picture: its air, distances, the nearest air of a pixel, and the pixel that lies deepest. Pixels go by row and
-- column, on a sheet h high and w wide, and first means first in raster order.
use Rattle.std.specs.Prelude.{◌≡◌, ℕ, ◌<◌, ◌≤◌, Some, None, Option}
use Rattle.sheet.specs.Pixels.{place_of, apart}
use Rattle.sheet.specs.Images.{Image}
use Rattle.metric.specs.Model.{Model}

-- the pixel is air
abbrev pub Air : Image → ℕ → ℕ → Type 0
Air picture r c = picture r c ≡ 0

-- no pixel of the sheet is air
abbrev pub Airless : ℕ → ℕ → Image → Type 0
Airless h w picture = (r c : ℕ) → r < h → c < w → Air picture r c → ⊥

-- the distance between two pixels is far of their offset
abbrev pub distance : Model → ℕ → ℕ → ℕ → ℕ → ℕ
distance m r c r' c' = m.far (apart c c') (apart r r')

-- d is the least distance from the pixel r, c to air, and a the place of the first air pixel at that distance
pub record Nearest (m : Model) (h w : ℕ) (picture : Image) (r c d a : ℕ) : Type 0 where
  pub row : ℕ
  pub column : ℕ
  pub on_row : row < h
  pub on_column : column < w
  pub is_place : a ≡ place_of w row column
  pub is_air : Air picture row column
  pub is_distance : d ≡ distance m r c row column
  pub none_nearer : (r' c' : ℕ) → r' < h → c' < w → Air picture r' c' → d ≤ distance m r c r' c'
  pub none_before : (r' c' : ℕ) → r' < h → c' < w → Air picture r' c' → distance m r c r' c' ≡ d → a ≤ place_of w r' c'

-- a reading of the pixel r, c is true: the least distance to air with the first air there; absent exactly where there is no air
abbrev pub ReadingTrue : Model → ℕ → ℕ → Image → ℕ → ℕ → Option (ℕ × ℕ) → Type 0
ReadingTrue m h w picture r c None = Airless h w picture
ReadingTrue m h w picture r c (Some reading) = Nearest m h w picture r c reading.0 reading.1

-- d is the greatest of all pixels' least distances to air, and p the place of the first pixel that has it
pub record Deepest (m : Model) (h w : ℕ) (picture : Image) (d p : ℕ) : Type 0 where
  pub row : ℕ
  pub column : ℕ
  pub on_row : row < h
  pub on_column : column < w
  pub is_place : p ≡ place_of w row column
  pub air : ℕ
  pub has_it : Nearest m h w picture row column d air
  pub none_deeper : (r c e a : ℕ) → r < h → c < w → Nearest m h w picture r c e a → e ≤ d
  pub none_before : (r c e a : ℕ) → r < h → c < w → Nearest m h w picture r c e a → e ≡ d → p ≤ place_of w r c

-- a peak is true: the greatest such distance with the first pixel that has it; absent exactly where there is no air
abbrev pub PeakTrue : Model → ℕ → ℕ → Image → Option (ℕ × ℕ) → Type 0
PeakTrue m h w picture None = Airless h w picture
PeakTrue m h w picture (Some peak) = Deepest m h w picture peak.0 peak.1

-- two pictures have their air at the same pixels
abbrev pub SameAir : ℕ → ℕ → Image → Image → Type 0
SameAir h w f g = (r c : ℕ) → r < h → c < w → (Air f r c → Air g r c) × (Air g r c → Air f r c)
