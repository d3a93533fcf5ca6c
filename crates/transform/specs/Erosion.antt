-- Erosion: the starting image, a parallel round, and rounds from the starting image on.
use Rattle.std.specs.Prelude.{◌≡◌, ℕ, zero, suc, ◌<◌, min, cond, ◌==◌}
use Rattle.sheet.specs.Pixels.{place_of, apart, ring, weight_of}
use Rattle.sheet.specs.Keys.{blank, stepped}
use Rattle.sheet.specs.Images.{Image, Same, least_on}
use Rattle.metric.specs.Model.{Model}

-- each air pixel (byte 0) holds its own place as key, every other pixel is blank
unfoldable pub starting : ℕ → Image → Image
starting w picture r c = cond (picture r c == 0) (place_of w r c) blank

-- what the pixel r', c' offers to r, c: its key stepped where it is a neighbour, else blank
abbrev pub offer : ℕ → ℕ → Image → ℕ → ℕ → ℕ → ℕ → ℕ
offer straight diagonal f r c r' c' = cond (ring r c r' c' == 1) (stepped (f r' c') (weight_of straight diagonal (apart c c') (apart r r'))) blank

-- the erosion equation: each pixel gets the least of its own key and its neighbours' keys stepped
unfoldable pub eroded : ℕ → ℕ → ℕ → ℕ → Image → Image
eroded h w straight diagonal f r c = min (f r c) (least_on h w (offer straight diagonal f r c))

-- the image after i parallel rounds; round i has the weights of level i, and levels count from 1
unfoldable pub rounds : Model → ℕ → ℕ → Image → ℕ → Image
rounds m h w picture zero = starting w picture
rounds m h w picture (suc i) = eroded h w (m.straight (suc i)) (m.diagonal (suc i)) (rounds m h w picture i)

-- the round after i rounds of a series of images alters nothing
abbrev pub Idle : ℕ → ℕ → (ℕ → Image) → ℕ → Type 0
Idle h w series i = Same h w (series (suc i)) (series i)

-- round n of a series is the first that alters nothing
pub record FirstIdle (h w : ℕ) (series : ℕ → Image) (n : ℕ) : Type 0 where
  pub before : ℕ
  pub next : n ≡ suc before
  pub idle : Idle h w series before
  pub busy : (i : ℕ) → i < before → Idle h w series i → ⊥
