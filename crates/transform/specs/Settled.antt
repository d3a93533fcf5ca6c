-- The image that every order comes to: at each pixel the least key over all air.
use Rattle.std.specs.Prelude.{ℕ, cond, ◌==◌, nat_le}
use Rattle.sheet.specs.Pixels.{place_of, apart, ring}
use Rattle.sheet.specs.Keys.{blank, key_of}
use Rattle.sheet.specs.Images.{Image, least_on}
use Rattle.metric.specs.Model.{Model}

-- the key that the pixel r, c has of the pixel r', c': its distance and place where it is air (byte 0), else blank
unfoldable pub air_key : Model → ℕ → Image → ℕ → ℕ → ℕ → ℕ → ℕ
air_key m w picture r c r' c' = cond (picture r' c' == 0) (key_of (m.far (apart c c') (apart r r')) (place_of w r' c')) blank

-- the least key over all air
unfoldable pub settled : Model → ℕ → ℕ → Image → Image
settled m h w picture r c = least_on h w (air_key m w picture r c)

-- the least key over the air at most i rings away
unfoldable pub ringed : Model → ℕ → ℕ → Image → ℕ → Image
ringed m h w picture i r c = least_on h w (λ r' c'. cond (nat_le (ring r c r' c') i) (air_key m w picture r c r' c') blank)
