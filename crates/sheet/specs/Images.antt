-- Images: a number at each row and column of a sheet h high and w wide.
use Rattle.std.specs.Prelude.{◌≡◌, ℕ, zero, suc, ◌<◌, min, List, slice_index}
use Rattle.sheet.specs.Pixels.{place_of}
use Rattle.sheet.specs.Keys.{blank}

abbrev pub Image : Type 0
Image = ℕ → ℕ → ℕ

-- the image that memory holds, row after row
abbrev pub image_of : ℕ → List ℕ → Image
image_of w memory r c = slice_index memory (place_of w r c)

-- two images hold the same on the sheet
abbrev pub Same : ℕ → ℕ → Image → Image → Type 0
Same h w f g = (r c : ℕ) → r < h → c < w → f r c ≡ g r c

-- the least of f 0, .. f (n - 1), and blank where n is 0
unfoldable pub least : ℕ → (ℕ → ℕ) → ℕ
least zero f = blank
least (suc n) f = min (least n f) (f n)

-- the least that an image holds on the sheet
unfoldable pub least_on : ℕ → ℕ → Image → ℕ
least_on h w f = least h (λ r. least w (f r))
