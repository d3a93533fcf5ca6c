-- The keys around a pixel as a walk along its row meets them; for the inner functions only.
use Rattle.std.specs.Prelude.{ℕ, ◌+◌, ◌-◌, min, cond, ◌&&◌, nat_lt}
use Rattle.sheet.specs.Keys.{blank, stepped}
use Rattle.sheet.specs.Images.{Image}

-- what an image holds west and east of a pixel; blank stands for what is off the sheet
abbrev pub west_of : Image → Image
west_of f r c = cond (nat_lt 0 c) (f r (c - 1)) blank

abbrev pub east_of : ℕ → Image → Image
east_of w f r c = cond (nat_lt (c + 1) w) (f r (c + 1)) blank

-- the lesser of the keys north and south of a pixel
unfoldable pub upright_of : ℕ → Image → Image
upright_of h f r c = min (cond (nat_lt 0 r) (f (r - 1) c) blank) (cond (nat_lt (r + 1) h) (f (r + 1) c) blank)

-- what an image holds in the row before; blank stands for what is off the sheet
abbrev pub prior_of : ℕ → Image → Image
prior_of w f r c = cond (nat_lt 0 r && nat_lt c w) (f (r - 1) c) blank

-- the least of the own key, the straight neighbours' least key stepped and the diagonal neighbours' least key stepped
abbrev pub lowest_of : ℕ → ℕ → ℕ → ℕ → ℕ → ℕ
lowest_of own near across s d = min own (min (stepped near s) (stepped across d))

-- the key that a scan gives a pixel of f, where g is the image after it: as if rows and columns rose
abbrev pub window_of : ℕ → ℕ → ℕ → Image → Image → Image
window_of w s d f g r c =
    lowest_of (f r c) (min (west_of g r c) (prior_of w g r c)) (min (west_of (prior_of w g) r c) (prior_of w g r (c + 1))) s d
