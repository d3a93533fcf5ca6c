-- The raster order: two scans that use keys already rewritten, and what is shown of it.
use Rattle.std.specs.Prelude.{◌≡◌, ℕ, ◌≤◌, min, Bool, true, cond, nat_lt}
use Rattle.sheet.specs.Pixels.{place_of}
use Rattle.sheet.specs.Keys.{blank}
use Rattle.sheet.specs.Images.{Image, Same, least_on}
use Rattle.metric.specs.Model.{Model}
use Rattle.metric.specs.Laws.{Lawful}
use Rattle.transform.specs.Settled.{settled}
use Rattle.transform.specs.Erosion.{starting, offer}

-- the place p comes before the place q in a scan in rising place, and in one in falling place
abbrev pub rising : ℕ → ℕ → Bool
rising p q = nat_lt p q

abbrev pub falling : ℕ → ℕ → Bool
falling p q = nat_lt q p

-- the sequential erosion equation: the least of the own key and what the neighbours offer that come before the pixel in
-- the scan, where f is the image before the scan and g the image after it
unfoldable pub scanned : (ℕ → ℕ → Bool) → ℕ → ℕ → ℕ → ℕ → Image → Image → Image
scanned before h w straight diagonal f g r c =
    min (f r c) (least_on h w (λ r' c'. cond (before (place_of w r' c') (place_of w r c)) (offer straight diagonal g r c r' c') blank))

-- a scan makes g of f
abbrev pub Scan : (ℕ → ℕ → Bool) → ℕ → ℕ → ℕ → ℕ → Image → Image → Type 0
Scan before h w straight diagonal f g = Same h w g (scanned before h w straight diagonal f g)

-- from the starting image, by a steady metric, a rising and then a falling scan leave the settled image
abbrev pub ScansSettle : Type 0
ScansSettle = (m : Model) (h w : ℕ) (picture f g : Image) → Lawful m → m.steady ≡ true → h ≤ 1024 → w ≤ 1024 →
    Scan rising h w (m.straight 1) (m.diagonal 1) (starting w picture) f → Scan falling h w (m.straight 1) (m.diagonal 1) f g → Same h w g (settled m h w picture)
