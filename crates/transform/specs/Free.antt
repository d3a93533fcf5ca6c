-- What pixels come to that offer their keys to their neighbours in any sequence.
use Rattle.std.specs.Prelude.{◌≡◌, ℕ, ◌<◌, ◌≤◌, min, true, cond, ◌==◌}
use Rattle.sheet.specs.Pixels.{apart, ring, weight_of}
use Rattle.sheet.specs.Keys.{stepped}
use Rattle.sheet.specs.Images.{Image, Same}
use Rattle.metric.specs.Model.{Model}
use Rattle.metric.specs.Laws.{Lawful}
use Rattle.transform.specs.Settled.{settled}
use Rattle.transform.specs.Erosion.{starting}

-- the propagation equation: the pixel r, c offers its key to its neighbours, and each of them gets the lesser of its own key and
-- the stepped one; all else is unchanged
unfoldable pub spread : ℕ → ℕ → Image → ℕ → ℕ → Image
spread straight diagonal f r c r' c' =
    cond (ring r c r' c' == 1) (min (f r' c') (stepped (f r c) (weight_of straight diagonal (apart c c') (apart r r')))) (f r' c')

-- no pixel can lower a neighbour's key any more
abbrev pub Stable : ℕ → ℕ → ℕ → ℕ → Image → Type 0
Stable h w straight diagonal f = (r c r' c' : ℕ) → r < h → c < w → r' < h → c' < w → ring r c r' c' ≡ 1 → f r c ≤ stepped (f r' c') (weight_of straight diagonal (apart c c') (apart r r'))

-- f is at no pixel more than g
abbrev pub Below : ℕ → ℕ → Image → Image → Type 0
Below h w f g = (r c : ℕ) → r < h → c < w → f r c ≤ g r c

-- by a steady metric, a stable image between the settled and the starting image is the settled one
abbrev pub StableSettles : Type 0
StableSettles = (m : Model) (h w : ℕ) (picture f : Image) → Lawful m → m.steady ≡ true → h ≤ 1024 → w ≤ 1024 →
    Below h w f (starting w picture) → Below h w (settled m h w picture) f → Stable h w (m.straight 1) (m.diagonal 1) f → Same h w f (settled m h w picture)
