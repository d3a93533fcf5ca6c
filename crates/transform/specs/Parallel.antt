-- What is shown of the parallel order, for every lawful metric, every sheet and every picture.
use Rattle.std.specs.Prelude.{ℕ, ◌<◌, ◌≤◌, max}
use Rattle.sheet.specs.Images.{Image, Same}
use Rattle.metric.specs.Model.{Model}
use Rattle.metric.specs.Laws.{Lawful}
use Rattle.transform.specs.Settled.{settled, ringed}
use Rattle.transform.specs.Erosion.{rounds, Idle, FirstIdle}

-- after i rounds the image is the least key over the air at most i rings away
abbrev pub RoundsLookAtRings : Type 0
RoundsLookAtRings = (m : Model) (h w : ℕ) (picture : Image) (i : ℕ) → Lawful m → h ≤ 1024 → w ≤ 1024 → i ≤ 1024 → Same h w (rounds m h w picture i) (ringed m h w picture i)

-- once a round alters nothing, no later round does
abbrev pub IdleStaysIdle : Type 0
IdleStaysIdle = (m : Model) (h w : ℕ) (picture : Image) (i j : ℕ) → Lawful m → h ≤ 1024 → w ≤ 1024 → i ≤ j → j < 1024 → Idle h w (rounds m h w picture) i → Idle h w (rounds m h w picture) j

-- some round is the first idle one
abbrev pub FirstIdleComes : Type 0
FirstIdleComes = (m : Model) (h w : ℕ) (picture : Image) → Lawful m → 1 ≤ h → h ≤ 1024 → 1 ≤ w → w ≤ 1024 → (n : ℕ) × FirstIdle h w (rounds m h w picture) n

-- the first idle round leaves the settled image, and comes by round max w h
abbrev pub FirstIdleSettles : Type 0
FirstIdleSettles = (m : Model) (h w : ℕ) (picture : Image) (n : ℕ) → Lawful m → 1 ≤ h → h ≤ 1024 → 1 ≤ w → w ≤ 1024 → FirstIdle h w (rounds m h w picture) n → Same h w (rounds m h w picture n) (settled m h w picture) × (n ≤ max w h)
