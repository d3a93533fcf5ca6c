use Rattle.std.proofs.Common.{◌≡◌, ℕ, ◌+◌, ◌≤◌, length, get_or, sum}
use Rattle.sheet.specs.Images.{Image, image_of}
use Rattle.front.specs.Waiting.{many, NoneWaits}
use Rattle.transform.specs.Free.{Stable, Below}
use Rattle.erosion.specs.Memory.{past}
use Rattle.settling.specs.Within.{BetweenTakes}
use Rattle.settling.proofs.free.spread_all.Given as goal

abbrev pub invariant-loop-place : goal.invariant-loop-place
invariant-loop-place g l =
    BetweenTakes l.size l.weights.straight l.weights.diagonal l.keys (g.F.Front.waits l.front) (g.F.Front.tally l.front)
    × (length (g.F.Front.waits l.front) ≡ length (g.F.Front.waits l.initial.front))
    × (past l.size l.keys ≡ past l.size l.initial.keys)
    × ((k : ℕ) → get_or l.keys k 0 ≤ get_or l.initial.keys k 0)
    × ((goal : Image) → Stable l.size.height l.size.width l.weights.straight l.weights.diagonal goal → Below l.size.height l.size.width goal (image_of l.size.width l.initial.keys) → Below l.size.height l.size.width goal (image_of l.size.width l.keys))
    × (NoneWaits (g.F.Front.waits l.initial.front) → NoneWaits (g.F.Front.waits l.front) × (g.F.Front.tally l.front ≡ g.F.Front.tally l.initial.front))

abbrev pub decreases-loop-place : goal.decreases-loop-place
decreases-loop-place g l = sum l.keys + many (g.F.Front.waits l.front)
