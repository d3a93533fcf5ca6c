use Rattle.std.proofs.Common.{◌≡◌, ℕ, ◌-◌, ◌<◌, ◌≤◌}
use Rattle.sheet.specs.Images.{image_of}
use Rattle.transform.specs.Free.{spread}
use Rattle.erosion.specs.Memory.{past}
use Rattle.settling.specs.Within.{Relaxed}
use Rattle.settling.proofs.free.spread_from.Given as goal

abbrev pub invariant-loop-at : goal.invariant-loop-at
invariant-loop-at g l =
    ((r c : ℕ) → l.row - 1 ≤ r → r < l.at → c < l.size.width → image_of l.size.width l.keys r c ≡ spread l.fn.weights.straight l.fn.weights.diagonal (image_of l.size.width l.initial.keys) l.row l.column r c)
    × ((r c : ℕ) → c < l.size.width → (l.row - 1 ≤ r → r < l.at → ⊥) → image_of l.size.width l.keys r c ≡ image_of l.size.width l.initial.keys r c)
    × (past l.size l.keys ≡ past l.size l.initial.keys)
    × Relaxed l.initial.keys l.keys (g.F.Front.waits l.initial.front) (g.F.Front.waits l.front)
    × (g.F.Front.tally l.front ≡ g.F.Front.tally l.initial.front)
