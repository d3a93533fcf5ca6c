use Rattle.std.proofs.Common.{◌≡◌, ℕ, ◌-◌, ◌<◌, ◌≤◌, min, cond, eqb}
use Rattle.sheet.specs.Images.{image_of}
use Rattle.erosion.specs.Memory.{past}
use Rattle.settling.specs.Within.{Relaxed}
use Rattle.settling.proofs.free.spread_row.Given as goal

abbrev pub invariant-loop-at : goal.invariant-loop-at
invariant-loop-at g l =
    ((c : ℕ) → l.column - 1 ≤ c → c < l.at → image_of l.size.width l.keys l.row c ≡ min (image_of l.size.width l.initial.keys l.row c) (cond (eqb c l.column) l.middle l.side))
    × ((r c : ℕ) → c < l.size.width → (r ≡ l.row → l.column - 1 ≤ c → c < l.at → ⊥) → image_of l.size.width l.keys r c ≡ image_of l.size.width l.initial.keys r c)
    × (past l.size l.keys ≡ past l.size l.initial.keys)
    × Relaxed l.initial.keys l.keys (g.F.Front.waits l.initial.front) (g.F.Front.waits l.front)
    × (g.F.Front.tally l.front ≡ g.F.Front.tally l.initial.front)
