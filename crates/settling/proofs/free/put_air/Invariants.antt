use Rattle.std.proofs.Common.{◌≡◌, ℕ, ◌<◌, ◌≤◌, false, eqb, length, get_or}
use Rattle.settling.proofs.free.put_air.Given as goal

abbrev pub invariant-loop-place : goal.invariant-loop-place
invariant-loop-place g l =
    ((k : ℕ) → k < l.place → get_or (g.F.Front.waits l.front) k false ≡ eqb (get_or l.picture k 0) 0)
    × ((k : ℕ) → l.place ≤ k → get_or (g.F.Front.waits l.front) k false ≡ false)
    × (length (g.F.Front.waits l.front) ≡ length (g.F.Front.waits l.initial.front))
    × (g.F.Front.tally l.front ≡ g.F.Front.tally l.initial.front)
