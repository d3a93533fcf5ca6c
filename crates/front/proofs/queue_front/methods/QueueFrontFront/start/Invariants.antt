use Rattle.std.proofs.Common.{◌≡◌, length}
use Rattle.front.specs.Fronts.{queue_waits, queued, QueueStays}
use Rattle.front.proofs.queue_front.methods.QueueFrontFront.start.Given as goal

abbrev pub invariant-loop : goal.invariant-loop
invariant-loop l = (length (queue_waits l.self) ≡ length (queue_waits l.initial.self)) × QueueStays l.initial.self l.self

abbrev pub decreases-loop : goal.decreases-loop
decreases-loop l = length (queued l.self)
