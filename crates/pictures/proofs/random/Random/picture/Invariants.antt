use Rattle.std.proofs.Common.{◌≡◌, ◌+◌}
use Rattle.pictures.specs.Bytes.{HasBytes}
use Rattle.pictures.specs.Numbers.{drawn, states, random_byte}
use Rattle.pictures.proofs.random.Random.picture.Given as goal

abbrev pub invariant-loop : goal.invariant-loop
invariant-loop l =
    HasBytes l.bytes.items l.counter (λ k. random_byte l.fn.one_in (drawn (states (k + 1) l.fn.self.state)))
    × (l.self.state ≡ states l.counter l.fn.self.state)
