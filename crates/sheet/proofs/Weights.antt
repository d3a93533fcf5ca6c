-- The weight of a step to a straight and to a diagonal neighbour.
use Rattle.std.proofs.Common.{◌≡◌, ℕ, ◌+◌, arith}
use Rattle.std.proofs.lemmas.Bool.Decides.{nat_tests}
use Rattle.sheet.specs.Pixels.{weight_of}

pub weight_straight : (s d x y : ℕ) → x + y ≡ 1 → weight_of s d x y ≡ s
weight_straight s d x y h = grind (arith, nat_tests)

pub weight_diagonal : (s d x y : ℕ) → x + y ≡ 2 → weight_of s d x y ≡ d
weight_diagonal s d x y h = grind (arith, nat_tests)
