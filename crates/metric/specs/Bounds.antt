-- Numbers by level and by offset, inside and outside their ranges.
use Rattle.std.specs.Prelude.{◌≡◌, ℕ, ◌≤◌, max, ◌⊎◌}
use Rattle.std.proofs.Common.{arith}
use Rattle.std.proofs.lemmas.Bool.Decides.{nat_tests}
use Rattle.metric.specs.Model.{at_level, at_offset}

pub level_in : (i v : ℕ) → 1 ≤ i → i ≤ 1024 → at_level i v ≡ v
level_in i v h k = grind (arith, nat_tests)

pub level_out : (i v : ℕ) → (i ≡ 0) ⊎ (1025 ≤ i) → at_level i v ≡ 0
level_out i v h = grind (arith, nat_tests)

pub level_bound : (i v b : ℕ) → (1 ≤ i → i ≤ 1024 → v ≤ b) → at_level i v ≤ b
level_bound i v b h = grind (arith, nat_tests)

pub offset_in : (x y v : ℕ) → x ≤ 1023 → y ≤ 1023 → at_offset x y v ≡ v
offset_in x y v h k = grind (arith, nat_tests)

pub offset_out : (x y v : ℕ) → 1024 ≤ max x y → at_offset x y v ≡ 0
offset_out x y v h = grind (arith, nat_tests)

pub offset_bound : (x y v b : ℕ) → (x ≤ 1023 → y ≤ 1023 → v ≤ b) → at_offset x y v ≤ b
offset_bound x y v b h = grind (arith, nat_tests)
