-- The numbers of a metric.
use Rattle.std.specs.Prelude.{ℕ, Bool, cond, ◌&&◌, nat_le}

-- weights by level; far by the absolute values of an offset, columns first; and what a metric tells of itself
pub record Model : Type 0 where
  pub straight : ℕ → ℕ
  pub diagonal : ℕ → ℕ
  pub far : ℕ → ℕ → ℕ
  pub steady : Bool
  pub splits : Bool

-- a number at the levels 1 to 1024, and 0 at any other
abbrev pub at_level : ℕ → ℕ → ℕ
at_level i v = cond (nat_le 1 i && nat_le i 1024) v 0

-- a number at the offsets up to 1023, and 0 at any other
abbrev pub at_offset : ℕ → ℕ → ℕ → ℕ
at_offset x y v = cond (nat_le x 1023 && nat_le y 1023) v 0
