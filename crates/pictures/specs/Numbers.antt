-- Numbers at random.
use Rattle.std.specs.Prelude.{ℕ, zero, suc, ◌+◌, ◌*◌, ◌/◌, ◌%◌, ◌==◌, ◌||◌, not, cond}
use Rattle.pictures.specs.Bytes.{byte_of}

-- each state from the one before
abbrev pub next_state : ℕ → ℕ
next_state s = (s * 6364136223846793005 + 1442695040888963407) % 18446744073709551616

-- the state after n draws
unfoldable pub states : ℕ → ℕ → ℕ
states zero s = s
states (suc n) s = next_state (states n s)

-- the number of a state: its upper 31 bits
abbrev pub drawn : ℕ → ℕ
drawn s = s / 8589934592

-- a number brought below a bound, and 0 where the bound is 0
abbrev pub below : ℕ → ℕ → ℕ
below bound n = cond (bound == 0) 0 (n % bound)

-- air where the number is a multiple of one_in, which 0 has none of here
abbrev pub random_byte : ℕ → ℕ → ℕ
random_byte one_in n = byte_of (one_in == 0 || not (n % one_in == 0))
