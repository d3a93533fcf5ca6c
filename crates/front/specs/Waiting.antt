-- What a front means: which of its places wait for work, a flag for each place, and a tally of takes.
use Rattle.std.specs.Prelude.{◌≡◌, ℕ, ◌+◌, ◌<◌, min, Bool, true, false, cond, ◌||◌, List, length, get_or, replicate, count_by, Option, ◌==◌, nat_lt, slice_index_or, slice_set}
use Rattle.sheet.specs.declared.refusal.Refusal.{Refusal}
use Rattle.sheet.specs.declared.refusal.Refusal.TheVariants.{BadSize, ShortMemory}
use Rattle.sheet.specs.Refusals.{check, passed}

-- a front has 1 to 1,048,576 places
abbrev pub bad_size : ℕ → Bool
bad_size n = n == 0 || nat_lt 1048576 n

-- the refusal of n places in a memory for m
abbrev pub refusal_of : ℕ → ℕ → Option Refusal
refusal_of n m = check (bad_size n) BadSize (check (nat_lt m n) ShortMemory passed)

-- how many places a front made from these figures has: none where they are refused
abbrev pub size_of : ℕ → ℕ → ℕ
size_of n m = cond (bad_size n || nat_lt m n) 0 n

-- n places of which none waits
abbrev pub idle : ℕ → List Bool
idle n = replicate n false

-- how many places wait
abbrev pub many : List Bool → ℕ
many ws = count_by (λ w. w) ws

-- a tally raised by one, up to the greatest number of 64 bits
abbrev pub raised : ℕ → ℕ
raised t = min (t + 1) 18446744073709551615

-- a place is put: it waits, the others are as before, and so is the tally
pub record Puts (ws : List Bool) (t p : ℕ) (ws' : List Bool) (t' : ℕ) : Type 0 where
  pub waits_now : ws' ≡ slice_set ws p true
  pub same_tally : t' ≡ t

-- a place is taken: it waited and waits no more, the others are as before, and the tally is raised
pub record Takes (ws : List Bool) (t p : ℕ) (ws' : List Bool) (t' : ℕ) : Type 0 where
  pub within : p < length ws
  pub waited : get_or ws p false ≡ true
  pub waits_no_more : ws' ≡ slice_set ws p false
  pub raised_tally : t' ≡ raised t

-- no place waits
abbrev pub NoneWaits : List Bool → Type 0
NoneWaits ws = (p : ℕ) → slice_index_or ws p false ≡ false

-- no lower place waits
abbrev pub NoneLower : List Bool → ℕ → Type 0
NoneLower ws p = (q : ℕ) → q < p → slice_index_or ws q false ≡ false

-- a place is the lowest that waits
pub record IsLowest (ws : List Bool) (p : ℕ) : Type 0 where
  pub within : p < length ws
  pub waits : get_or ws p false ≡ true
  pub none_lower : NoneLower ws p
