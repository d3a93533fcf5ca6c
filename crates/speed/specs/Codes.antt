-- What the benchmark is told in one number.
use Rattle.std.specs.Prelude.{ℕ, ◌+◌, ◌-◌, Bool, true, false, Ok, Err, Result}
use Rattle.std.proofs.Common.{lit≤}
use Rattle.sheet.specs.declared.refusal.Refusal.{Refusal}
use Rattle.sheet.specs.declared.size.Size.{Size}
use Rattle.sheet.specs.Keys.{blank}
use Rattle.sheet.specs.Refusals.{number_of}

-- the greatest sheet
abbrev pub full : Size
full = record { width = 1024; height = 1024; columns = lit≤ tt; wide = lit≤ tt; rows = lit≤ tt; tall = lit≤ tt }

-- 0 for a round that altered nothing, 1 for one that did, and one more than its number for a refusal
abbrev pub code_of : Result Bool Refusal → ℕ
code_of (Ok false) = 0
code_of (Ok true) = 1
code_of (Err refusal) = number_of refusal + 1

-- a count, and for a refusal the greatest number of 64 bits less the refusal's
abbrev pub count_of : Result ℕ Refusal → ℕ
count_of (Ok count) = count
count_of (Err refusal) = blank - number_of refusal
