-- What the calls on a sheet refuse, do and give.
use Rattle.std.specs.Prelude.{ℕ, zero, suc, ◌*◌, cond, ◌||◌, List, ◌++◌, length, replicate, Some, None, Option, nat_le, nat_lt, slice_index, slice_set}
use Rattle.sheet.specs.declared.refusal.Refusal.{Refusal}
use Rattle.sheet.specs.declared.refusal.Refusal.TheVariants.{BadSize, ShortMemory, OutOfRange}
use Rattle.sheet.specs.declared.size.Size.{Size}
use Rattle.sheet.specs.Pixels.{place_of}
use Rattle.sheet.specs.Keys.{blank, reading_of}
use Rattle.sheet.specs.Refusals.{check, passed, bad_side}
use Rattle.erosion.specs.Memory.{needs_memory, past}

-- the refusal of an opening: first for the size, then for the picture, then for the keys
abbrev pub open_refusal : ℕ → ℕ → List ℕ → List ℕ → Option Refusal
open_refusal width height picture keys =
    check (bad_side width || bad_side height) BadSize
    (check (nat_lt (length picture) (width * height)) ShortMemory (check (nat_lt (length keys) (width * height)) ShortMemory passed))

-- the refusal of a call at a pixel: first for the memory, then for a row or column off the sheet
abbrev pub pixel_refusal : Size → List ℕ → ℕ → ℕ → Option Refusal
pixel_refusal size memory row column = needs_memory size memory (check (nat_le size.height row || nat_le size.width column) OutOfRange passed)

-- the refusal of a call that needs a memory and no more
abbrev pub memory_refusal : Size → List ℕ → Option Refusal
memory_refusal size memory = needs_memory size memory passed

-- a picture with one pixel's byte written
abbrev pub marked : Size → List ℕ → ℕ → ℕ → ℕ → List ℕ
marked size picture row column byte = slice_set picture (place_of size.width row column) byte

-- keys of which all that belong to the sheet are blank
abbrev pub blanked : Size → List ℕ → List ℕ
blanked size keys = replicate (size.width * size.height) blank ++ past size keys

-- what the key of a pixel says
abbrev pub reading_at : Size → List ℕ → ℕ → ℕ → Option (ℕ × ℕ)
reading_at size keys row column = reading_of (slice_index keys (place_of size.width row column))

-- of the best so far and what the key at place p says, the one of greater distance; the former where they are equal
abbrev pub higher : Option (ℕ × ℕ) → Option (ℕ × ℕ) → ℕ → Option (ℕ × ℕ)
higher best None p = best
higher None (Some reading) p = Some (reading.0, p)
higher (Some best) (Some reading) p = cond (nat_lt best.0 reading.0) (Some (reading.0, p)) (Some best)

-- the peak of the first n keys: the greatest distance with the first place that has it, and nothing where all are blank
abbrev pub peak_of : ℕ → List ℕ → Option (ℕ × ℕ)
peak_of zero keys = None
peak_of (suc n) keys = higher (peak_of n keys) (reading_of (slice_index keys n)) n
