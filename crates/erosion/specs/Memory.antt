-- Memory that holds a sheet, and more.
use Rattle.std.specs.Prelude.{ℕ, ◌*◌, ◌<◌, ◌≤◌, List, length, drop, Option, nat_lt}
use Rattle.sheet.specs.declared.size.Size.{Size}
use Rattle.sheet.specs.declared.refusal.Refusal.{Refusal}
use Rattle.sheet.specs.declared.refusal.Refusal.TheVariants.{ShortMemory}
use Rattle.sheet.specs.Images.{Image, image_of, Same}
use Rattle.sheet.specs.Refusals.{check}

-- the memory is as long as the sheet has pixels, or longer
abbrev pub Fits : Size → List ℕ → Type 0
Fits size memory = size.width * size.height ≤ length memory

-- the refusal of a memory that is shorter
abbrev pub needs_memory : Size → List ℕ → Option Refusal → Option Refusal
needs_memory size memory rest = check (nat_lt (length memory) (size.width * size.height)) ShortMemory rest

-- the refusal of a picture, keys or a spare that is shorter
abbrev pub needs_all : Size → List ℕ → List ℕ → List ℕ → Option Refusal → Option Refusal
needs_all size picture keys spare rest = needs_memory size picture (needs_memory size keys (needs_memory size spare rest))

-- the memory holds an image on the sheet
abbrev pub Shows : Size → List ℕ → Image → Type 0
Shows size memory f = Same size.height size.width (image_of size.width memory) f

-- what lies past the sheet's pixels
abbrev pub past : Size → List ℕ → List ℕ
past size memory = drop (size.width * size.height) memory

-- a pixel is on the sheet
abbrev pub On : Size → ℕ → ℕ → Type 0
On size r c = (r < size.height) × (c < size.width)
