-- How calls refuse.
use Rattle.std.specs.Prelude.{◌≡◌, ℕ, Bool, cond, ◌||◌, List, Some, None, Ok, Err, Option, Result, ◌==◌, nat_lt, codes}
use Rattle.sheet.specs.declared.refusal.Refusal.{Refusal}
use Rattle.sheet.specs.declared.refusal.Refusal.TheVariants.{BadSize, ShortMemory, WrongState, OutOfRange, NotAdmitted, UnfitFront, BadNames, BadLine, LongText}

-- the number of each refusal
abbrev pub number_of : Refusal → ℕ
number_of BadSize = 1
number_of ShortMemory = 2
number_of WrongState = 3
number_of OutOfRange = 4
number_of NotAdmitted = 5
number_of UnfitFront = 6
number_of BadNames = 7
number_of BadLine = 8
number_of LongText = 9

-- the refusal in words
abbrev pub words_of : Refusal → List ℕ
words_of BadSize = codes "a side is 0 or above 1024"
words_of ShortMemory = codes "a memory is too short"
words_of WrongState = codes "the bench is not in the state for it"
words_of OutOfRange = codes "it is off the sheet"
words_of NotAdmitted = codes "the order does not admit the metric"
words_of UnfitFront = codes "the front is too small or not empty"
words_of BadNames = codes "a line of names is not as it must be"
words_of BadLine = codes "a line is not as it must be"
words_of LongText = codes "the text is too long"

-- the refusal that is due: checks are made in turn, and the first that fails gives its own
abbrev pub check : Bool → Refusal → Option Refusal → Option Refusal
check fails refusal rest = cond fails (Some refusal) rest

-- no check is left
abbrev pub passed : Option Refusal
passed = None

-- a call gives exactly the refusal that is due, and then kept holds; where none is due it accepts, and its answer is as given
abbrev pub Answers : {A : Type 0} → Option Refusal → Type 0 → (A → Type 0) → Result A Refusal → Type 0
Answers due kept given (Ok answer) = (due ≡ None) × given answer
Answers due kept given (Err refusal) = (due ≡ Some refusal) × kept

-- a side of a sheet has 1 to 1024 pixels
abbrev pub bad_side : ℕ → Bool
bad_side n = n == 0 || nat_lt 1024 n
