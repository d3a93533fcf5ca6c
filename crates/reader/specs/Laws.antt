-- What the definitions of the format say, in other words.
use Rattle.std.specs.Prelude.{◌≡◌, ℕ, zero, suc, ◌+◌, ◌<◌, ◌≤◌, max, Bool, true, false, ◌⊎◌, List, [], ◌∷◌, ◌++◌, length, get_or, is_some, Some, Ok, Err, codes, Result, slice_index_or}
use Rattle.std.specs.List.{flat_map}
use Rattle.std.specs.Str.{bytes_eq}
use Rattle.sheet.specs.declared.refusal.Refusal.TheVariants.{BadSize, LongText}
use Rattle.words.specs.declared.values.Values.{Values}
use Rattle.reader.specs.declared.list.Entry.{Entry}
use Rattle.reader.specs.declared.list.Fault.{Fault}
use Rattle.words.specs.Calls.{on}
use Rattle.words.specs.Values.{values_in}
use Rattle.reader.specs.Lists.{Line, ended, unended, lines_of, whole, call_on, fault, faulty, bad_size, RunList, list_of}

-- a line with its end
abbrev pub with_end : Line → List ℕ
with_end (ended bytes) = bytes ++ 10 ∷ []
with_end (unended bytes) = bytes

-- the lines of a text make it up
abbrev pub LinesRejoin : Type 0
LinesRejoin = (text : List ℕ) → flat_map with_end (lines_of text) ≡ text

-- whether a line is these names
abbrev pub is_names : List ℕ → Line → Bool
is_names names (ended bytes) = bytes_eq bytes names
is_names names (unended bytes) = false

-- whether a line that n others stand before is as the format has it
abbrev pub sound : ℕ → Line → Bool
sound zero line = is_names (codes "width,height,metric") line
sound (suc zero) line = is_some (on (whole line) values_in)
sound (suc (suc zero)) line = is_names (codes "call,row,column,order") line
sound (suc (suc (suc n))) line = is_some (call_on line)

-- the line that n others stand before; one that is missing is like one without its end
abbrev pub line_after : ℕ → List Line → Line
line_after n lines = slice_index_or lines n (unended [])

-- how many lines have to be sound: all, and three at least
abbrev pub due_lines : List Line → ℕ
due_lines lines = max 3 (length lines)

-- the fault is that of the first line that is not sound
pub record FirstFault (lines : List Line) (due : Fault) : Type 0 where
  pub before : ℕ
  pub within : before < due_lines lines
  pub is : due ≡ faulty (before + 1)
  pub bad : sound before (line_after before lines) ≡ false
  pub earlier : (n : ℕ) → n < before → sound n (line_after n lines) ≡ true

-- every line is sound, and line 2 has the values
pub record AllSound (lines : List Line) (values : Values) : Type 0 where
  pub each : (n : ℕ) → n < due_lines lines → sound n (line_after n lines) ≡ true
  pub second : on (whole (line_after 1 lines)) values_in ≡ Some values

-- every line is sound, and the fault is that of the size
pub record SizeFault (lines : List Line) (due : Fault) : Type 0 where
  pub values : Values
  pub lines_sound : AllSound lines values
  pub size : bad_size values ≡ true
  pub is : due ≡ fault BadSize 2

-- every line is sound, the size is good, and each line from line 4 on has an entry in turn: its number and its call
pub record Accepted (lines : List Line) (list : RunList) : Type 0 where
  pub lines_sound : AllSound lines list.values
  pub size : bad_size list.values ≡ false
  pub count : length list.entries + 3 ≡ length lines
  pub numbers : (n : ℕ) (d : Entry) → n < length list.entries → (get_or list.entries n d).line ≡ n + 4
  pub calls : (n : ℕ) (d : Entry) → n < length list.entries → call_on (line_after (n + 3) lines) ≡ Some (get_or list.entries n d).call

-- what is read of some lines is true
abbrev pub ReadTrue : List Line → Result RunList Fault → Type 0
ReadTrue lines (Ok list) = Accepted lines list
ReadTrue lines (Err due) = FirstFault lines due ⊎ SizeFault lines due

-- a text is refused for its length before all else; of any other, what is read is true
abbrev pub ListsReadTrue : Type 0
ListsReadTrue = (text : List ℕ) → (16384 < length text → list_of text ≡ Err (fault LongText 0)) × (length text ≤ 16384 → ReadTrue (lines_of text) (list_of text))
