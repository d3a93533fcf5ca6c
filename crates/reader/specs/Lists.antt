-- The format of a run list: the lines of a text, and what they say together.
use Rattle.std.specs.Prelude.{ℕ, ◌+◌, ◌*◌, Bool, cond, ◌||◌, List, [], ◌∷◌, length, drop, is_some, Some, None, Ok, Err, codes, Option, Result, ◌==◌, nat_lt}
use Rattle.std.specs.Str.{bytes_eq}
use Rattle.sheet.specs.Refusals.{bad_side}
use Rattle.sheet.specs.declared.refusal.Refusal.{Refusal}
use Rattle.sheet.specs.declared.refusal.Refusal.TheVariants.{BadSize, BadNames, BadLine, LongText}
use Rattle.words.specs.declared.call.Call.{Call}
use Rattle.words.specs.declared.values.Values.{Values}
use Rattle.reader.specs.declared.list.Entry.{Entry}
use Rattle.reader.specs.declared.list.Fault.{Fault}
use Rattle.words.specs.Parts.{parted}
use Rattle.words.specs.Calls.{on, call_in}
use Rattle.words.specs.Values.{values_in}

-- a line without the byte 10 that ends it; a last line may lack that byte
pub data Line : Type 0 where
  ended : List ℕ → Line
  unended : List ℕ → Line

-- what follows the last byte 10 is a line only where it is not empty
abbrev pub last_line : List ℕ → List Line
last_line [] = []
last_line (b ∷ bs) = unended (b ∷ bs) ∷ []

-- the lines from the parts between the bytes 10
abbrev pub lines_in : List (List ℕ) → List Line
lines_in [] = []
lines_in (part ∷ []) = last_line part
lines_in (part ∷ next ∷ parts) = ended part ∷ lines_in (next ∷ parts)

-- the lines of a text
abbrev pub lines_of : List ℕ → List Line
lines_of text = lines_in (parted 10 text)

-- the bytes of a line that has its end
abbrev pub whole : Line → Option (List ℕ)
whole (ended bytes) = Some bytes
whole (unended bytes) = None

-- the lines after a first line of names
abbrev pub past_names : List ℕ → List Line → Option (List Line)
past_names names [] = None
past_names names (line ∷ lines) = on (whole line) (λ bytes. cond (bytes_eq bytes names) (Some lines) None)

-- the values of a first line, and the lines after it
abbrev pub past_values : List Line → Option (Values × List Line)
past_values [] = None
past_values (line ∷ lines) = on (whole line) (λ bytes. on (values_in bytes) (λ values. Some (values, lines)))

-- the call of a line
abbrev pub call_on : Line → Option Call
call_on line = on (whole line) call_in

-- a refusal at a line
abbrev pub fault : Refusal → ℕ → Fault
fault refusal line = record { refusal = refusal; line = line }

-- the fault of line k: bad names where it is line 1 or 3, else a bad line
abbrev pub faulty : ℕ → Fault
faulty k = fault (cond (k == 1 || k == 3) BadNames BadLine) k

-- what follows from a value, or a fault where there is none
abbrev pub or_fault : {A B : Type 0} → Option A → Fault → (A → Result B Fault) → Result B Fault
or_fault None due follows = Err due
or_fault (Some value) due follows = follows value

-- the fault of the first line, from number k on, that is no call
abbrev pub call_fault : ℕ → List Line → Option Fault
call_fault k [] = None
call_fault k (line ∷ lines) = cond (is_some (call_on line)) (call_fault (k + 1) lines) (Some (faulty k))

-- the call of line k before those that follow; nothing where the line is no call
abbrev pub entry_before : ℕ → Option Call → List Entry → List Entry
entry_before k None entries = []
entry_before k (Some call) entries = record { line = k; call = call } ∷ entries

-- the calls from line k on, up to the first line that is none
abbrev pub entries_from : ℕ → List Line → List Entry
entries_from k [] = []
entries_from k (line ∷ lines) = entry_before k (call_on line) (entries_from (k + 1) lines)

-- the calls of a text: from line 4 on
abbrev pub entries_of : List ℕ → List Entry
entries_of text = entries_from 4 (drop 3 (lines_of text))

-- what an accepted text says
pub record RunList : Type 0 where
  pub values : Values
  pub entries : List Entry

-- a sheet of a run list has sides of 1 to 1024 pixels, and at most 2048 pixels
abbrev pub bad_size : Values → Bool
bad_size values = bad_side values.width || bad_side values.height || nat_lt 2048 (values.width * values.height)

-- a fault, where there is one, in place of what was read
abbrev pub unless : {A : Type 0} → Option Fault → Result A Fault → Result A Fault
unless None read = read
unless (Some due) read = Err due

-- the run list of some lines: names, values, names and calls; the size is looked at last
abbrev pub list_in : List Line → Result RunList Fault
list_in lines =
    or_fault (past_names (codes "width,height,metric") lines) (faulty 1) (λ lines.
    or_fault (past_values lines) (faulty 2) (λ found.
    or_fault (past_names (codes "call,row,column,order") found.1) (faulty 3) (λ lines.
    unless (call_fault 4 lines)
    (cond (bad_size found.0) (Err (fault BadSize 2)) (Ok (record { values = found.0; entries = entries_from 4 lines }))))))

-- the run list that a text is, or its fault
abbrev pub list_of : List ℕ → Result RunList Fault
list_of text = cond (nat_lt 16384 (length text)) (Err (fault LongText 0)) (list_in (lines_of text))
