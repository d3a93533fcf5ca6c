-- What the reader's own types hold.
use Rattle.std.specs.Prelude.{◌≡◌, ℕ, ◌+◌, List, [], ◌∷◌, Some, None, Ok, Err, Option, Result}
use Rattle.words.specs.declared.values.Values.{Values}
use Rattle.words.specs.Calls.{call_in}
use Rattle.reader.specs.declared.list.Entry.{Entry}
use Rattle.reader.specs.declared.list.Fault.{Fault}
use Rattle.reader.specs.declared.lines.Line.{Line as Whole}
use Rattle.reader.specs.declared.lines.Lines.{Lines}
use Rattle.reader.specs.Lists.{Line, ended, unended, lines_of, past_names, past_values, faulty, or_fault}

-- the lines that are still to come
abbrev pub lines_left : Lines → List Line
lines_left lines = lines_of lines.rest.now

-- the next line is taken: its number and bytes, or its fault where it lacks its end, which only the last one may; where there is none,
-- the lines are at their end and stay there
abbrev pub Steps : Lines → Option (Result Whole Fault) → Lines → Type 0
Steps before None after = (lines_left before ≡ []) × (after ≡ before)
Steps before (Some (Ok line)) after = (lines_left before ≡ ended line.bytes.now ∷ lines_left after) × (line.number ≡ before.number) × (after.number ≡ before.number + 1)
Steps before (Some (Err due)) after = (bytes : List ℕ) × (lines_left before ≡ unended bytes ∷ []) × (lines_left after ≡ []) × (due ≡ faulty before.number)

-- the first line lacks its end, or there is none
abbrev pub NoWhole : List Line → Type 0
NoWhole [] = Unit {0}
NoWhole (ended bytes ∷ lines) = ⊥
NoWhole (unended bytes ∷ lines) = Unit {0}

-- a line that has its end is taken, or there is none and this is its fault
abbrev pub NextLine : Lines → Result Whole Fault → Lines → Type 0
NextLine before (Ok line) after = (lines_left before ≡ ended line.bytes.now ∷ lines_left after) × (line.number ≡ before.number) × (after.number ≡ before.number + 1)
NextLine before (Err due) after = NoWhole (lines_left before) × (due ≡ faulty before.number)

-- a line of names is taken, or this is its fault
abbrev pub PastNames : List ℕ → Lines → Result (Unit {0}) Fault → Lines → Type 0
PastNames names before (Ok _) after = (past_names names (lines_left before) ≡ Some (lines_left after)) × (after.number ≡ before.number + 1)
PastNames names before (Err due) after = (past_names names (lines_left before) ≡ None) × (due ≡ faulty before.number)

-- the line of values is taken, or this is its fault
abbrev pub PastValues : Lines → Result Values Fault → Lines → Type 0
PastValues before (Ok values) after = (past_values (lines_left before) ≡ Some (values, lines_left after)) × (after.number ≡ before.number + 1)
PastValues before (Err due) after = (past_values (lines_left before) ≡ None) × (due ≡ faulty before.number)

-- the call of line k, or its fault
abbrev pub entry_on : ℕ → List ℕ → Result Entry Fault
entry_on k bytes = or_fault (call_in bytes) (faulty k) (λ call. Ok (record { line = k; call = call }))
