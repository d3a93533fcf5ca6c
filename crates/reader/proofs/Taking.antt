-- The calls of the lines that are left, when the first line is taken.
use Rattle.std.proofs.Common.{◌≡◌, ℕ, ◌+◌, List, ◌∷◌, Some, None, Ok, Option, sym, refl, arith}
use Rattle.words.specs.declared.call.Call.{Call}
use Rattle.words.specs.Calls.{call_in}
use Rattle.reader.specs.declared.lines.Line.{Line as Whole}
use Rattle.reader.specs.declared.lines.Lines.{Lines}
use Rattle.reader.specs.declared.list.Entry.{Entry}
use Rattle.reader.specs.Lists.{Line, ended, entries_from, call_fault, faulty, or_fault}
use Rattle.reader.specs.Reading.{lines_left, Steps, entry_on}

-- a call comes before those of the lines after it, whose first fault is that of all
abbrev Taken : ℕ → List Line → Entry → ℕ → List Line → Type 0
Taken k lines entry l after = (entries_from k lines ≡ entry ∷ entries_from l after) × (call_fault k lines ≡ call_fault l after)

by_call : (k : ℕ) (bytes : List ℕ) (after : List Line) (entry : Entry) (call : Option Call) → call_in bytes ≡ call → or_fault call (faulty k) (λ call. Ok (record { line = k; call = call })) ≡ Ok entry → Taken k (ended bytes ∷ after) entry (k + 1) after
by_call k bytes after entry None is e = let z : ◌≡◌ {A = ℕ} 0 1 = cc in absurd (omega arith)
by_call k bytes after entry (Some call) is e = let same : record { line = k; call = call } ≡ entry = cc in rw (is, sym same) (refl, refl)

pub taken : (r s : Lines) (line : Whole) (entry : Entry) → Steps r (Some (Ok line)) s → entry_on line.number line.bytes.now ≡ Ok entry → Taken r.number (lines_left r) entry s.number (lines_left s)
taken r s line entry step e = rw (step.0, step.2) (by_call r.number line.bytes.now (lines_left s) entry (call_in line.bytes.now) refl (rw step.1 at e))
