-- What is left of a run list, and what a checked one says.
use Rattle.std.specs.Prelude.{◌≡◌, List, [], ◌∷◌, Some, None, Ok, Err, Option, Result}
use Rattle.reader.specs.declared.calls.Calls.{Calls}
use Rattle.reader.specs.declared.list.Entry.{Entry}
use Rattle.reader.specs.declared.list.Fault.{Fault}
use Rattle.reader.specs.declared.list.RunList.{RunList as Checked}
use Rattle.reader.specs.Lists.{entries_from, RunList}
use Rattle.reader.specs.Reading.{lines_left}

-- the calls that are still to come
abbrev pub left : Calls → List Entry
left calls = entries_from calls.rest.number (lines_left calls.rest)

-- a call is taken from the front of the list; where there is none, the list is at its end and stays there
abbrev pub Takes : Calls → Option Entry → Calls → Type 0
Takes before None after = (left before ≡ []) × (after ≡ before)
Takes before (Some entry) after = left before ≡ entry ∷ left after

-- what a checked list says
abbrev pub says : Checked → RunList
says list = record {
  values = record { width = list.size.width; height = list.size.height; metric = list.metric };
  entries = left list.calls;
}

-- what a check of a text found
abbrev pub said : Result Checked Fault → Result RunList Fault
said (Ok list) = Ok (says list)
said (Err due) = Err due
