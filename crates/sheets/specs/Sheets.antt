-- The calls that use a sheet up: settling makes a settled sheet of an open one, reopening an open sheet of a settled one.
use Rattle.std.specs.Prelude.{◌≡◌, ℕ, Some, None, Option, Ok, Err, Result}
use Rattle.sheet.specs.declared.refusal.Refusal.{Refusal}
use Rattle.sheets.specs.declared.held.OpenSheet.{OpenSheet}
use Rattle.sheets.specs.declared.held.SettledSheet.{SettledSheet}

-- a settling gives a settled sheet of the same size, with a count as given; or exactly the refusal that is due with the same sheet, and
-- then kept holds
abbrev pub SettlesSheet : OpenSheet → Option Refusal → Type 0 → (ℕ → Type 0) → Result (SettledSheet × ℕ) (OpenSheet × Refusal) → Type 0
SettlesSheet sheet due kept given (Ok (after, count)) = (due ≡ None) × (after.size ≡ sheet.size) × given count
SettlesSheet sheet due kept given (Err (after, refusal)) = (due ≡ Some refusal) × (after ≡ sheet) × kept

-- a reopening gives an open sheet of the same size, and then given holds; or exactly the refusal that is due with the same sheet, and
-- then kept holds
abbrev pub ReopensSheet : SettledSheet → Option Refusal → Type 0 → Type 0 → Result OpenSheet (SettledSheet × Refusal) → Type 0
ReopensSheet sheet due kept given (Ok after) = (due ≡ None) × (after.size ≡ sheet.size) × given
ReopensSheet sheet due kept given (Err (after, refusal)) = (due ≡ Some refusal) × (after ≡ sheet) × kept
