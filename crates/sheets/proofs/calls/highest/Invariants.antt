use Rattle.std.proofs.Common.{◌≡◌}
use Rattle.sheets.specs.Calls.{peak_of}
use Rattle.sheets.proofs.calls.highest.Given as goal

abbrev pub invariant-loop-place : goal.invariant-loop-place
invariant-loop-place l = l.best ≡ peak_of l.place l.keys
