use Rattle.std.proofs.Common.{◌≡◌, ◌∷◌, [], length, Some, Ok, refl, ap, rules, arith}
use Rattle.reader.specs.Left.{left}
use Rattle.reader.specs.Reading.{entry_on}
use Rattle.reader.proofs.Taking.{taken}
use Rattle.reader.proofs.calls.CallsIterator.next.Goals as goal

pub returns-in_err-entry-clause-steps : goal.returns-in_err-entry-clause-steps
returns-in_err-entry-clause-steps c =
    let is : c.next.result ≡ Some (Ok c.in_ok-line.line) = search rules in
    let none : left c.args.self.now ≡ [] = search rules in
    rw c.from_residual-in_err-entry.ensures (none, refl)

first : (c : goal.After-self-1) → left c.args.self.now ≡ c.in_ok-entry.entry ∷ left (record { rest = c.next.new.self })
first c =
    let is : c.next.result ≡ Some (Ok c.in_ok-line.line) = search rules in
    let made : entry_on c.in_ok-line.line.number c.in_ok-line.line.bytes.now ≡ Ok c.in_ok-entry.entry = search rules in
    (taken c.args.self.now.rest c.next.new.self c.in_ok-line.line c.in_ok-entry.entry (rw is at c.next.ensures.steps) made).0

pub returns-clause-steps : goal.returns-clause-steps
returns-clause-steps c = first c

pub returns-clause-goes : goal.returns-clause-goes
returns-clause-goes c = record { on = λ h. (tt, tt, omega (arith, ap length (first c))); keeps = tt; rests = λ h. tt }
