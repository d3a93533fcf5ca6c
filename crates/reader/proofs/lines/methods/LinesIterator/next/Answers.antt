use Rattle.std.proofs.Common.{refl, rules, arith}
use Rattle.words.proofs.Parting.{rest_shorter}
use Rattle.reader.proofs.Stepping.{first_line, only_line}
use Rattle.reader.proofs.lines.methods.LinesIterator.next.Goals as goal

pub overflow_add-self : goal.overflow_add-self
overflow_add-self c = omega (arith, c.args.self.now.counted, rest_shorter 10 c.args.self.now.rest.now c.in-Some.bytes.now c.in-Some.rest.now c.in-Some.ensures)

pub invariant_of-self : goal.invariant_of-self
invariant_of-self c = record { counted = omega (arith, c.args.self.now.counted, rest_shorter 10 c.args.self.now.rest.now c.in-Some.bytes.now c.in-Some.rest.now c.in-Some.ensures) }

pub returns-in-Some-clause-steps : goal.returns-in-Some-clause-steps
returns-in-Some-clause-steps c = (first_line c.args.self.now.rest.now c.in-Some.bytes.now c.in-Some.rest.now c.in-Some.ensures, refl, refl)

pub returns-in-Some-clause-goes : goal.returns-in-Some-clause-goes
returns-in-Some-clause-goes c = record { on = λ h. (tt, tt, rest_shorter 10 c.args.self.now.rest.now c.in-Some.bytes.now c.in-Some.rest.now c.in-Some.ensures); keeps = tt; rests = λ h. tt }

pub returns-in-None-2-clause-steps : goal.returns-in-None-2-clause-steps
returns-in-None-2-clause-steps c = (_, only_line c.args.self.now.rest.now (search rules) c.in-None.ensures, refl, c.of_line.ensures)
