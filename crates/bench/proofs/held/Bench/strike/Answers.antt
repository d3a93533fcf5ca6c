use Rattle.std.proofs.Common.{rules}
use Rattle.bench.specs.Calls.{strikes}
use Rattle.bench.proofs.RunLaw.{goes_on}
use Rattle.bench.proofs.held.Bench.strike.Goals as goal

pub returns-in_err-check_state-clause-runs_on : goal.returns-in_err-check_state-clause-runs_on
returns-in_err-check_state-clause-runs_on c = λ keys spare waits tally. goes_on _ (strikes c.args.row c.args.column) _ _ tt (search rules)

pub returns-clause-runs_on : goal.returns-clause-runs_on
returns-clause-runs_on c = λ keys spare waits tally. goes_on _ (strikes c.args.row c.args.column) _ _ tt (search rules)
