use Rattle.std.proofs.Common.{rules}
use Rattle.bench.specs.Calls.{reopens}
use Rattle.bench.proofs.RunLaw.{goes_on}
use Rattle.bench.proofs.held.Bench.reopen.Goals as goal

pub returns-in_err-check_state-clause-runs_on : goal.returns-in_err-check_state-clause-runs_on
returns-in_err-check_state-clause-runs_on c = λ picture spare waits tally. goes_on _ reopens _ _ tt (search rules)

pub returns-in_err-clear-clause-runs_on : goal.returns-in_err-clear-clause-runs_on
returns-in_err-clear-clause-runs_on c = λ picture spare waits tally. goes_on _ reopens _ _ tt (search rules)

pub returns-clause-runs_on : goal.returns-clause-runs_on
returns-clause-runs_on c = λ picture spare waits tally. goes_on _ reopens _ _ tt (search rules)
