use Rattle.std.proofs.Common.{rules}
use Rattle.bench.proofs.RunLaw.{call_goes_on}
use Rattle.bench.proofs.held.Bench.answer.Goals as goal

pub returns-in-Strike-clause-runs_on : goal.returns-in-Strike-clause-runs_on
returns-in-Strike-clause-runs_on g c = call_goes_on g.M.Metric.model g.met.M.Metric.lawful c.args.call _ _ _ (search rules)

pub returns-in-Restore-clause-runs_on : goal.returns-in-Restore-clause-runs_on
returns-in-Restore-clause-runs_on g c = call_goes_on g.M.Metric.model g.met.M.Metric.lawful c.args.call _ _ _ (search rules)

pub returns-in-Settle-clause-runs_on : goal.returns-in-Settle-clause-runs_on
returns-in-Settle-clause-runs_on g c = call_goes_on g.M.Metric.model g.met.M.Metric.lawful c.args.call _ _ _ (search rules)

pub returns-in-Read-clause-runs_on : goal.returns-in-Read-clause-runs_on
returns-in-Read-clause-runs_on g c = call_goes_on g.M.Metric.model g.met.M.Metric.lawful c.args.call _ _ _ (search rules)

pub returns-in-Peak-clause-runs_on : goal.returns-in-Peak-clause-runs_on
returns-in-Peak-clause-runs_on g c = call_goes_on g.M.Metric.model g.met.M.Metric.lawful c.args.call _ _ _ (search rules)

pub returns-in-Reopen-clause-runs_on : goal.returns-in-Reopen-clause-runs_on
returns-in-Reopen-clause-runs_on g c = call_goes_on g.M.Metric.model g.met.M.Metric.lawful c.args.call _ _ _ (search rules)
