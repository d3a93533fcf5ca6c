use Rattle.std.proofs.Common.{rules}
use Rattle.bench.specs.Calls.{settles}
use Rattle.bench.proofs.RunLaw.{goes_on}
use Rattle.bench.proofs.held.Bench.settle.Goals as goal

pub returns-in_err-check_state-clause-runs_on : goal.returns-in_err-check_state-clause-runs_on
returns-in_err-check_state-clause-runs_on g c = goes_on _ (settles (g.M.Metric.model c.args.metric.now) c.args.order) _ _ (g.met.M.Metric.lawful c.args.metric.now) (search rules)

pub returns-in_err-count-clause-runs_on : goal.returns-in_err-count-clause-runs_on
returns-in_err-count-clause-runs_on g c = goes_on _ (settles (g.M.Metric.model c.args.metric.now) c.args.order) _ _ (g.met.M.Metric.lawful c.args.metric.now) (search rules)

pub returns-clause-runs_on : goal.returns-clause-runs_on
returns-clause-runs_on g c = goes_on _ (settles (g.M.Metric.model c.args.metric.now) c.args.order) _ _ (g.met.M.Metric.lawful c.args.metric.now) (search rules)
