use Rattle.bench.proofs.RunLaw.{run_law}
use Rattle.bench.proofs.run_law.Goals as goal

pub returns : goal.returns
returns c = run_law
