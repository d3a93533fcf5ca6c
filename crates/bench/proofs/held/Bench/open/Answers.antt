use Rattle.std.proofs.Common.{refl, ◌∙◌}
use Rattle.sheets.specs.Calls.{open_refusal}
use Rattle.bench.specs.Runs.{opened}
use Rattle.bench.proofs.held.Bench.open.Goals as goal

pub returns-clause-begins : goal.returns-clause-begins
returns-clause-begins c =
    let said = c.in_ok-size.ensures in
    opened c.args.keys.now ((λ i. open_refusal (said.1.0 i) (said.1.1 i) c.args.picture.now c.args.keys.now) ∙ said.0) refl said.1.2
