use Rattle.transform.proofs.Steady.{stable_settles}
use Rattle.transform.proofs.stable_settles.Goals as goal

pub returns : goal.returns
returns c m h w picture f law steady tall wide low sound stable = stable_settles m law steady h w picture tall wide f low sound stable
