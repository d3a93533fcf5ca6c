use Rattle.transform.proofs.Rounds.{look_at_rings, idle_stays, first_comes, first_settles}
use Rattle.transform.proofs.parallel_settles.Goals as goal

pub returns : goal.returns
returns c = record { rings = look_at_rings; stays = idle_stays; comes = first_comes; settles = first_settles }
