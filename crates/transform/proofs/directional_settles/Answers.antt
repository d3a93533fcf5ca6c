use Rattle.transform.proofs.Directional.{sweeps_stay_idle, phase_ends, phases_reach, columns_then_rows, phases_settle}
use Rattle.transform.proofs.directional_settles.Goals as goal

pub returns : goal.returns
returns c = record { stays = sweeps_stay_idle; ends = phase_ends; reaches = phases_reach; splits = columns_then_rows; settles = phases_settle }
