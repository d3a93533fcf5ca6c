use Rattle.transform.proofs.Raster.{scans_settle}
use Rattle.transform.proofs.raster_settles.Goals as goal

pub returns : goal.returns
returns c = scans_settle
