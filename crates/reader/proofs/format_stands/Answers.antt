use Rattle.reader.proofs.Rejoining.{lines_rejoin}
use Rattle.reader.proofs.Judging.{lists_read_true}
use Rattle.reader.proofs.format_stands.Goals as goal

pub returns : goal.returns
returns c = record { rejoin = lines_rejoin; lists = lists_read_true }
