use Rattle.sessions.proofs.Snapshots.{one_snapshot}
use Rattle.sessions.proofs.laws.one_snapshot_of_each_list.Goals as goal

pub returns : goal.returns
returns c = one_snapshot
