use Rattle.std.proofs.Common.{rules}
use Rattle.cluster.proofs.cluster.Cluster.new.Goals as goal

pub returns : goal.returns
returns g c = search rules
