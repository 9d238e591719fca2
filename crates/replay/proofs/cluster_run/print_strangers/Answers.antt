use Rattle.std.proofs.Common.{rules}
use Rattle.replay.proofs.cluster_run.print_strangers.Goals as goal

pub returns : goal.returns
returns c = search rules
