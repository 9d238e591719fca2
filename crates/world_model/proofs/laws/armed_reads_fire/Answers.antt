use Rattle.world_model.proofs.OneNode.ArmedReads.{armed_reads_fire}
use Rattle.world_model.proofs.laws.armed_reads_fire.Goals as goal

pub returns : goal.returns
returns g c = armed_reads_fire g.S.Stable
