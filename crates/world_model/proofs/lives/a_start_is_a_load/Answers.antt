use Rattle.world_model.proofs.Weaving.Begun.{start_loads}
use Rattle.world_model.proofs.lives.a_start_is_a_load.Goals as goal

pub returns : goal.returns
returns g c = start_loads g.S.Stable
