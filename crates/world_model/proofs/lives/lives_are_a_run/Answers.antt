use Rattle.world_model.proofs.Weaving.Woven.{lives_run}
use Rattle.world_model.proofs.lives.lives_are_a_run.Goals as goal

pub returns : goal.returns
returns g c = lives_run g.met.S.Stable.laws
