use Rattle.world_model.proofs.Weaving.Woven.{life_goes_on, lives_join}
use Rattle.world_model.proofs.lives.lives_go_on.Goals as goal

pub returns : goal.returns
returns g c = record { goes_on = life_goes_on g.S.Stable; joins = lives_join g.S.Stable }
