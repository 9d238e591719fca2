use Rattle.world_model.proofs.Weaving.Woven.{lives_explained}
use Rattle.world_model.proofs.lives.one_list_explains_lives.Goals as goal

pub returns : goal.returns
returns g c = lives_explained g.met.S.Stable.laws
