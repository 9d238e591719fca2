use Rattle.world_model.proofs.OneLog.OneAnswer.{answers_one}
use Rattle.world_model.proofs.laws.answers_are_one.Goals as goal

pub returns : goal.returns
returns g c = answers_one
