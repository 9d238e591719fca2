use Rattle.world_model.proofs.OneLog.Explained.{explained}
use Rattle.world_model.proofs.explanation.one_log_explains.Goals as goal

pub returns : goal.returns
returns g c = explained
