use Rattle.world_model.proofs.OneLog.OneReply.{replies_one}
use Rattle.world_model.proofs.laws.replies_are_one.Goals as goal

pub returns : goal.returns
returns g c = replies_one
