use Rattle.world_model.proofs.Progress.NextBallots.{ballots_never_fall}
use Rattle.world_model.proofs.laws.ballots_never_fall.Goals as goal

pub returns : goal.returns
returns g c = ballots_never_fall _
