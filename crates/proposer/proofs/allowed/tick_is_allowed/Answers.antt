use Rattle.proposer.proofs.AllowedTick.{tick_lem}
use Rattle.proposer.proofs.allowed.tick_is_allowed.Goals as goal

pub returns : goal.returns
returns c = λ f i input x p nodes stands. tick_lem f i input x p stands nodes
