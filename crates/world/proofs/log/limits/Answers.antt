use Rattle.std.proofs.Common.{refl}
use Rattle.world.proofs.log.limits.Goals as goal

pub returns : goal.returns
returns c = refl
