use Rattle.std.proofs.Common.{rules}
use Rattle.world.proofs.world.World.learnt.Goals as goal

pub returns : goal.returns
returns g c = search rules
