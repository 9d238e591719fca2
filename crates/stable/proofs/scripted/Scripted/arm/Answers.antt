use Rattle.std.proofs.Common.{rules}
use Rattle.stable.proofs.scripted.Scripted.arm.Goals as goal

pub returns : goal.returns
returns g c = search rules
