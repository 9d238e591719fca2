use Rattle.std.proofs.Common.{rules}
use Rattle.tpoint.proofs.interp.Interp.from_name.Goals as goal

pub returns-in_default : goal.returns-in_default
returns-in_default c = search rules
