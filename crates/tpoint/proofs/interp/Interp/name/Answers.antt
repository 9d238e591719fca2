use Rattle.std.proofs.Common.{rules}
use Rattle.tpoint.proofs.interp.Interp.name.Goals as goal

pub returns-in-Step : goal.returns-in-Step
returns-in-Step c = search rules
