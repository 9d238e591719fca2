use Rattle.std.proofs.Common.{rules}
use Rattle.tpoint.proofs.id.IdOrd.cmp.Goals as goal

pub returns : goal.returns
returns c = search rules
