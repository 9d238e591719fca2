use Rattle.std.proofs.Common.{rules}
use Rattle.tpoint.proofs.values.until_next.Goals as goal

pub returns : goal.returns
returns c = search rules
