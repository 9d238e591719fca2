use Rattle.std.proofs.Common.{rules}
use Rattle.synod.proofs.quorum.is_majority.Goals as goal

pub returns : goal.returns
returns c = search rules
