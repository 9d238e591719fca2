use Rattle.std.proofs.Common.{rules}
use Rattle.predicates.proofs.sequences.ever.Goals as goal

pub returns : goal.returns
returns c = search rules
