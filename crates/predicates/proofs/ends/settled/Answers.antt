use Rattle.std.proofs.Common.{rules}
use Rattle.predicates.proofs.ends.settled.Goals as goal

pub returns-in-Ever : goal.returns-in-Ever
returns-in-Ever c = search rules
