use Rattle.std.proofs.Common.{rules}
use Rattle.predicates.proofs.ends.are_beyond.Goals as goal

pub returns-then-to-low : goal.returns-then-to-low
returns-then-to-low c = search rules
