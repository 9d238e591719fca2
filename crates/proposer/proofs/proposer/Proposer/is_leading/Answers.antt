use Rattle.std.proofs.Common.{rules}
use Rattle.proposer.proofs.proposer.Proposer.is_leading.Goals as goal

pub returns-in-Some : goal.returns-in-Some
returns-in-Some c = search rules
