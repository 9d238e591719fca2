use Rattle.std.proofs.Common.{rules}
use Rattle.proposer.proofs.choice.free_choice.Goals as goal

pub returns-in-Some-clause-chosen : goal.returns-in-Some-clause-chosen
returns-in-Some-clause-chosen c = search rules

pub returns-clause-chosen : goal.returns-clause-chosen
returns-clause-chosen c = search rules
