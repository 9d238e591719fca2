use Rattle.std.proofs.Common.{rules}
use Rattle.node.proofs.replica.Replica.answer.Goals as goal

pub returns-clause-says : goal.returns-clause-says
returns-clause-says c = search rules

pub returns-clause-answers : goal.returns-clause-answers
returns-clause-answers c = search rules
