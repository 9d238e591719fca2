use Rattle.std.proofs.Common.{rules}
use Rattle.cluster.proofs.queues.Queues.tell.Goals as goal

pub returns-in-Ok-clause-kept : goal.returns-in-Ok-clause-kept
returns-in-Ok-clause-kept c = search rules
