use Rattle.std.proofs.Common.{rules}
use Rattle.acceptor.proofs.acceptor.Acceptor.raise.Goals as goal

pub returns-else-is_none_or-clause-promise : goal.returns-else-is_none_or-clause-promise
returns-else-is_none_or-clause-promise c = search rules
