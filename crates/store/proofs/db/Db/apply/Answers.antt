use Rattle.std.proofs.Common.{rules}
use Rattle.store.proofs.db.Db.apply.Goals as goal

pub returns-clause-reply : goal.returns-clause-reply
returns-clause-reply c = search rules

pub returns-clause-effect : goal.returns-clause-effect
returns-clause-effect c = search rules
