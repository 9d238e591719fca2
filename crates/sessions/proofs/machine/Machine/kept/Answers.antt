use Rattle.std.proofs.Common.{rules}
use Rattle.sessions.proofs.Keeping.{keeps_last}
use Rattle.sessions.proofs.machine.Machine.kept.Goals as goal

pub returns-clause-last : goal.returns-clause-last
returns-clause-last c =
    keeps_last c.args.self.now c.args.client c.args.number _ (search rules)
