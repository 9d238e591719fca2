use Rattle.std.proofs.Common.{◌≡◌, rules}
use Rattle.sessions.specs.Same.{same_command, same_command_Decides}
use Rattle.sessions.proofs.command.CommandPartialEq.eq.Goals as goal

pub returns-in-Request-Request-clause-same : goal.returns-in-Request-Request-clause-same
returns-in-Request-Request-clause-same c =
    let told : c.eq.result ≡ same_command c.args.self.now c.args.other.now = search rules in
    rw told (same_command_Decides c.args.self.now c.args.other.now)
