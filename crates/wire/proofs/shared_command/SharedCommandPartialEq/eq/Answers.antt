use Rattle.std.proofs.Common.{◌≡◌, rules}
use Rattle.sessions.specs.Same.{same_command, same_command_Decides}
use Rattle.wire.proofs.shared_command.SharedCommandPartialEq.eq.Goals as goal

-- the test tells which commands are the same
pub returns-clause-same : goal.returns-clause-same
returns-clause-same c =
    let told : c.eq.result ≡ same_command c.args.self.now c.args.other.now = search rules in
    rw told (same_command_Decides c.args.self.now c.args.other.now)
