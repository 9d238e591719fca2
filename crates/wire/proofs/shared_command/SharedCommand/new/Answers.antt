use Rattle.std.proofs.Common.{rules}
use Rattle.wire.proofs.shared_command.SharedCommand.new.Goals as goal

pub returns : goal.returns
returns c = search rules
