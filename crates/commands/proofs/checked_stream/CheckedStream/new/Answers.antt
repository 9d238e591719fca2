use Rattle.std.proofs.Common.{rules}
use Rattle.commands.proofs.checked_stream.CheckedStream.new.Goals as goal

pub returns : goal.returns
returns g c = search rules
