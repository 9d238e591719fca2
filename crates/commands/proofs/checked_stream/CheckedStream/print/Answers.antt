use Rattle.std.proofs.Common.{rules}
use Rattle.commands.proofs.checked_stream.CheckedStream.print.Goals as goal

pub returns-in_default-clause-err : goal.returns-in_default-clause-err
returns-in_default-clause-err g c = search rules
