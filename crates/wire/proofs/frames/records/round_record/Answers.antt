use Rattle.std.proofs.Common.{rules}
use Rattle.wire.proofs.frames.records.round_record.Goals as goal

pub returns : goal.returns
returns c = search rules
