use Rattle.std.proofs.Common.{rules}
use Rattle.wire.proofs.frames.kind.Kind.of.Goals as goal

pub returns-in-1-eq6 : goal.returns-in-1-eq6
returns-in-1-eq6 c = search rules
