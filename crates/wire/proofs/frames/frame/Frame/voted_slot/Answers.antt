use Rattle.std.proofs.lemmas.Grind.{common_steps}
use Rattle.std.proofs.Common.{arith, rules}
use Rattle.wire.proofs.frames.frame.Frame.voted_slot.Goals as goal

pub returns-then-kind-byte : goal.returns-then-kind-byte
returns-then-kind-byte c = grind (arith, common_steps)

pub returns-else-kind-byte : goal.returns-else-kind-byte
returns-else-kind-byte c = search rules
