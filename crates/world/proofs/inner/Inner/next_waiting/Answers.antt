use Rattle.std.proofs.Common.{rules}
use Rattle.world.proofs.inner.Inner.next_waiting.Goals as goal

pub returns-then-self-len-clause-lowest : goal.returns-then-self-len-clause-lowest
returns-then-self-len-clause-lowest g c = search rules
