use Rattle.stable.proofs.MemoryLemmas.{none_stored}
use Rattle.stable.proofs.memory.MemStable.new.Goals as goal

pub returns : goal.returns
returns c = record { empty = none_stored c.new.result c.new.ensures.empty }
