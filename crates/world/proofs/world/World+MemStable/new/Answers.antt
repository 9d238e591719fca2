use Rattle.world.proofs.UsedStorages.{memory_alone}
use Rattle.world.proofs.world.World+MemStable.new.Goals as goal

-- empty records in memory are never found used
pub returns-clause-faults : goal.returns-clause-faults
returns-clause-faults c =
    memory_alone c.with.result c.in_ok-stores.stores.items c.in_ok-stores.ensures.empty c.with.ensures.used c.with.ensures.faults

-- the run begins with as many nodes as were asked for
pub returns-clause-start : goal.returns-clause-start
returns-clause-start c = c.with.ensures.start
