use Rattle.stable.specs.Memory.{in_memory}
use Rattle.stable.specs.Storages.{scripted}
use Rattle.cluster.specs.ClusterViews.{pumped_of}
use Rattle.cluster.proofs.Pumping.{pump_delivers, pump_faults}
use Rattle.cluster.proofs.cluster.Cluster.pump.Goals as goal

-- what passed tells it
pub returns-clause-delivers : goal.returns-clause-delivers
returns-clause-delivers g c =
    pump_delivers (scripted in_memory) (pumped_of c.args.self.now) (pumped_of c.passes-ended.new.self) c.passes-ended.ensures.0
    c.passes-ended.result c.passes-ended.ensures.1

pub returns-clause-faults : goal.returns-clause-faults
returns-clause-faults g c =
    pump_faults (scripted in_memory) (pumped_of c.args.self.now) (pumped_of c.passes-ended.new.self) c.passes-ended.ensures.0
    c.passes-ended.result c.passes-ended.ensures.1
