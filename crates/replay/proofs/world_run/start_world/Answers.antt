use Rattle.std.proofs.Common.{ℕ, subst}
use Rattle.stable.specs.Storages.{scripted}
use Rattle.world_model.specs.Flushing.{IsStart}
use Rattle.world.specs.Seen.{world_of}
use Rattle.replay.proofs.Running.{begins_none}
use Rattle.replay.proofs.world_run.start_world.Goals as goal

pub returns-in-Ok-clause-started : goal.returns-in-Ok-clause-started
returns-in-Ok-clause-started g c =
    subst (λ (k : ℕ). IsStart (scripted g.S.Stable) k (world_of c.in-Ok.world)) c.nodes.ensures c.in-Ok.ensures.start

pub returns-in-Err-clause-fault : goal.returns-in-Err-clause-fault
returns-in-Err-clause-fault g c =
    begins_none g.S.Stable c.args.stores.items c.args.schedule.now c.in-Err.fault c.first.result c.first.ensures c.in-Err.ensures.used c.in-Err.ensures.faults
