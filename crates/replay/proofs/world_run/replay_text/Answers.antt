use Rattle.std.proofs.Common.{ap}
use Rattle.std.proofs.lemmas.Result.{err_from_is_err_and}
use Rattle.stable.specs.Memory.{in_memory}
use Rattle.stable.specs.Storages.{scripted}
use Rattle.schedule.specs.declared.replay_fault.ReplayCause.TheVariants.{World}
use Rattle.replay.proofs.AsRead.{ends_as_read, none_begun, none_read, replayed_as_read}
use Rattle.replay.proofs.NodeCount.{replay_ends_otherwise}
use Rattle.replay.proofs.world_run.replay_text.Goals as goal

-- all lines were done; records in memory are always honest
pub returns-in_ok-do_unread-in-Ok-clause-ended : goal.returns-in_ok-do_unread-in-Ok-clause-ended
returns-in_ok-do_unread-in-Ok-clause-ended c =
    replayed_as_read (scripted in_memory) c.args.bytes.now c.in_ok-unread.unread _ _ _ c.in_ok-unread.ensures.begun c.nodes.ensures
    c.in-Ok.ensures.start c.in_ok-do_unread-in-Ok.ensures.ends (c.do_unread.ensures.safe (λ i n e. tt))

-- one was not
pub returns-in_err-do_unread-in-Ok-clause-fault : goal.returns-in_err-do_unread-in-Ok-clause-fault
returns-in_err-do_unread-in-Ok-clause-fault c =
    let left = c.from_residual-in_err-do_unread-in-Ok in
    let p = err_from_is_err_and left.result left.ensures.1 in
    rw (p.1, p.2) (ends_as_read (scripted in_memory) c.args.bytes.now c.in_ok-unread.unread _ _ _ _ c.in_ok-unread.ensures.begun
    c.nodes.ensures c.in-Ok.ensures.start c.in_err-do_unread-in-Ok.ensures.ends (c.do_unread.ensures.safe (λ i n e. tt)))

pub returns-in_err-do_unread-in-Ok-clause-nodes_are_there : goal.returns-in_err-do_unread-in-Ok-clause-nodes_are_there
returns-in_err-do_unread-in-Ok-clause-nodes_are_there c =
    let left = c.from_residual-in_err-do_unread-in-Ok in
    let p = err_from_is_err_and left.result left.ensures.1 in
    rw (p.1, p.2) (replay_ends_otherwise (scripted in_memory) c.args.bytes.now _
    (ends_as_read (scripted in_memory) c.args.bytes.now c.in_ok-unread.unread _ _ _ _ c.in_ok-unread.ensures.begun
    c.nodes.ensures c.in-Ok.ensures.start c.in_err-do_unread-in-Ok.ensures.ends (c.do_unread.ensures.safe (λ i n e. tt))))

-- no world could be made, and a line is faulty
pub returns-in_err-see_faultless-in-Err-clause-fault : goal.returns-in_err-see_faultless-in-Err-clause-fault
returns-in_err-see_faultless-in-Err-clause-fault c =
    let left = c.from_residual-in_err-see_faultless-in-Err in
    let p = err_from_is_err_and left.result left.ensures.1 in
    rw (p.1, p.2) (none_read (scripted in_memory) c.args.bytes.now c.in_ok-unread.unread _ c.in_ok-unread.ensures.begun
    c.in_err-see_faultless-in-Err.ensures)

-- and none is
pub returns-in_ok-see_faultless-in-Err-clause-fault : goal.returns-in_ok-see_faultless-in-Err-clause-fault
returns-in_ok-see_faultless-in-Err-clause-fault c =
    none_begun (scripted in_memory) c.args.bytes.now c.in_ok-unread.unread _ c.in_ok-unread.ensures.begun
    c.in_ok-see_faultless-in-Err.ensures (ap World c.in-Err.ensures.faults) c.first-first.ensures
