use Rattle.std.proofs.Common.{◌≤◌, length, IfOk, IsErrOf, sym, ap, subst, ◌∙◌}
use Rattle.stable.specs.Memory.{in_memory}
use Rattle.stable.specs.Storages.{scripted}
use Rattle.events.specs.declared.fault.WorldFault.TheVariants as fault
use Rattle.world_model.specs.Rounds.{RoundEnds, IsPartOfRound}
use Rattle.world_model.specs.Progress.{PromisesProgress}
use Rattle.world.specs.Seen.{world_of}
use Rattle.cluster.proofs.Clustering.{round_frames}
use Rattle.cluster.proofs.cluster.Cluster.round.Goals as goal

-- the frames that were sent before are still there
pub send_from-requires : goal.send_from-requires
send_from-requires g c =
    subst (λ fs. length fs ≤ length (world_of c.round-ended.new.self.world).frames)
    (sym (c.frames-first.ensures ∙ ap (λ w. w.frames) c.world.ensures))
    (round_frames (scripted in_memory) (world_of c.args.self.now.indexed.world) (world_of c.round-ended.new.self.world)
    c.args.node c.args.members.now c.round-ended.result c.round-ended.ensures.ends c.round-ended.ensures.unchanged
    c.round-ended.ensures.memory
    c.round-ended.ensures.faults)

-- sending changes nothing in the world
pub returns-clause-ends : goal.returns-clause-ends
returns-clause-ends g c =
    subst (λ w. IfOk c.round-ended.result (λ end.
    RoundEnds (scripted in_memory) (world_of c.args.self.now.indexed.world) c.args.node c.args.members.now end (world_of w.world)))
    (sym c.send_from.ensures.same) c.round-ended.ensures.ends

pub returns-clause-memory : goal.returns-clause-memory
returns-clause-memory g c =
    subst (λ w. IsErrOf c.round-ended.result fault.Memory
    → IsPartOfRound (scripted in_memory) (world_of c.args.self.now.indexed.world) c.args.node c.args.members.now (world_of w.world))
    (sym c.send_from.ensures.same) c.round-ended.ensures.memory

pub returns-clause-progress : goal.returns-clause-progress
returns-clause-progress g c =
    subst (λ w. IfOk c.round-ended.result (λ end.
    PromisesProgress (λ _. Unit {0}) (world_of c.args.self.now.indexed.world) c.args.node c.args.members.now end (world_of w.world)))
    (sym c.send_from.ensures.same) c.round-ended.ensures.progress
