use Rattle.std.proofs.Common.{refl, rules, subst}
use Rattle.stable.specs.Storages.{scripted}
use Rattle.world_model.specs.Rounds.{IsQuorum, CanMeet}
use Rattle.world.specs.Inner.{inner_of}
use Rattle.world_model.proofs.Progress.RoundLemmas.{at_none, meeting_ends, meeting_breaks}
use Rattle.world_model.proofs.Progress.RoundMembers.{can_meet}
use Rattle.world.proofs.inner.Inner.meet.Goals as goal

pub returns-clause-ends : goal.returns-clause-ends
returns-clause-ends g c =
    let can : CanMeet (inner_of c.args.self.now) c.args.node c.args.members.now = can_meet _ _ _
    (subst (λ n. IsQuorum n c.args.node c.args.members.now) c.count.ensures.count (c.is_quorum.ensures.0 (search rules)))
    (at_none _ _ c.lowest_down.result (search rules) c.lowest_down.ensures)
    (at_none _ _ c.lowest_behind.result (search rules) c.lowest_behind.ensures) in
    meeting_ends (scripted g.S.Stable) (inner_of c.args.self.now) c.args.node c.args.members.now c.hold.result _ can c.hold.ensures.ends

pub returns-clause-part : goal.returns-clause-part
returns-clause-part g c =
    let can : CanMeet (inner_of c.args.self.now) c.args.node c.args.members.now = can_meet _ _ _
    (subst (λ n. IsQuorum n c.args.node c.args.members.now) c.count.ensures.count (c.is_quorum.ensures.0 (search rules)))
    (at_none _ _ c.lowest_down.result (search rules) c.lowest_down.ensures)
    (at_none _ _ c.lowest_behind.result (search rules) c.lowest_behind.ensures) in
    meeting_breaks (scripted g.S.Stable) (inner_of c.args.self.now) c.args.node c.args.members.now c.hold.result _ can c.hold.ensures.part

-- a full log
pub returns-in_default-slot_of-clause-ends : goal.returns-in_default-slot_of-clause-ends
returns-in_default-slot_of-clause-ends g c = (
  can_meet _ _ _ (subst (λ n. IsQuorum n c.args.node c.args.members.now) c.count.ensures.count (c.is_quorum.ensures.0 (search rules)))
      (at_none _ _ c.lowest_down.result (search rules) c.lowest_down.ensures)
      (at_none _ _ c.lowest_behind.result (search rules) c.lowest_behind.ensures),
  (at_none _ _ c.slot_of.result (search rules) c.slot_of.ensures, refl),
)
