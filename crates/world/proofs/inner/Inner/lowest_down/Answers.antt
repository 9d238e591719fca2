use Rattle.std.proofs.Common.{◌≡◌, ℕ, true, rules, arith}
use Rattle.world_model.specs.Rounds.{is_up}
use Rattle.world.specs.Inner.{inner_of}
use Rattle.world_model.proofs.Progress.RoundMembers.{next_member}
use Rattle.world.proofs.inner.Inner.lowest_down.Goals.{in-Some+else-is_among, else-is_among-via-then-is_among+else-not-is_up}
use Rattle.world.proofs.inner.Inner.lowest_down.Goals.{else-is_among-via-else-is_among, in_default}
use Rattle.world.proofs.inner.Inner.lowest_down.Goals as goal

pub loop-number-preserved : goal.loop-number-preserved
loop-number-preserved g c =
    next_member (λ (m : ℕ). is_up (inner_of c.args.self.now) m ≡ true) c.args.members.now c.loop-number.number c.loop-number.invariant
    (elim c.match-new.branch [
      | in-Some+else-is_among w ↦ elim w.else-is_among.branch [
        | else-is_among-via-then-is_among+else-not-is_up x ↦ λ among. search rules
        | else-is_among-via-else-is_among x ↦ λ among. search rules
      ]
      | in_default w ↦ λ among. search (rules, arith)
    ])
