use Rattle.std.proofs.Common.{ℕ, ◌<◌, vec_len, rules, arith}
use Rattle.std.proofs.lemmas.List.{length-map}
use Rattle.std.proofs.lemmas.List.Elements.{All-contains}
use Rattle.node.specs.Seen.{state_of}
use Rattle.world_model.specs.Rounds.{IsBehind}
use Rattle.world.specs.Inner.{inner_of}
use Rattle.world_model.proofs.Progress.RoundMembers.{next_member}
use Rattle.world.proofs.inner.Inner.lowest_behind.Goals.{in-Some+else-is_among, else-is_among-via-then-is_among+else-is_behind}
use Rattle.world.proofs.inner.Inner.lowest_behind.Goals.{else-is_among-via-else-is_among, in_default}
use Rattle.world.proofs.inner.Inner.lowest_behind.Goals as goal

pub loop-number-preserved : goal.loop-number-preserved
loop-number-preserved g c =
    next_member (λ (m : ℕ). IsBehind (inner_of c.args.self.now) c.args.node m → ⊥) c.args.members.now c.loop-number.number
    c.loop-number.invariant (elim c.match-new.branch [
      | in-Some+else-is_among w ↦ elim w.else-is_among.branch [
        | else-is_among-via-then-is_among+else-is_behind x ↦ λ among. search rules
        | else-is_among-via-else-is_among x ↦ λ among. search rules
      ]
      | in_default w ↦ λ among. search (rules, arith)
    ])

-- none below it is such a member
pub returns-then-is_behind : goal.returns-then-is_behind
returns-then-is_behind g c = record {
  member = search rules;
  behind = search rules;
  lowest = λ i among less. c.loop-number.invariant i (search (rules, arith, less)) among;
}

pub returns : goal.returns
returns g c = λ m among.
    let there : m < vec_len c.args.self.now.nodes =
    All-contains (λ (k : ℕ). k < vec_len c.args.self.now.nodes) c.args.members.now m c.requires.members_there among in
    let counted = length-map c.args.self.now.nodes.items state_of in
    c.loop-number.invariant m (search (rules, arith, there, counted)) among
