use Rattle.std.proofs.Common.{◌≡◌, refl, rules, ap, ◌∙◌, vec_len}
use Rattle.node.specs.Seen.{state_of}
use Rattle.world_model.specs.Worlds.{quiet, with_node}
use Rattle.world.specs.Inner.{inner_of}
use Rattle.world_model.proofs.Steps.MembershipSteps.{armed_member}
use Rattle.world.proofs.Lent.{lent_membership}
use Rattle.world.proofs.WorldLemmas.{lent_at, left_by}
use Rattle.world.proofs.inner.Inner.arm_node.Goals as goal

pub returns : goal.returns
returns g c =
    let named : c.from.result ≡ c.args.node = search rules in
    record {
      before = state_of c.index_mut-at.result.now;
      here = lent_at c.args.self.now.nodes.items (vec_len c.args.self.now.nodes) c.args.node c.from.result
          c.index_mut-at.result.now (search rules) named c.requires.there c.index_mut-at.ensures.value;
      leaves = left_by _ (inner_of c.args.self.now) c.args.self.now.nodes.items c.args.node c.arm.new.self quiet
          (rw (← named) (search rules)) refl ∙ ap (λ n. quiet (with_node (inner_of c.args.self.now) c.args.node n)) c.arm.ensures;
    }

-- the node keeps its name
pub invariant_of-self-clause-membership : goal.invariant_of-self-clause-membership
invariant_of-self-clause-membership g c =
    let named : c.from.result ≡ c.args.node = search rules in
    lent_membership c.args.self.now.nodes.items c.args.self.now.frames.items (vec_len c.args.self.now.nodes) c.args.node c.from.result
    c.index_mut-at.result.now c.arm.new.self (search rules) named c.requires.there c.index_mut-at.ensures.value c.args.self.now.membership
    (λ member. armed_member _ _ _ _ _ c.arm.ensures member)
