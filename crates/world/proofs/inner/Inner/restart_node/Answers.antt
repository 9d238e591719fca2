use Rattle.std.proofs.Common.{◌≡◌, refl, rules, subst, vec_len, None, Result, Ok, Err, OnOk}
use Rattle.node_model.specs.declared.fault.NodeFault.{NodeFault}
use Rattle.node.specs.Seen.{state_of}
use Rattle.world_model.specs.Worlds.{with_outcome, restart_outcome}
use Rattle.world.specs.Inner.{inner_of}
use Rattle.world_model.proofs.Steps.MembershipLemmas.{restart_leaves}
use Rattle.world.proofs.Lent.{lent_membership}
use Rattle.world.proofs.WorldLemmas.{lent_at, left_by}
use Rattle.world.proofs.inner.Inner.restart_node.Goals as goal

pub returns-in-Ok : goal.returns-in-Ok
returns-in-Ok g c =
    let named : c.from.result ≡ c.args.node = search rules in
    record {
      before = state_of c.index_mut-at.result.now;
      here = lent_at c.args.self.now.nodes.items (vec_len c.args.self.now.nodes) c.args.node c.from.result
          c.index_mut-at.result.now (search rules) named c.requires.there c.index_mut-at.ensures.value;
      after = state_of c.restart.new.self;
      result = Ok tt;
      restarts = rw (← c.in-Ok.is) c.restart.ensures.restarts;
      settled = subst (λ (r : Result (Unit {0}) NodeFault). OnOk r ((state_of c.restart.new.self).storage.unsure ≡ None)) c.in-Ok.is
          c.restart.ensures.settled;
      leaves = left_by _ (inner_of c.args.self.now) c.args.self.now.nodes.items c.args.node c.restart.new.self
          (λ w. with_outcome w (restart_outcome c.args.node (Ok tt))) (rw (← named) (search rules)) refl;
    }

pub returns-in-Err : goal.returns-in-Err
returns-in-Err g c =
    let named : c.from.result ≡ c.args.node = search rules in
    record {
      before = state_of c.index_mut-at.result.now;
      here = lent_at c.args.self.now.nodes.items (vec_len c.args.self.now.nodes) c.args.node c.from.result
          c.index_mut-at.result.now (search rules) named c.requires.there c.index_mut-at.ensures.value;
      after = state_of c.restart.new.self;
      result = Err c.in-Err.fault;
      restarts = rw (← c.in-Err.is) c.restart.ensures.restarts;
      settled = tt;
      leaves = left_by _ (inner_of c.args.self.now) c.args.self.now.nodes.items c.args.node c.restart.new.self
          (λ w. with_outcome w (restart_outcome c.args.node (Err c.in-Err.fault))) (rw (← named) (search rules)) refl;
    }

-- the node keeps its name
pub invariant_of-self-clause-membership : goal.invariant_of-self-clause-membership
invariant_of-self-clause-membership g c =
    let named : c.from.result ≡ c.args.node = search rules in
    lent_membership c.args.self.now.nodes.items c.args.self.now.frames.items (vec_len c.args.self.now.nodes) c.args.node c.from.result
    c.index_mut-at.result.now c.restart.new.self (search rules) named c.requires.there c.index_mut-at.ensures.value
    c.args.self.now.membership
    (λ member. restart_leaves c.args.node (vec_len c.args.self.now.nodes) _ _ _ c.restart.ensures.restarts member)

-- the node keeps its name, down as it is
pub invariant_of-self-in-Err-clause-membership : goal.invariant_of-self-in-Err-clause-membership
invariant_of-self-in-Err-clause-membership g c =
    let named : c.from.result ≡ c.args.node = search rules in
    lent_membership c.args.self.now.nodes.items c.args.self.now.frames.items (vec_len c.args.self.now.nodes) c.args.node c.from.result
    c.index_mut-at.result.now c.restart.new.self (search rules) named c.requires.there c.index_mut-at.ensures.value
    c.args.self.now.membership
    (λ member. restart_leaves c.args.node (vec_len c.args.self.now.nodes) _ _ _ c.restart.ensures.restarts member)
