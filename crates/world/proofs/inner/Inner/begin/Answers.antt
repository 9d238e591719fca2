use Rattle.std.proofs.Common.{◌≡◌, refl, rules, Ok, Err, vec_len}
use Rattle.stable.specs.Storages.{scripted}
use Rattle.node_model.specs.Nodes.{NodeSteps}
use Rattle.node.specs.Seen.{state_of}
use Rattle.node_model.specs.declared.input.Input.TheVariants as input
use Rattle.world_model.specs.Worlds.{with_node, with_outcome, outcome_of}
use Rattle.world.specs.Inner.{inner_of}
use Rattle.world_model.proofs.Progress.RoundBeginnings.{fails_to_begin, refuses_to_begin}
use Rattle.world.proofs.Takings.{takes_lent, lent_keeps_membership, lent_sends_between}
use Rattle.world.proofs.WorldLemmas.{lent_at, left_by}
use Rattle.world.proofs.inner.Inner.begin.Goals as goal

-- the campaign begins
pub returns-in-Ok-clause-begins : goal.returns-in-Ok-clause-begins
returns-in-Ok-clause-begins g c =
    takes_lent c.args.self.now.nodes.items (vec_len c.args.self.now.nodes) c.args.node c.from.result c.index_mut-at.result.now
    c.step.new.self input.Timeout c.step.result (search rules) (search rules) c.requires.there c.index_mut-at.ensures.value
    c.step.ensures.steps
    (inner_of c.args.self.now) _ (Ok c.in-Ok.begun) refl c.step.ensures.meaning c.in-Ok.is c.record.ensures.lists

-- the node goes down on it
pub returns-then-is_stop-clause-fails : goal.returns-then-is_stop-clause-fails
returns-then-is_stop-clause-fails g c =
    let named : c.from.result ≡ c.args.node = search rules in
    let here = lent_at c.args.self.now.nodes.items (vec_len c.args.self.now.nodes) c.args.node c.from.result c.index_mut-at.result.now
    (search rules) named c.requires.there c.index_mut-at.ensures.value in
    let leaves : inner_of c.fail.new.self
    ≡ with_outcome (with_node (inner_of c.args.self.now) c.args.node (state_of c.step.new.self)) (outcome_of c.args.node c.in-Err.fault) =
    left_by _ (inner_of c.args.self.now) c.args.self.now.nodes.items c.args.node c.step.new.self
    (λ w. with_outcome w (outcome_of c.args.node c.in-Err.fault)) (rw named at c.fail.ensures.lists) refl in
    let steps : NodeSteps (scripted g.S.Stable) (state_of c.index_mut-at.result.now) input.Timeout (Err c.in-Err.fault)
    (state_of c.step.new.self) =
    rw (← c.in-Err.is) c.step.ensures.steps in
    fails_to_begin (scripted g.S.Stable) (inner_of c.args.self.now) c.args.node (state_of c.index_mut-at.result.now)
    (state_of c.step.new.self)
    c.in-Err.fault _ here steps c.requires.up leaves
    (record {
      before = state_of c.index_mut-at.result.now;
      here = here;
      after = state_of c.step.new.self;
      result = Err c.in-Err.fault;
      steps = steps;
      meaning = rw (← c.in-Err.is) c.step.ensures.meaning;
      taken_ = refl;
      leaves = leaves;
    }) (search rules)

-- it refuses
pub returns-else-is_stop-clause-fails : goal.returns-else-is_stop-clause-fails
returns-else-is_stop-clause-fails g c =
    let named : c.from.result ≡ c.args.node = search rules in
    let here = lent_at c.args.self.now.nodes.items (vec_len c.args.self.now.nodes) c.args.node c.from.result c.index_mut-at.result.now
    (search rules) named c.requires.there c.index_mut-at.ensures.value in
    let steps : NodeSteps (scripted g.S.Stable) (state_of c.index_mut-at.result.now) input.Timeout (Err c.in-Err.fault)
    (state_of c.step.new.self) =
    rw (← c.in-Err.is) c.step.ensures.steps in
    refuses_to_begin (scripted g.S.Stable) (inner_of c.args.self.now) c.args.node (state_of c.index_mut-at.result.now)
    (state_of c.step.new.self)
    c.in-Err.fault _ here steps c.requires.up
    (left_by _ (inner_of c.args.self.now) c.args.self.now.nodes.items c.args.node c.step.new.self (λ w. w) (search (rules, named)) refl)
    (search rules)

-- the node keeps its name, whatever it takes
pub invariant_of-self-clause-membership : goal.invariant_of-self-clause-membership
invariant_of-self-clause-membership g c =
    lent_keeps_membership c.args.self.now.nodes.items (vec_len c.args.self.now.nodes) c.args.node c.from.result c.index_mut-at.result.now
    c.step.new.self input.Timeout c.step.result (search rules) (search rules) c.requires.there c.index_mut-at.ensures.value
    c.step.ensures.steps
    c.args.self.now.frames.items c.args.self.now.membership

-- what it sends goes between nodes of the run
pub record-requires-clause-between : goal.record-requires-clause-between
record-requires-clause-between g c =
    lent_sends_between c.args.self.now.nodes.items (vec_len c.args.self.now.nodes) c.args.node c.from.result c.index_mut-at.result.now
    c.step.new.self input.Timeout c.step.result (search rules) (search rules) c.requires.there c.index_mut-at.ensures.value
    c.step.ensures.steps
    c.args.self.now.frames.items c.in-Ok.begun c.args.self.now.membership c.in-Ok.is
