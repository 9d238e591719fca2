use Rattle.std.proofs.Common.{refl, rules, true, false, Ok, Err, vec_len}
use Rattle.node_model.specs.declared.input.Input.TheVariants as input
use Rattle.world.specs.Inner.{inner_of}
use Rattle.world.proofs.Takings.{takes_lent, lent_keeps_membership, lent_sends_between}
use Rattle.world.proofs.inner.Inner.deliver_up.Goals as goal

pub returns-in-Ok : goal.returns-in-Ok
returns-in-Ok g c = (
  true,
  takes_lent c.args.self.now.nodes.items (vec_len c.args.self.now.nodes) c.args.node c.from.result c.index_mut-at.result.now
      c.receive.new.self (input.Message c.args.envelope.now) c.receive.result (search rules) (search rules) c.requires.there
      c.index_mut-at.ensures.value c.receive.ensures.steps
      (inner_of c.args.self.now) _ (Ok c.in-Ok.said) refl c.receive.ensures.meaning c.in-Ok.is c.record.ensures.lists,
)

pub returns-in-Err : goal.returns-in-Err
returns-in-Err g c = (
  false,
  takes_lent c.args.self.now.nodes.items (vec_len c.args.self.now.nodes) c.args.node c.from.result c.index_mut-at.result.now
      c.receive.new.self (input.Message c.args.envelope.now) c.receive.result (search rules) (search rules) c.requires.there
      c.index_mut-at.ensures.value c.receive.ensures.steps
      (inner_of c.args.self.now) _ (Err c.in-Err.fault) refl c.receive.ensures.meaning c.in-Err.is c.fail.ensures.lists,
)

-- the node keeps its name, whatever it takes
pub invariant_of-self-clause-membership : goal.invariant_of-self-clause-membership
invariant_of-self-clause-membership g c =
    lent_keeps_membership c.args.self.now.nodes.items (vec_len c.args.self.now.nodes) c.args.node c.from.result c.index_mut-at.result.now
    c.receive.new.self (input.Message c.args.envelope.now) c.receive.result (search rules) (search rules) c.requires.there
    c.index_mut-at.ensures.value c.receive.ensures.steps
    c.args.self.now.frames.items c.args.self.now.membership

-- what it sends goes between nodes of the run
pub record-requires-clause-between : goal.record-requires-clause-between
record-requires-clause-between g c =
    lent_sends_between c.args.self.now.nodes.items (vec_len c.args.self.now.nodes) c.args.node c.from.result c.index_mut-at.result.now
    c.receive.new.self (input.Message c.args.envelope.now) c.receive.result (search rules) (search rules) c.requires.there
    c.index_mut-at.ensures.value c.receive.ensures.steps
    c.args.self.now.frames.items c.in-Ok.said c.args.self.now.membership c.in-Ok.is
