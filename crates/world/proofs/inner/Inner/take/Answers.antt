use Rattle.std.proofs.Common.{refl, rules, Ok, Err, vec_len}
use Rattle.world.specs.Inner.{inner_of}
use Rattle.world.proofs.Takings.{takes_lent, lent_keeps_membership, lent_sends_between}
use Rattle.world.proofs.inner.Inner.take.Goals as goal

pub returns-in-Ok-clause-taken : goal.returns-in-Ok-clause-taken
returns-in-Ok-clause-taken g c =
    takes_lent c.args.self.now.nodes.items (vec_len c.args.self.now.nodes) c.args.node c.from.result c.index_mut-at.result.now
    c.step.new.self c.args.input c.step.result (search rules) (search rules) c.requires.there c.index_mut-at.ensures.value
    c.step.ensures.steps
    (inner_of c.args.self.now) _ (Ok c.in-Ok.outputs) refl c.step.ensures.meaning c.in-Ok.is c.record.ensures.lists

pub returns-in-Err-clause-taken : goal.returns-in-Err-clause-taken
returns-in-Err-clause-taken g c =
    takes_lent c.args.self.now.nodes.items (vec_len c.args.self.now.nodes) c.args.node c.from.result c.index_mut-at.result.now
    c.step.new.self c.args.input c.step.result (search rules) (search rules) c.requires.there c.index_mut-at.ensures.value
    c.step.ensures.steps
    (inner_of c.args.self.now) _ (Err c.in-Err.fault) refl c.step.ensures.meaning c.in-Err.is c.fail.ensures.lists

-- the node keeps its name, whatever it takes
pub invariant_of-self-clause-membership : goal.invariant_of-self-clause-membership
invariant_of-self-clause-membership g c =
    lent_keeps_membership c.args.self.now.nodes.items (vec_len c.args.self.now.nodes) c.args.node c.from.result c.index_mut-at.result.now
    c.step.new.self c.args.input c.step.result (search rules) (search rules) c.requires.there c.index_mut-at.ensures.value
    c.step.ensures.steps
    c.args.self.now.frames.items c.args.self.now.membership

-- what it sends goes between nodes of the run
pub record-requires-clause-between : goal.record-requires-clause-between
record-requires-clause-between g c =
    lent_sends_between c.args.self.now.nodes.items (vec_len c.args.self.now.nodes) c.args.node c.from.result c.index_mut-at.result.now
    c.step.new.self c.args.input c.step.result (search rules) (search rules) c.requires.there c.index_mut-at.ensures.value
    c.step.ensures.steps
    c.args.self.now.frames.items c.in-Ok.outputs c.args.self.now.membership c.in-Ok.is
