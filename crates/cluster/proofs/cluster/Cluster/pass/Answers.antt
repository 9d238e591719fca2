use Rattle.std.proofs.Common.{rules, arith, ◌<◌, List, [], ◌∷◌, Option, Some, ℕ, length, ap, subst, ◌∙◌}
use Rattle.std.proofs.lemmas.Result.{err_from_is_err_and}
use Rattle.stable.specs.Memory.{in_memory}
use Rattle.stable.specs.Storages.{scripted}
use Rattle.cluster.specs.ClusterViews.{pumped_of, world_in}
use Rattle.cluster.specs.Clusters.{HasPassed}
use Rattle.cluster.specs.Passages.{Polled}
use Rattle.cluster.specs.Pumps.{Polls, poll_passed}
use Rattle.cluster.proofs.Pumping.{none_polled, one_polled, hits_limit, wants_memory, all_polled}
use Rattle.cluster.proofs.cluster.Cluster.pass.Goals as goal

pub loop-number-init : goal.loop-number-init
loop-number-init g c = (c.requires, none_polled (scripted in_memory) g.T.Transport (pumped_of c.args.self.now) c.args.self.now.transport)

-- memory is wanting
pub returns-in_err-made-clause-breaks : goal.returns-in_err-made-clause-breaks
returns-in_err-made-clause-breaks g c =
    let exit = err_from_is_err_and c.from_residual.result c.from_residual.ensures.1 in
    let begun : c.loop-number.number < length (world_in c.args.self.now).nodes = search (rules, arith) in
    rw (exit.1, exit.2) (wants_memory (scripted in_memory) g.T.Transport (pumped_of c.args.self.now) (pumped_of c.loop-number.self)
    (pumped_of c.poll_node.new.self) c.args.self.now.transport c.loop-number.self.transport c.poll_node.new.self.transport
    c.loop-number.number c.loop-number.made c.args.left c.in_err-made.field-0.0 begun c.loop-number.invariant.0
    c.in_err-made.ensures.faults c.in_err-made.ensures.unchanged c.loop-number.invariant.1
    (subst (λ n. (bytes : List ℕ) × HasPassed g.T.Transport c.loop-number.self.transport (Polled n (Some bytes) ∷ [])
    c.poll_node.new.self.transport) c.node_of.ensures c.in_err-made.ensures.lost))

-- the last Deliver was made
pub returns-then-made-left-clause-breaks : goal.returns-then-made-left-clause-breaks
returns-then-made-left-clause-breaks g c =
    let begun : c.loop-number.number < length (world_in c.args.self.now).nodes = search (rules, arith) in
    hits_limit (scripted in_memory) g.T.Transport (pumped_of c.args.self.now) (pumped_of c.loop-number.self)
    (pumped_of c.poll_node.new.self) c.args.self.now.transport c.loop-number.self.transport c.poll_node.new.self.transport
    c.loop-number.number c.loop-number.made c.in_ok-made.field-0 c.args.left begun c.loop-number.invariant.0
    c.in_ok-made.ensures.most c.if-made-left.true c.loop-number.invariant.1
    (subst (λ n. (d : Option (List ℕ)) × Polls (scripted in_memory) (pumped_of c.loop-number.self) n d c.in_ok-made.field-0
    (pumped_of c.poll_node.new.self) × HasPassed g.T.Transport c.loop-number.self.transport
    (poll_passed (scripted in_memory) n d (world_in c.loop-number.self) (world_in c.poll_node.new.self)) c.poll_node.new.self.transport)
    c.node_of.ensures c.in_ok-made.ensures.polls)

-- one node more is polled
pub loop-number-preserved : goal.loop-number-preserved
loop-number-preserved g c =
    let few = c.in_ok-made.ensures.most in
    let less = c.loop-number.invariant.0 in
    let not_all = c.if-made-left.false in (
      search (rules, arith, few, less, not_all),
      one_polled (scripted in_memory) g.T.Transport (pumped_of c.args.self.now) (pumped_of c.loop-number.self)
          (pumped_of c.poll_node.new.self) c.args.self.now.transport c.loop-number.self.transport c.poll_node.new.self.transport
          c.loop-number.number c.loop-number.made c.in_ok-made.field-0 c.loop-number.invariant.1
          (subst (λ n. (d : Option (List ℕ)) × Polls (scripted in_memory) (pumped_of c.loop-number.self) n d c.in_ok-made.field-0
          (pumped_of c.poll_node.new.self) × HasPassed g.T.Transport c.loop-number.self.transport
          (poll_passed (scripted in_memory) n d (world_in c.loop-number.self) (world_in c.poll_node.new.self))
          c.poll_node.new.self.transport)
          c.node_of.ensures c.in_ok-made.ensures.polls),
    )

-- all are
pub returns-clause-passes : goal.returns-clause-passes
returns-clause-passes g c = (
  c.loop-number.invariant.0,
  all_polled (scripted in_memory) g.T.Transport (pumped_of c.args.self.now) (pumped_of c.loop-number.self) c.args.self.now.transport
      c.loop-number.self.transport c.loop-number.number c.count-number-end.result c.loop-number.made
      (search (rules, arith)) (c.count-number-end.ensures.count ∙ ap (λ w. length w.nodes) c.world.ensures)
      c.loop-number.invariant.1,
)
