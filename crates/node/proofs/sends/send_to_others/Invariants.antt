use Rattle.std.proofs.Common.{◌≡◌, ◌++◌, filter, not}
use Rattle.wire.specs.NodeSets.{has_node}
use Rattle.node_model.specs.Sending.{to_all}
use Rattle.node.proofs.sends.send_to_others.Given as goal

abbrev pub invariant-loop-value : goal.invariant-loop-value
invariant-loop-value l =
    l.sends.items ≡ l.fn.sends.items ++ filter (λ e. not (has_node l.set e.to)) (to_all l.fn.from l.value l.fn.message)
