use Rattle.std.proofs.Common.{◌≡◌, ◌++◌}
use Rattle.node_model.specs.Sending.{to_all}
use Rattle.node.proofs.sends.send_to_all.Given as goal

abbrev pub invariant-loop-value : goal.invariant-loop-value
invariant-loop-value l = l.sends.items ≡ l.fn.sends.items ++ to_all l.fn.from l.value l.fn.message
