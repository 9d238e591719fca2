use Rattle.std.proofs.Common.{◌≡◌, ◌++◌}
use Rattle.node_model.specs.Sending.{envelopes}
use Rattle.node.proofs.sends.send_each.Given as goal

-- what is still to be sent leads to what the whole leads to
abbrev pub invariant-loop-outgoing : goal.invariant-loop-outgoing
invariant-loop-outgoing l = l.sends.items ++ envelopes l.from l.nodes l.outgoing-iterator.rest.items
    ≡ l.fn.sends.items ++ envelopes l.from l.nodes l.fn.messages.items
