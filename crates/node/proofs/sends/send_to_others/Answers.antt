use Rattle.std.proofs.Common.{◌≡◌, ◌++◌, true, false, rules}
use Rattle.wire.specs.NodeSets.{has_node}
use Rattle.node_model.specs.Sending.{to_one}
use Rattle.node_model.proofs.SendLemmas.{passed_over, sent_too}
use Rattle.node.proofs.sends.send_to_others.Goals as goal
use Rattle.node.proofs.sends.send_to_others.Goals.{then-not-contains+in_ok-to_node+in_ok-push, else-not-contains}

-- one node more: it is of the set, or the message goes to it
pub loop-value-preserved : goal.loop-value-preserved
loop-value-preserved c =
    let set = c.args.set.now in
    let n = c.loop-value.value in
    let old = c.args.sends.now.items in
    let now = c.loop-value.sends.items in
    elim c.if-not-contains.branch [
      | then-not-contains+in_ok-to_node+in_ok-push w ↦
          let out : has_node set n ≡ false = search rules in
          let more : c.if-not-contains.sends.items ≡ now ++ to_one c.args.from n c.args.message.now = search rules in
          sent_too set c.args.from n c.args.message.now old now _ out c.loop-value.invariant more
      | else-not-contains w ↦
          let in_set : has_node set n ≡ true = search rules in
          let same : c.if-not-contains.sends.items ≡ now = search rules in
          rw same (passed_over set c.args.from n c.args.message.now old now in_set c.loop-value.invariant)
    ]
