use Rattle.std.proofs.Common.{◌≡◌, ◌++◌, ◌+◌, ℕ, subst, rules}
use Rattle.node_model.specs.Sending.{to_one, to_all}
use Rattle.node_model.proofs.SendLemmas.{sent_to_next}
use Rattle.node.proofs.sends.send_to_all.Goals as goal

-- one node more
pub loop-value-preserved : goal.loop-value-preserved
loop-value-preserved c =
    let more : c.push.new.self.items ≡ c.loop-value.sends.items ++ to_one c.args.from c.loop-value.value c.args.message.now =
    search rules in
    sent_to_next c.args.from c.loop-value.value c.args.message.now c.args.sends.now.items c.loop-value.sends.items _ c.loop-value.invariant
    more

-- the last one gets what the others got copies of
pub returns : goal.returns
returns c =
    let more : c.push-2.new.self.items ≡ c.loop-value.sends.items ++ to_one c.args.from c.loop-value.value c.args.message.now =
    search rules in
    let all : c.loop-value.value + 1 ≡ c.args.nodes = search rules in
    subst (λ (n : ℕ). c.push-2.new.self.items ≡ c.args.sends.now.items ++ to_all c.args.from n c.args.message.now) all
    (sent_to_next c.args.from c.loop-value.value c.args.message.now c.args.sends.now.items c.loop-value.sends.items _ c.loop-value.invariant
    more)
