use Rattle.std.proofs.Common.{◌≡◌, rules, vec_len, true}
use Rattle.node.specs.Seen.{state_of}
use Rattle.world_model.proofs.OneNode.NodeComes.{none_is_not_some}
use Rattle.world.proofs.WorldLemmas.{lent_at}
use Rattle.world.proofs.inner.Inner.deliver_to.Goals as goal

pub returns-then-not-is_up : goal.returns-then-not-is_up
returns-then-not-is_up g c =
    let named : c.from.result ≡ c.args.envelope.now.to = search rules in
    record {
      receiver = state_of c.index-at.result.now;
      here = lent_at c.args.self.now.nodes.items (vec_len c.args.self.now.nodes) c.args.envelope.now.to c.from.result
          c.index-at.result.now (search rules) named c.requires.between.to c.index-at.ensures;
      lost = λ _. search rules;
      taken = λ up. absurd (let h : c.is_up.result ≡ true = c.is_up.ensures.1 up in search (rules, h));
    }

pub returns : goal.returns
returns g c =
    let named : c.from.result ≡ c.args.envelope.now.to = search rules in
    record {
      receiver = state_of c.index-at.result.now;
      here = lent_at c.args.self.now.nodes.items (vec_len c.args.self.now.nodes) c.args.envelope.now.to c.from.result
          c.index-at.result.now (search rules) named c.requires.between.to c.index-at.ensures;
      lost = λ down. absurd (none_is_not_some _ down (c.is_up.ensures.0 (search rules)));
      taken = λ _. c.deliver_up.ensures;
    }
