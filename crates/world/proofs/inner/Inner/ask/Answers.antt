use Rattle.std.proofs.Common.{◌≡◌, rules, vec_len, Ok, Err}
use Rattle.node.specs.Seen.{state_of}
use Rattle.world.proofs.WorldLemmas.{lent_at}
use Rattle.world.proofs.inner.Inner.ask.Goals as goal

pub returns-in-Ok : goal.returns-in-Ok
returns-in-Ok g c =
    let named : c.from.result ≡ c.args.node = search rules in
    record {
      asked = state_of c.index-at.result.now;
      here = lent_at c.args.self.now.nodes.items (vec_len c.args.self.now.nodes) c.args.node c.from.result
          c.index-at.result.now (search rules) named c.requires.there c.index-at.ensures;
      result = Ok (c.in-Ok.position, c.in-Ok.text);
      answers = rw (← c.in-Ok.is) c.query.ensures.answers;
      meaning = rw (← c.in-Ok.is) c.query.ensures.meaning;
      leaves = c.answer.ensures;
    }

pub returns-in-Err : goal.returns-in-Err
returns-in-Err g c =
    let named : c.from.result ≡ c.args.node = search rules in
    record {
      asked = state_of c.index-at.result.now;
      here = lent_at c.args.self.now.nodes.items (vec_len c.args.self.now.nodes) c.args.node c.from.result
          c.index-at.result.now (search rules) named c.requires.there c.index-at.ensures;
      result = Err c.in-Err.fault;
      answers = rw (← c.in-Err.is) c.query.ensures.answers;
      meaning = rw (← c.in-Err.is) c.query.ensures.meaning;
      leaves = search rules;
    }
