use Rattle.std.proofs.Common.{rules, vec_len}
use Rattle.world.proofs.WorldLemmas.{shows_the_same}
use Rattle.world.proofs.inner.recycle_sends.Goals as goal

pub returns-in-Some : goal.returns-in-Some
returns-in-Some g c =
    shows_the_same c.args.nodes.now.items (vec_len c.args.nodes.now) c.from.result c.in-Some.at.now c.recycle.new.self
    (search rules) (search rules) (search rules) c.recycle.ensures
