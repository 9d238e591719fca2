use Rattle.std.proofs.Common.{rules, vec_len}
use Rattle.node.specs.Seen.{state_of}
use Rattle.world.specs.Inner.{inner_of}
use Rattle.world_model.proofs.Progress.RoundBeginnings.{slot_stands}
use Rattle.world.proofs.WorldLemmas.{lent_at}
use Rattle.world.proofs.inner.Inner.slot_of.Goals as goal

pub returns : goal.returns
returns g c =
    slot_stands (inner_of c.args.self.now) c.args.node (state_of c.index-at.result.now) c.new.result c.position.result
    (lent_at c.args.self.now.nodes.items (vec_len c.args.self.now.nodes) c.args.node c.from.result c.index-at.result.now
    (search rules) (search rules) c.requires.there c.index-at.ensures) c.requires.up c.position.ensures.value
    c.new.ensures.valid c.new.ensures.value
