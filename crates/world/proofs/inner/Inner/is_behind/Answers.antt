use Rattle.std.proofs.Common.{◌≡◌, ◌<◌, None, length, map, slice_get, vec_len, refl, rules, arith}
use Rattle.std.proofs.lemmas.Grind.{elements}
use Rattle.node.specs.Seen.{state_of}
use Rattle.world.specs.Inner.{inner_of}
use Rattle.world_model.proofs.Progress.RoundBeginnings.{behind_where, behind_nobody}
use Rattle.world.proofs.WorldLemmas.{lent_at}
use Rattle.world.proofs.inner.Inner.is_behind.Goals as goal

-- both nodes are there
pub returns-in-Some : goal.returns-in-Some
returns-in-Some g c =
    let nodes = c.args.self.now.nodes in
    let own = lent_at nodes.items (vec_len nodes) c.args.node c.from.result c.index.result.now
    (search rules) (search rules) c.requires.there c.index.ensures in
    let among : c.args.other < length c.deref.result.now = search (rules, arith) in
    let lent = lent_at c.deref.result.now (length c.deref.result.now) c.args.other c.from-2.result c.in-Some.at.now
    refl (search rules) among (search rules) in
    let other = rw c.deref.ensures.value at lent in
    let both = behind_where (inner_of c.args.self.now) c.args.node c.args.other (state_of c.index.result.now)
    (state_of c.in-Some.at.now) c.position-position.result c.floor.result own other c.requires.up c.position-position.ensures.value
    c.floor.ensures in (
      λ less. both.0 (grind (arith, less)),
      λ behind. let less = both.1 behind in grind (arith, less),
    )

-- the other one is not
pub returns-in-None : goal.returns-in-None
returns-in-None g c =
    let none : slice_get (map state_of c.args.self.now.nodes.items) c.args.other ≡ None = grind (arith, elements) in (
      λ never. absurd (search (rules, never)),
      λ behind. absurd (behind_nobody (inner_of c.args.self.now) c.args.node c.args.other none behind),
    )
