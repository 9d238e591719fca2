use Rattle.std.proofs.Common.{◌<◌, ◌∷◌, [], length, slice_get, IfSome, rules, arith, subst, ◌∙◌}
use Rattle.world.specs.Seen.{world_of}
use Rattle.cluster.specs.Clusters.{HasPassed, sending}
use Rattle.cluster.proofs.Clustering.{sends_one, sends_all}
use Rattle.cluster.proofs.cluster.Cluster.send_from.Goals as goal

-- one frame more is sent
pub loop-index-preserved : goal.loop-index-preserved
loop-index-preserved g c =
    let within : c.loop-index.index < length (world_of c.args.self.now.indexed.world).frames = search (rules, arith) in (
      c.send.ensures.same ∙ c.loop-index.invariant.0,
      c.send.ensures.no_strangers ∙ c.loop-index.invariant.1,
      sends_one g.T.Transport (world_of c.args.self.now.indexed.world).frames c.args.first c.args.self.now.transport c.loop-index.index
          c.loop-index.self.transport c.send.new.self.transport within c.loop-index.invariant.2
          (subst (λ w. IfSome (slice_get (world_of w.world).frames c.loop-index.index)
          (λ e. HasPassed g.T.Transport c.loop-index.self.transport (sending e ∷ []) c.send.new.self.transport))
          c.loop-index.invariant.0 c.send.ensures.sends),
    )

-- all are
pub returns-clause-sends : goal.returns-clause-sends
returns-clause-sends g c =
    sends_all g.T.Transport (world_of c.args.self.now.indexed.world).frames c.args.first c.args.self.now.transport c.loop-index.index
    c.loop-index.self.transport (search (rules, arith)) c.loop-index.invariant.2
