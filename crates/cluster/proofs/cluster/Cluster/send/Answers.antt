use Rattle.std.proofs.Common.{◌≡◌, ◌∙◌, refl, ap, subst}
use Rattle.std.proofs.Math.ListN.{get_or}
use Rattle.world.specs.Seen.{world_of}
use Rattle.cluster.specs.ClusterViews.{world_in}
use Rattle.cluster.proofs.Clustering.{gives_one}
use Rattle.cluster.proofs.cluster.Cluster.send.Goals as goal

-- the transport refused it
pub returns-then-is_err : goal.returns-then-is_err
returns-then-is_err g c =
    let frames = c.frames.ensures ∙ ap (λ w. (world_of w).frames) c.world.ensures in
    record {
      same = refl;
      no_strangers = refl;
      sends = gives_one g.T.Transport (world_in c.args.self.now).frames c.args.index c.index-frames-index.result c.sender-from.result
          c.receiver-to.result c.as_slice.result.now c.args.self.now.transport c.send-sent.new.self c.requires
          (subst (λ fs. c.index-frames-index.result ≡ get_or fs c.args.index c.index-frames-index.result) frames c.index-frames-index.is)
          c.sender-from.ensures c.receiver-to.ensures.receiver (c.as_slice.ensures.value ∙ c.spell_into.ensures.spelled.spelled)
          c.send-sent.ensures.tape c.send-sent.ensures.told;
    }

-- or took it
pub returns-else-is_err : goal.returns-else-is_err
returns-else-is_err g c =
    let frames = c.frames.ensures ∙ ap (λ w. (world_of w).frames) c.world.ensures in
    record {
      same = refl;
      no_strangers = refl;
      sends = gives_one g.T.Transport (world_in c.args.self.now).frames c.args.index c.index-frames-index.result c.sender-from.result
          c.receiver-to.result c.as_slice.result.now c.args.self.now.transport c.send-sent.new.self c.requires
          (subst (λ fs. c.index-frames-index.result ≡ get_or fs c.args.index c.index-frames-index.result) frames c.index-frames-index.is)
          c.sender-from.ensures c.receiver-to.ensures.receiver (c.as_slice.ensures.value ∙ c.spell_into.ensures.spelled.spelled)
          c.send-sent.ensures.tape c.send-sent.ensures.told;
    }
