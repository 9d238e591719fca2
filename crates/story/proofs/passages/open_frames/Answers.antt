use Rattle.std.proofs.Common.{◌∙◌, ◌∷◌, ◌++◌, [], ap}
use Rattle.wire.specs.declared.frames.envelope.Envelope.{Envelope}
use Rattle.story.proofs.SendingLemmas.{one_opened}
use Rattle.story.proofs.passages.open_frames.Goals as goal

pub loop-index-preserved : goal.loop-index-preserved
loop-index-preserved c =
    one_opened c.args.frames.now c.args.first c.loop-index.index c.index-frames-index.result c.loop-index.opened.items c.push.new.self.items
    c.loop-index-test.true c.index-frames-index.is c.loop-index.invariant
    (c.in_ok-push.ensures.items ∙ ap (λ (e : Envelope). c.loop-index.opened.items ++ e ∷ []) c.in_ok-open.ensures.envelope)
