use Rattle.std.proofs.Common.{[], ◌∷◌, refl, sym, ◌∙◌}
use Rattle.serving.specs.Outgoing.{AreFramesOf, IsFrameOf}
use Rattle.serving.specs.Outgoing.AreFramesOf.{none}
use Rattle.serving.proofs.Sending.{all_none, frames_more, own_seen_more}
use Rattle.serving.proofs.Lists.{frame_of_one}
use Rattle.serving.proofs.Passing.{only_none, only_then, only_weaker}
use Rattle.serving.proofs.Breaking.{on_err}
use Rattle.serving.proofs.Stopping.{passes_stopped, so_many_frames}
use Rattle.std.proofs.Common.{take}
use Rattle.serving.proofs.server.Server.send_frames.Goals as goal

pub frames-init : goal.frames-init
frames-init g c = (
  refl,
  only_none g.N.Network.tape g.N.Network.Tells (IsFrameOf c.args.frames.now) c.args.network.now,
  all_none g.N.Network.tape g.N.Network.Tells (AreFramesOf []) c.args.network.now none,
  refl,
  refl,
  refl,
)

pub returns-in_err-note_sent-clause-same : goal.returns-in_err-note_sent-clause-same
returns-in_err-note_sent-clause-same g c =
    c.note_sent.ensures.same ∙ c.frames.invariant.0

pub returns-in_err-send_frame-clause-same : goal.returns-in_err-send_frame-clause-same
returns-in_err-send_frame-clause-same g c =
    c.note_sent.ensures.same ∙ c.frames.invariant.0

pub returns-in_err-send_frame-clause-sends : goal.returns-in_err-send_frame-clause-sends
returns-in_err-send_frame-clause-sends g c =
    only_then g.N.Network.tape g.N.Network.Tells (IsFrameOf c.args.frames.now) _ _ _ c.frames.invariant.1
    (only_weaker g.N.Network.tape g.N.Network.Tells (IsFrameOf (c.frame-item.result ∷ [])) (IsFrameOf c.args.frames.now) (frame_of_one c.args.frames.now c.frame-item.result (c.frames.frame-index, c.frames-test.true, sym c.frame-item.is)) _ _
    c.send_frame.ensures.only)

pub frames-preserved : goal.frames-preserved
frames-preserved g c = (
  c.note_sent.ensures.same ∙ c.frames.invariant.0,
  only_then g.N.Network.tape g.N.Network.Tells (IsFrameOf c.args.frames.now) _ _ _ c.frames.invariant.1
      (only_weaker g.N.Network.tape g.N.Network.Tells (IsFrameOf (c.frame-item.result ∷ [])) (IsFrameOf c.args.frames.now) (frame_of_one c.args.frames.now c.frame-item.result (c.frames.frame-index, c.frames-test.true, sym c.frame-item.is)) _ _
      c.send_frame.ensures.only),
  frames_more g.N.Network.tape g.N.Network.Tells c.args.frames.now c.frames.frame-index c.frame-item.result c.frames-test.true
      c.frame-item.is _ _ _ c.frames.invariant.2 c.in_ok-send_frame.ensures.all,
  own_seen_more c.args.frames.now c.frames.frame-index c.frame-item.result c.args.now c.args.self.now.timing c.frames.self.timing _
      c.frames-test.true c.frame-item.is c.frames.invariant.3 c.in_ok-note_sent.ensures.seen,
  c.note_sent.ensures.node.0 ∙ c.frames.invariant.4,
  c.note_sent.ensures.node.1 ∙ c.frames.invariant.5,
)

pub returns-in_err-note_sent-clause-some : goal.returns-in_err-note_sent-clause-some
returns-in_err-note_sent-clause-some g c =
    on_err _ (so_many_frames g.N.Network.tape g.N.Network.Tells c.args.frames.now c.frames.frame-index c.args.network.now c.frames.network c.frames.invariant.2)

pub returns-in_err-send_frame-clause-some : goal.returns-in_err-send_frame-clause-some
returns-in_err-send_frame-clause-some g c =
    on_err _ (so_many_frames g.N.Network.tape g.N.Network.Tells c.args.frames.now c.frames.frame-index c.args.network.now c.send_frame.new.network
    (passes_stopped g.N.Network.tape g.N.Network.Tells (AreFramesOf (take c.frames.frame-index c.args.frames.now)) _ _ _ c.frames.invariant.2
    c.in_err-send_frame.ensures.nothing))
