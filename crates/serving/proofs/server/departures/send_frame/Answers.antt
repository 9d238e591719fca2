use Rattle.std.proofs.Common.{◌∙◌, ℕ, List, [], ◌∷◌, ◌++◌, ap, subst, sym}
use Rattle.std.proofs.lemmas.List.Elements.{Contains-push}
use Rattle.wire.specs.FrameSpelling.{IsFrame}
use Rattle.serving.specs.Outgoing.{AreFramesOf, IsFrameOf}
use Rattle.serving.specs.Tapes.{Carried, Sent, sent_in}
use Rattle.serving.proofs.Passing.{only_none, only_none_by, only_one_as}
use Rattle.serving.proofs.Sending.{all_one_by, one_frame}
use Rattle.serving.proofs.Breaking.{on_err}
use Rattle.serving.proofs.Passing.{passes_as, passes_none}
use Rattle.serving.proofs.server.departures.send_frame.Goals as goal

pub returns-in_err-bytes-clause-only : goal.returns-in_err-bytes-clause-only
returns-in_err-bytes-clause-only g c =
    only_none g.N.Network.tape g.N.Network.Tells (IsFrameOf (c.args.frame.now ∷ [])) c.args.network.now

pub returns-in_err-send-clause-only : goal.returns-in_err-send-clause-only
returns-in_err-send-clause-only g c =
    only_none_by g.N.Network.tape g.N.Network.Tells (IsFrameOf (c.args.frame.now ∷ [])) c.args.network.now c.send.new.self
    (sent_in c.receiver.result c.as_slice.result.now c.send.result) (ap (sent_in c.receiver.result c.as_slice.result.now) c.in_err-send.was)
    c.send.ensures.tape c.send.ensures.told

pub returns-clause-only : goal.returns-clause-only
returns-clause-only g c =
    only_one_as g.N.Network.tape g.N.Network.Tells (IsFrameOf (c.args.frame.now ∷ [])) c.args.network.now c.send.new.self
    (sent_in c.receiver.result c.as_slice.result.now c.send.result) (Sent c.receiver.result c.as_slice.result.now)
    (ap (sent_in c.receiver.result c.as_slice.result.now) c.in_ok-send.was) c.send.ensures.tape
    c.send.ensures.told (record {
      frame = c.args.frame.now;
      listed = Contains-push [] c.args.frame.now;
      receiver = sym c.receiver.ensures.receiver;
      spelled = subst (λ (b : List ℕ). IsFrame 7 b c.args.frame.now) (sym c.as_slice.ensures.value) c.in_ok-bytes.ensures;
    })

pub returns-clause-all : goal.returns-clause-all
returns-clause-all g c =
    all_one_by g.N.Network.tape g.N.Network.Tells (AreFramesOf (c.args.frame.now ∷ [])) c.args.network.now c.send.new.self
    (Sent c.receiver.result c.as_slice.result.now)
    (λ tells. c.send.ensures.tape tells ∙ ap (λ (xs : List Carried). g.N.Network.tape c.args.network.now ++ xs)
    (ap (sent_in c.receiver.result c.as_slice.result.now) c.in_ok-send.was)) c.send.ensures.told
    (one_frame c.args.frame.now (Sent c.receiver.result c.as_slice.result.now) (record {
      frame = c.args.frame.now;
      listed = Contains-push [] c.args.frame.now;
      receiver = sym c.receiver.ensures.receiver;
      spelled = subst (λ (b : List ℕ). IsFrame 7 b c.args.frame.now) (sym c.as_slice.ensures.value) c.in_ok-bytes.ensures;
    }))

pub returns-in_err-bytes-clause-nothing : goal.returns-in_err-bytes-clause-nothing
returns-in_err-bytes-clause-nothing g c = on_err _ (passes_none g.N.Network.tape g.N.Network.Tells c.args.network.now)

pub returns-in_err-send-clause-nothing : goal.returns-in_err-send-clause-nothing
returns-in_err-send-clause-nothing g c =
    on_err _ (passes_as g.N.Network.tape g.N.Network.Tells c.args.network.now c.send.new.self (sent_in c.receiver.result c.as_slice.result.now c.send.result) []
    c.send.ensures.tape c.send.ensures.told (ap (sent_in c.receiver.result c.as_slice.result.now) c.in_err-send.was))
