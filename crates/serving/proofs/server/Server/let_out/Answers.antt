use Rattle.std.proofs.Common.{List, ap, length, refl, ◌∙◌, subst}
use Rattle.serving.specs.declared.claims.Claim.{Claim}
use Rattle.life.specs.Seen.{life_of}
use Rattle.serving.specs.Seen.{process_of, server_of}
use Rattle.life.specs.Telling.{ToldLists}
use Rattle.serving.proofs.Answering.{over_letting_out}
use Rattle.serving.proofs.Holding.{less_itself}
use Rattle.serving.proofs.Passing.{only_none}
use Rattle.world_model.specs.declared.lists.Replied.{Replied}
use Rattle.wire.specs.declared.frames.envelope.Envelope.{Envelope}
use Rattle.serving.specs.Outgoing.{IsFrameOf}
use Rattle.serving.specs.Requesting.{unreplied}
use Rattle.serving.specs.Serving.{Passes, PassesOnly}
use Rattle.serving.specs.Waitings.{WaitingState}
use Rattle.serving.specs.Moves.{AreRepliesTold}
use Rattle.serving.specs.Processes.{ProcessState}
use Rattle.serving.specs.Timings.{all_own_seen}
use Rattle.serving.proofs.MovesOut.{moves_letting_out, process_same}
use Rattle.serving.proofs.Breaking.{Breaks, breaks_still, on_err}
use Rattle.serving.proofs.Stopping.{both_break_out}
use Rattle.serving.proofs.Stopping.{lets_out_frames, lets_out_replies}
use Rattle.serving.specs.Moves.{LetsOutSome}
use Rattle.serving.specs.Outgoing.{AreFramesOf}
use Rattle.serving.specs.Tapes.{Carried, Talk}
use Rattle.std.proofs.Common.{ℕ, take}
use Rattle.serving.proofs.server.Server.let_out.Goals as goal

pub returns-in_err-send_frames-clause-serves : goal.returns-in_err-send_frames-clause-serves
returns-in_err-send_frames-clause-serves g c =
    over_letting_out g.S.Stable g.N.Network.tape g.N.Network.Tells g.D.Desk.tape g.D.Desk.Tells (server_of c.args.self.now) (life_of c.hand_out-frames.new.self) (server_of c.send_frames.new.self) (server_of c.send_frames.new.self) c.args.network.now c.send_frames.new.network c.args.desk.now c.args.desk.now
    c.as_slice.result.now (life_of c.args.self.now.life).held.replies c.hand_out-frames.ensures.left c.send_frames.ensures.same refl (less_itself (server_of c.send_frames.new.self))
    (c.as_slice.ensures.value ∙ ap (λ (t : ToldLists). t.frames) c.hand_out-frames.ensures.told) refl
    c.send_frames.ensures.sends (only_none g.D.Desk.tape g.D.Desk.Tells _ c.args.desk.now)

pub returns-in_err-tell_replies-clause-serves : goal.returns-in_err-tell_replies-clause-serves
returns-in_err-tell_replies-clause-serves g c =
    over_letting_out g.S.Stable g.N.Network.tape g.N.Network.Tells g.D.Desk.tape g.D.Desk.Tells (server_of c.args.self.now) (life_of c.hand_out-frames.new.self) (server_of c.send_frames.new.self) (server_of c.tell_replies.new.self) c.args.network.now c.send_frames.new.network c.args.desk.now c.tell_replies.new.desk
    c.as_slice.result.now c.as_slice-2.result.now c.hand_out-frames.ensures.left c.send_frames.ensures.same (ap life_of c.tell_replies.ensures.life) c.tell_replies.ensures.keeps
    (c.as_slice.ensures.value ∙ ap (λ (t : ToldLists). t.frames) c.hand_out-frames.ensures.told) (c.as_slice-2.ensures.value ∙ ap (λ (t : ToldLists). t.replies) c.hand_out-frames.ensures.told)
    c.send_frames.ensures.sends c.tell_replies.ensures.tells

pub returns-clause-serves : goal.returns-clause-serves
returns-clause-serves g c =
    over_letting_out g.S.Stable g.N.Network.tape g.N.Network.Tells g.D.Desk.tape g.D.Desk.Tells (server_of c.args.self.now) (life_of c.hand_out-frames.new.self) (server_of c.send_frames.new.self) (server_of c.tell_replies.new.self) c.args.network.now c.send_frames.new.network c.args.desk.now c.tell_replies.new.desk
    c.as_slice.result.now c.as_slice-2.result.now c.hand_out-frames.ensures.left c.send_frames.ensures.same (ap life_of c.tell_replies.ensures.life) c.tell_replies.ensures.keeps
    (c.as_slice.ensures.value ∙ ap (λ (t : ToldLists). t.frames) c.hand_out-frames.ensures.told) (c.as_slice-2.ensures.value ∙ ap (λ (t : ToldLists). t.replies) c.hand_out-frames.ensures.told)
    c.send_frames.ensures.sends c.tell_replies.ensures.tells

pub returns-clause-node : goal.returns-clause-node
returns-clause-node g c =
    ap (λ l. (life_of l).node) c.tell_replies.ensures.life ∙ ap (λ s. s.life.node) c.send_frames.ensures.same
    ∙ ap (λ l. l.node) c.hand_out-frames.ensures.left

pub returns-clause-frames : goal.returns-clause-frames
returns-clause-frames g c =
    subst (λ (fs : List Envelope). PassesOnly g.N.Network.tape g.N.Network.Tells (IsFrameOf fs) c.args.network.now c.send_frames.new.network)
    (c.as_slice.ensures.value ∙ ap (λ (t : ToldLists). t.frames) c.hand_out-frames.ensures.told) c.send_frames.ensures.sends

pub returns-clause-requests : goal.returns-clause-requests
returns-clause-requests g c =
    c.in_ok-tell_replies.ensures.requests
    ∙ ap (λ (rs : List Replied). unreplied rs c.send_frames.new.self.requests)
    (c.as_slice-2.ensures.value ∙ ap (λ (t : ToldLists). t.replies) c.hand_out-frames.ensures.told)
    ∙ ap (unreplied (life_of c.args.self.now.life).held.replies) (ap (λ s. s.requests) c.send_frames.ensures.same)

pub returns-clause-moves : goal.returns-clause-moves
returns-clause-moves g c =
    let out = c.send_frames.new.self in
    let told = c.tell_replies.new.self in
    let others = c.tell_replies.ensures.others in
    moves_letting_out g.S.Stable c.args.now g.N.Network.tape g.N.Network.Tells g.D.Desk.tape g.D.Desk.Tells (process_of c.args.self.now)
    (process_of told) c.as_slice.result.now c.as_slice-2.result.now c.args.network.now c.send_frames.new.network c.args.desk.now
    c.tell_replies.new.desk (c.as_slice.ensures.value ∙ ap (λ (t : ToldLists). t.frames) c.hand_out-frames.ensures.told)
    (c.as_slice-2.ensures.value ∙ ap (λ (t : ToldLists). t.replies) c.hand_out-frames.ensures.told) c.in_ok-send_frames.ensures.all
    (subst (λ (w : WaitingState). Passes g.D.Desk.tape g.D.Desk.Tells (λ said.
    AreRepliesTold w.claims c.as_slice-2.result.now said told.waiting.claims) c.args.desk.now c.tell_replies.new.desk)
    (ap (λ s. s.waiting) c.send_frames.ensures.same) c.in_ok-tell_replies.ensures.replies)
    (length c.claims-waiting.result.now) (length c.claims.result.now)
    (ap (λ (cs : List Claim). length cs) c.claims-waiting.ensures) (ap (λ (cs : List Claim). length cs) c.claims.ensures)
    (process_same (process_of told) _
    (ap (λ (p : ProcessState _). p.own) others ∙ c.send_frames.ensures.node.0)
    (ap (λ (p : ProcessState _). p.nodes) others ∙ c.send_frames.ensures.node.1)
    (ap (λ (p : ProcessState _). p.life) others ∙ ap (λ s. s.life) c.send_frames.ensures.same ∙ c.hand_out-frames.ensures.left)
    (ap (λ (p : ProcessState _). p.waiting) others
    ∙ ap (λ (w : WaitingState). record w { claims = told.waiting.claims }) (ap (λ s. s.waiting) c.send_frames.ensures.same))
    (c.in_ok-tell_replies.ensures.requests ∙ ap (λ (rs : List Replied). unreplied rs out.requests)
    (c.as_slice-2.ensures.value ∙ ap (λ (t : ToldLists). t.replies) c.hand_out-frames.ensures.told)
    ∙ ap (unreplied (life_of c.args.self.now.life).held.replies) (ap (λ s. s.requests) c.send_frames.ensures.same))
    (ap (λ (p : ProcessState _). p.timing) others ∙ c.in_ok-send_frames.ensures.seen
    ∙ ap (λ (fs : List Envelope). all_own_seen fs c.args.now c.args.self.now.timing)
    (c.as_slice.ensures.value ∙ ap (λ (t : ToldLists). t.frames) c.hand_out-frames.ensures.told)))

pub returns-clause-held : goal.returns-clause-held
returns-clause-held g c =
    ap (λ l. (life_of l).held) c.tell_replies.ensures.life ∙ ap (λ s. s.life.held) c.send_frames.ensures.same
    ∙ ap (λ l. l.held) c.hand_out-frames.ensures.left

pub returns-clause-own : goal.returns-clause-own
returns-clause-own g c =
    ap (λ l. (life_of l).own) c.tell_replies.ensures.life ∙ ap (λ s. s.life.own) c.send_frames.ensures.same
    ∙ ap (λ l. l.own) c.hand_out-frames.ensures.left

pub returns-in_err-send_frames-clause-breaks : goal.returns-in_err-send_frames-clause-breaks
returns-in_err-send_frames-clause-breaks g c =
    on_err _ (
    breaks_still g.D.Desk.tape g.D.Desk.Tells c.args.self.now.waiting c.args.desk.now)

pub returns-in_err-tell_replies-clause-breaks : goal.returns-in_err-tell_replies-clause-breaks
returns-in_err-tell_replies-clause-breaks g c =
    on_err _ (
    subst (λ (w : WaitingState). Breaks g.D.Desk.tape g.D.Desk.Tells w c.args.desk.now c.tell_replies.new.desk)
    (ap (λ s. s.waiting) c.send_frames.ensures.same) c.in_err-tell_replies.ensures.breaks)

pub returns-in_err-send_frames-clause-stops : goal.returns-in_err-send_frames-clause-stops
returns-in_err-send_frames-clause-stops g c =
    on_err _ (both_break_out g.S.Stable c.args.now g.N.Network.tape g.N.Network.Tells g.D.Desk.tape g.D.Desk.Tells (process_of c.args.self.now) c.args.network.now c.send_frames.new.network
    c.args.desk.now c.args.desk.now _
    (lets_out_frames g.N.Network.tape g.N.Network.Tells g.D.Desk.tape g.D.Desk.Tells _ _ _ c.args.network.now c.send_frames.new.network c.args.desk.now
    (subst (λ (fs : List Envelope). Passes g.N.Network.tape g.N.Network.Tells (λ (sent : List Carried). (count : ℕ) × AreFramesOf (take count fs) sent)
    c.args.network.now c.send_frames.new.network) (c.as_slice.ensures.value ∙ ap (λ (t : ToldLists). t.frames) c.hand_out-frames.ensures.told) c.in_err-send_frames.ensures.some))
    (ap (λ s. s.life.node) c.send_frames.ensures.same ∙ ap (λ l. l.node) c.hand_out-frames.ensures.left))

pub returns-in_err-tell_replies-clause-stops : goal.returns-in_err-tell_replies-clause-stops
returns-in_err-tell_replies-clause-stops g c =
    on_err _ (both_break_out g.S.Stable c.args.now g.N.Network.tape g.N.Network.Tells g.D.Desk.tape g.D.Desk.Tells (process_of c.args.self.now) c.args.network.now c.send_frames.new.network
    c.args.desk.now c.tell_replies.new.desk _
    (lets_out_replies g.N.Network.tape g.N.Network.Tells g.D.Desk.tape g.D.Desk.Tells _ _ _ c.args.network.now c.send_frames.new.network c.args.desk.now c.tell_replies.new.desk
    (subst (λ (fs : List Envelope). Passes g.N.Network.tape g.N.Network.Tells (AreFramesOf fs) c.args.network.now c.send_frames.new.network) (c.as_slice.ensures.value ∙ ap (λ (t : ToldLists). t.frames) c.hand_out-frames.ensures.told)
    c.in_ok-send_frames.ensures.all)
    (subst (λ (rs : List Replied). Passes g.D.Desk.tape g.D.Desk.Tells (λ (said : List Talk). (sent : List Carried) (frames : List Envelope) → AreFramesOf frames sent
    → LetsOutSome frames rs c.args.self.now.waiting.claims sent said) c.args.desk.now c.tell_replies.new.desk) (c.as_slice-2.ensures.value ∙ ap (λ (t : ToldLists). t.replies) c.hand_out-frames.ensures.told)
    (subst (λ (w : WaitingState). Passes g.D.Desk.tape g.D.Desk.Tells (λ (said : List Talk). (sent : List Carried) (frames : List Envelope) → AreFramesOf frames sent
    → LetsOutSome frames c.as_slice-2.result.now w.claims sent said) c.args.desk.now c.tell_replies.new.desk)
    (ap (λ s. s.waiting) c.send_frames.ensures.same) c.in_err-tell_replies.ensures.some)))
    (ap (λ l. (life_of l).node) c.tell_replies.ensures.life ∙ ap (λ s. s.life.node) c.send_frames.ensures.same
    ∙ ap (λ l. l.node) c.hand_out-frames.ensures.left))
