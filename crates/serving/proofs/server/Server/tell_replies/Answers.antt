use Rattle.std.proofs.Common.{◌≡◌, ℕ, List, [], ◌∷◌, All, Contains, not, refl, sym, ap, subst, take}
use Rattle.serving.specs.Processes.{ProcessState}
use Rattle.serving.specs.Claiming.{is_of}
use Rattle.serving.specs.Seen.{process_of, server_of}
use Rattle.serving.proofs.MovesOut.{others_settled, replies_more, replies_none}
use Rattle.std.specs.List.{filter}
use Rattle.serving.specs.Outgoing.{IsReplyIn}
use Rattle.serving.specs.declared.claims.Claim.{Claim}
use Rattle.serving.proofs.Holding.{less_itself, less_settled, less_then}
use Rattle.serving.proofs.Lists.{reply_of_one}
use Rattle.serving.proofs.Passing.{only_none, only_then, only_weaker}
use Rattle.serving.specs.Owing.{reply_told}
use Rattle.serving.specs.Tapes.{HasPassed}
use Rattle.serving.proofs.Requested.{unreplied_more, unreplied_none}
use Rattle.serving.specs.Waitings.{WaitingState}
use Rattle.serving.proofs.Breaking.{breaks_replying, on_err}
use Rattle.serving.specs.Serving.{Passes}
use Rattle.serving.specs.Tapes.{Talk}
use Rattle.serving.proofs.Stopping.{so_many_replies}
use Rattle.serving.proofs.server.Server.tell_replies.Goals as goal

pub replies-init : goal.replies-init
replies-init g c = (
  refl,
  less_itself (server_of c.args.self.now),
  only_none g.D.Desk.tape g.D.Desk.Tells (IsReplyIn c.args.replies.now c.args.self.now.waiting.claims) c.args.desk.now,
  unreplied_none c.args.self.now.requests,
  replies_none g.D.Desk.tape g.D.Desk.Tells c.args.self.now.waiting.claims c.args.desk.now,
  refl,
)

pub returns-in_err-tell_reply-clause-tells : goal.returns-in_err-tell_reply-clause-tells
returns-in_err-tell_reply-clause-tells g c =
    only_then g.D.Desk.tape g.D.Desk.Tells (IsReplyIn c.args.replies.now c.args.self.now.waiting.claims) _ _ _ c.replies.invariant.2
    (only_weaker g.D.Desk.tape g.D.Desk.Tells (IsReplyIn (c.replied-item.result ∷ []) c.claims.result.now) (IsReplyIn c.args.replies.now c.args.self.now.waiting.claims)
    (reply_of_one c.args.replies.now c.replied-item.result c.claims.result.now c.args.self.now.waiting.claims (c.replies.replied-index, c.replies-test.true, sym c.replied-item.is)
    (subst (λ (xs : List Claim). All (Contains c.args.self.now.waiting.claims) xs) (sym c.claims.ensures) c.replies.invariant.1.claims)) _ _ c.tell_reply.ensures.only)

pub replies-preserved : goal.replies-preserved
replies-preserved g c = (
  c.replies.invariant.0,
  less_then (server_of c.args.self.now) (server_of c.replies.self) _ c.replies.invariant.1
      (less_settled (server_of c.replies.self) _ _ _ c.settle.ensures c.remove.ensures),
  only_then g.D.Desk.tape g.D.Desk.Tells (IsReplyIn c.args.replies.now c.args.self.now.waiting.claims) _ _ _ c.replies.invariant.2
      (only_weaker g.D.Desk.tape g.D.Desk.Tells (IsReplyIn (c.replied-item.result ∷ []) c.claims.result.now) (IsReplyIn c.args.replies.now c.args.self.now.waiting.claims)
      (reply_of_one c.args.replies.now c.replied-item.result c.claims.result.now c.args.self.now.waiting.claims (c.replies.replied-index, c.replies-test.true, sym c.replied-item.is)
      (subst (λ (xs : List Claim). All (Contains c.args.self.now.waiting.claims) xs) (sym c.claims.ensures) c.replies.invariant.1.claims)) _ _ c.tell_reply.ensures.only),
  unreplied_more c.args.replies.now c.replies.replied-index c.replied-item.result c.value-number.result c.args.self.now.requests
      c.replies.self.requests _ c.replies-test.true c.replied-item.is c.value-number.ensures.value c.replies.invariant.3 c.remove.ensures,
  replies_more g.D.Desk.tape g.D.Desk.Tells c.args.self.now.waiting.claims c.args.replies.now c.replies.replied-index c.replied-item.result
      c.replies-test.true c.replied-item.is c.replies.self.waiting.claims c.settle.new.self.claims c.value-number.result
      c.value-number.ensures.value (ap (λ (w : WaitingState). w.claims) c.settle.ensures) c.args.desk.now c.replies.desk
      c.tell_reply.new.desk c.replies.invariant.4
      (subst (λ (xs : List Claim). HasPassed g.D.Desk.tape g.D.Desk.Tells c.replies.desk (reply_told c.replied-item.result xs) c.tell_reply.new.desk)
      c.claims.ensures c.in_ok-tell_reply.ensures.each),
  others_settled (process_of c.args.self.now) (process_of c.replies.self) c.settle.new.self c.remove.new.self
      (filter (λ claim. not (is_of c.replied-item.result.client c.value-number.result claim)) c.replies.self.waiting.claims)
      c.replies.invariant.5 c.settle.ensures,
)

pub returns-in_err-tell_reply-clause-breaks : goal.returns-in_err-tell_reply-clause-breaks
returns-in_err-tell_reply-clause-breaks g c =
    on_err _ (
    let old = c.args.self.now.waiting in
    breaks_replying g.D.Desk.tape g.D.Desk.Tells old.claims c.replies.self.waiting.claims old c.replies.self.waiting
    (take c.replies.replied-index c.args.replies.now) c.replied-item.result c.args.desk.now c.replies.desk c.tell_reply.new.desk refl
    (ap (λ (p : ProcessState _). p.waiting) c.replies.invariant.5) c.replies.invariant.4
    (subst (λ (xs : List Claim). Passes g.D.Desk.tape g.D.Desk.Tells (λ (said : List Talk). (count : ℕ) × (said ≡ reply_told c.replied-item.result (take count xs)))
    c.replies.desk c.tell_reply.new.desk) c.claims.ensures c.in_err-tell_reply.ensures.breaks))

pub returns-in_err-tell_reply-clause-some : goal.returns-in_err-tell_reply-clause-some
returns-in_err-tell_reply-clause-some g c =
    on_err _ (so_many_replies g.D.Desk.tape g.D.Desk.Tells c.args.self.now.waiting.claims c.replies.self.waiting.claims c.args.replies.now c.replies.replied-index
    c.replied-item.result c.args.desk.now c.replies.desk c.tell_reply.new.desk c.replies-test.true c.replied-item.is
    c.replies.invariant.4
    (subst (λ (xs : List Claim). Passes g.D.Desk.tape g.D.Desk.Tells (λ (said : List Talk). (count : ℕ) × (said ≡ reply_told c.replied-item.result (take count xs)))
    c.replies.desk c.tell_reply.new.desk) c.claims.ensures c.in_err-tell_reply.ensures.breaks))
