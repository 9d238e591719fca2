use Rattle.std.proofs.Common.{◌≡◌, ℕ, ◌+◌, true, List, [], ◌∷◌, ◌++◌, take, ap, append-nil, subst, sym, ◌∙◌}
use Rattle.clients.specs.AnswerLines.{answer_line}
use Rattle.clients.specs.declared.answer.ClientAnswer.TheVariants as answer
use Rattle.std.proofs.Math.ListN.{get_or}
use Rattle.std.proofs.lemmas.List.Elements.{Contains-get_or}
use Rattle.serving.specs.Claiming.{is_of}
use Rattle.serving.specs.declared.claims.Claim.{Claim}
use Rattle.serving.specs.Outgoing.{IsReplyIn}
use Rattle.serving.specs.Owing.{reply_line, reply_told}
use Rattle.serving.specs.Tapes.{Talk, Told, told_in}
use Rattle.serving.proofs.KeepingEach.{reply_more}
use Rattle.serving.proofs.Lists.{settles}
use Rattle.serving.proofs.Passing.{only_none, only_none_by, only_one_as, only_then, passes_as_more}
use Rattle.serving.proofs.Passing.{passes_none}
use Rattle.serving.proofs.Breaking.{on_err, told_so_far}
use Rattle.serving.proofs.server.answers.tell_reply.Goals as goal

pub returns-in_err-line-clause-only : goal.returns-in_err-line-clause-only
returns-in_err-line-clause-only g c =
    only_none g.D.Desk.tape g.D.Desk.Tells (IsReplyIn (c.args.replied.now ∷ []) c.args.claims.now) c.args.desk.now

pub returns-in_err-tell-clause-only : goal.returns-in_err-tell-clause-only
returns-in_err-tell-clause-only g c =
    only_then g.D.Desk.tape g.D.Desk.Tells (IsReplyIn (c.args.replied.now ∷ []) c.args.claims.now) _ _ _ c.claims.invariant.0
    (only_none_by g.D.Desk.tape g.D.Desk.Tells (IsReplyIn (c.args.replied.now ∷ []) c.args.claims.now) c.claims.desk c.tell.new.self
    (told_in _ c.as_slice.result.now c.tell.result) (ap (told_in _ c.as_slice.result.now) c.in_err-tell.was) c.tell.ensures.tape
    c.tell.ensures.told)

pub claims-preserved : goal.claims-preserved
claims-preserved g c =
    let nobody : Claim = record { connection = 0; client = 0; number = 0 } in
    let claim : Claim = get_or c.args.claims.now c.claims.claim-index nobody in
    let waits : is_of c.args.replied.now.client c.args.replied.now.number claim ≡ true =
    subst (λ (n : ℕ). is_of c.args.replied.now.client n claim ≡ true) c.value-number.ensures.value (sym c.if-not-is_of.ensures) in
    let spelled : c.as_slice.result.now ≡ reply_line c.args.replied.now =
    c.as_slice.ensures.value ∙ c.in_ok-line.ensures
    ∙ ap (λ (n : ℕ). answer_line (answer.Reply c.args.replied.now.client n c.code.result c.args.replied.now.position))
    c.value-number.ensures.value
    ∙ ap (λ (k : ℕ). answer_line (answer.Reply c.args.replied.now.client c.args.replied.now.number k c.args.replied.now.position))
    c.code.ensures in
    let told = Told claim.connection c.as_slice.result.now in
    let passed : told_in claim.connection c.as_slice.result.now c.tell.result ≡ told ∷ [] =
    ap (told_in claim.connection c.as_slice.result.now) c.in_ok-tell.was in (
      only_then g.D.Desk.tape g.D.Desk.Tells (IsReplyIn (c.args.replied.now ∷ []) c.args.claims.now) _ _ _ c.claims.invariant.0
          (only_one_as g.D.Desk.tape g.D.Desk.Tells (IsReplyIn (c.args.replied.now ∷ []) c.args.claims.now) c.claims.desk c.tell.new.self
          (told_in claim.connection c.as_slice.result.now c.tell.result) told passed c.tell.ensures.tape c.tell.ensures.told
          (settles c.args.replied.now c.args.claims.now claim c.as_slice.result.now
          (Contains-get_or c.args.claims.now c.claims.claim-index nobody c.claims-test.true) waits spelled)),
      passes_as_more g.D.Desk.tape g.D.Desk.Tells _ c.claims.desk c.tell.new.self
          (reply_told c.args.replied.now (take c.claims.claim-index c.args.claims.now))
          (told_in claim.connection c.as_slice.result.now c.tell.result)
          (reply_told c.args.replied.now (take (c.claims.claim-index + 1) c.args.claims.now)) c.claims.invariant.1 c.tell.ensures.tape
          c.tell.ensures.told
          (reply_more c.args.replied.now c.args.claims.now c.claims.claim-index nobody c.claims-test.true waits
          ∙ ap (λ (b : List ℕ). reply_told c.args.replied.now (take c.claims.claim-index c.args.claims.now) ++ Told claim.connection b ∷ [])
          (sym spelled)
          ∙ ap (λ (xs : List Talk). reply_told c.args.replied.now (take c.claims.claim-index c.args.claims.now) ++ xs) (sym passed)),
    )

pub returns-in_err-line-clause-breaks : goal.returns-in_err-line-clause-breaks
returns-in_err-line-clause-breaks g c =
    on_err _ (told_so_far g.D.Desk.tape g.D.Desk.Tells c.args.replied.now c.args.claims.now 0 c.args.desk.now c.args.desk.now
    (passes_none g.D.Desk.tape g.D.Desk.Tells c.args.desk.now))

pub returns-in_err-tell-clause-breaks : goal.returns-in_err-tell-clause-breaks
returns-in_err-tell-clause-breaks g c =
    let passed = reply_told c.args.replied.now (take c.claims.claim-index c.args.claims.now) in
    on_err _ (told_so_far g.D.Desk.tape g.D.Desk.Tells c.args.replied.now c.args.claims.now c.claims.claim-index c.args.desk.now
    c.tell.new.self
    (passes_as_more g.D.Desk.tape g.D.Desk.Tells _ c.claims.desk c.tell.new.self passed
    (told_in _ c.as_slice.result.now c.tell.result) passed c.claims.invariant.1 c.tell.ensures.tape c.tell.ensures.told
    (sym (append-nil passed) ∙ ap (λ (xs : List Talk). passed ++ xs) (sym (ap (told_in _ c.as_slice.result.now) c.in_err-tell.was)))))
