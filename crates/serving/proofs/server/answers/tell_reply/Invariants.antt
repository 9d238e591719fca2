use Rattle.std.proofs.Common.{◌∷◌, [], take}
use Rattle.serving.specs.Outgoing.{IsReplyIn}
use Rattle.serving.specs.Owing.{reply_told}
use Rattle.serving.specs.Serving.{PassesOnly}
use Rattle.serving.specs.Tapes.{HasPassed}
use Rattle.serving.proofs.server.answers.tell_reply.Given as goal

abbrev pub invariant-claims : goal.invariant-claims
invariant-claims g l =
    PassesOnly g.D.Desk.tape g.D.Desk.Tells (IsReplyIn (l.replied ∷ []) l.claims) l.initial.desk l.desk
    × HasPassed g.D.Desk.tape g.D.Desk.Tells l.initial.desk (reply_told l.replied (take l.claim-index l.claims)) l.desk
