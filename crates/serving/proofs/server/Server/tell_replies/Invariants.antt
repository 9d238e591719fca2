use Rattle.std.proofs.Common.{◌≡◌, take}
use Rattle.serving.specs.Seen.{process_of, server_of}
use Rattle.serving.specs.Moves.{AreRepliesTold}
use Rattle.serving.specs.Outgoing.{IsReplyIn, KeepsLess}
use Rattle.serving.specs.Requesting.{unreplied}
use Rattle.serving.specs.Serving.{Passes, PassesOnly}
use Rattle.serving.proofs.server.Server.tell_replies.Given as goal

abbrev pub invariant-replies : goal.invariant-replies
invariant-replies g l =
    (l.self.life ≡ l.initial.self.life)
    × KeepsLess (server_of l.initial.self) (server_of l.self)
    × PassesOnly g.D.Desk.tape g.D.Desk.Tells (IsReplyIn l.replies l.initial.self.waiting.claims) l.initial.desk l.desk
    × (l.self.requests ≡ unreplied (take l.replied-index l.replies) l.initial.self.requests)
    × Passes g.D.Desk.tape g.D.Desk.Tells (λ said.
    AreRepliesTold l.initial.self.waiting.claims (take l.replied-index l.replies) said l.self.waiting.claims) l.initial.desk l.desk
    × (process_of l.self ≡ record (process_of l.initial.self) {
      waiting = record l.initial.self.waiting { claims = l.self.waiting.claims };
      requests = l.self.requests;
    })
