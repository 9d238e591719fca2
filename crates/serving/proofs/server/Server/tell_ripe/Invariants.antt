use Rattle.std.proofs.Common.{◌≡◌, ◌+◌, length, ℕ, []}
use Rattle.life.specs.Telling.{nothing}
use Rattle.serving.specs.Moves.{TellsOrNot}
use Rattle.serving.specs.Seen.{process_of, server_of}
use Rattle.serving.specs.Serving.{Passes, ServesClients}
use Rattle.life.specs.Seen.{life_of}
use Rattle.serving.proofs.server.Server.tell_ripe.Given as goal

abbrev pub invariant-questions : goal.invariant-questions
invariant-questions g l =
    ServesClients g.S.Stable g.D.Desk.tape g.D.Desk.Tells (server_of l.initial.self) l.initial.desk (server_of l.self) l.desk
    × ((life_of l.self.life).node ≡ (life_of l.initial.self.life).node)
    × (length l.self.waiting.questions + l.counter ≡ length l.initial.self.waiting.questions)
    × ((now : ℕ) → (life_of l.initial.self.life).held ≡ nothing → Passes g.D.Desk.tape g.D.Desk.Tells (λ said.
    TellsOrNot g.S.Stable now (process_of l.initial.self) [] said (process_of l.self) l.has_told) l.initial.desk l.desk)
    × ((life_of l.initial.self.life).held ≡ nothing → (life_of l.self.life).held ≡ nothing)
    × ((life_of l.self.life).own ≡ (life_of l.initial.self.life).own)
