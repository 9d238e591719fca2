use Rattle.std.proofs.Common.{◌≤◌, ℕ, []}
use Rattle.serving.specs.Moves.{Moves, Taking}
use Rattle.serving.specs.Seen.{process_of, server_of}
use Rattle.serving.specs.Serving.{Passes, ServesClients}
use Rattle.serving.specs.Tapes.{read}
use Rattle.serving.specs.declared.server.TheConstants.{MOST_IN_A_TURN}
use Rattle.serving.proofs.Taking.{SoMany}
use Rattle.serving.proofs.server.Server.take_lines.Given as goal

abbrev pub invariant-lines : goal.invariant-lines
invariant-lines g l =
    ServesClients g.S.Stable g.D.Desk.tape g.D.Desk.Tells (server_of l.initial.self) l.initial.desk (server_of l.self) l.desk
    × (l.counter ≤ MOST_IN_A_TURN)
    × ((now : ℕ) → Passes g.D.Desk.tape g.D.Desk.Tells (SoMany g.D.Desk.tape g.D.Desk.Tells read
    (λ said. Moves g.S.Stable now Taking (process_of l.initial.self) [] said (process_of l.self)) l.counter) l.initial.desk l.desk)
