use Rattle.std.proofs.Common.{ℕ, []}
use Rattle.serving.specs.Moves.{Moves, Taking}
use Rattle.serving.specs.Seen.{process_of, server_of}
use Rattle.serving.specs.Serving.{Serves}
use Rattle.serving.proofs.server.Server.take_own.Given as goal

abbrev pub invariant-own : goal.invariant-own
invariant-own g l =
    Serves g.S.Stable (server_of l.initial.self) [] [] (server_of l.self)
    × ((now : ℕ) → Moves g.S.Stable now Taking (process_of l.initial.self) [] [] (process_of l.self))
