use Rattle.std.proofs.Common.{◌≡◌, ◌-◌, [], length, ℕ}
use Rattle.serving.specs.Moves.{Moves, Telling}
use Rattle.life.specs.Seen.{life_of}
use Rattle.life.specs.Telling.{nothing}
use Rattle.serving.specs.Seen.{process_of, server_of}
use Rattle.serving.specs.Serving.{Serves}
use Rattle.serving.proofs.server.Server.turn_away.Given as goal

abbrev pub invariant-claims : goal.invariant-claims
invariant-claims g l =
    Serves g.S.Stable (server_of l.initial.self) [] [] (server_of l.self)
    × (l.self.life ≡ l.initial.self.life)
    × (l.self.waiting.questions ≡ l.initial.self.waiting.questions)
    × (length l.self.waiting.claims ≡ length l.initial.self.waiting.claims - l.counter)
    × ((now : ℕ) → (life_of l.initial.self.life).held ≡ nothing → Moves g.S.Stable now Telling (process_of l.initial.self) [] [] (process_of l.self))
