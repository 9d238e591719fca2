use Rattle.std.proofs.Common.{◌≡◌, ◌≤◌, []}
use Rattle.life.specs.Seen.{life_of}
use Rattle.serving.specs.Moves.{Moves, Taking}
use Rattle.serving.specs.Outgoing.{IsArrival}
use Rattle.serving.specs.Seen.{process_of, server_of}
use Rattle.serving.specs.Serving.{Passes, PassesOnly, ServesNodes}
use Rattle.serving.specs.Tapes.{polled}
use Rattle.serving.specs.declared.server.TheConstants.{MOST_IN_A_TURN}
use Rattle.serving.proofs.Taking.{SoMany}
use Rattle.serving.proofs.server.Server.take_frames.Given as goal

abbrev pub invariant-frames : goal.invariant-frames
invariant-frames g l =
    ServesNodes g.S.Stable g.N.Network.tape g.N.Network.Tells (server_of l.initial.self) l.initial.network (server_of l.self) l.network
    × PassesOnly g.N.Network.tape g.N.Network.Tells IsArrival l.initial.network l.network
    × (l.counter ≤ MOST_IN_A_TURN)
    × Passes g.N.Network.tape g.N.Network.Tells (SoMany g.N.Network.tape g.N.Network.Tells polled
    (λ came. Moves g.S.Stable l.now Taking (process_of l.initial.self) came [] (process_of l.self)) l.counter) l.initial.network l.network
    × ((life_of l.initial.self.life).own ≡ [] → (life_of l.self.life).own ≡ [])
