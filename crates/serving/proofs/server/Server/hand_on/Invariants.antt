use Rattle.std.proofs.Common.{◌≡◌, [], take}
use Rattle.serving.specs.Outgoing.{IsRightlySent}
use Rattle.serving.specs.Requesting.{NoneIsDue, as_new_all}
use Rattle.serving.specs.Moves.{Moves, Telling}
use Rattle.life.specs.Seen.{life_of}
use Rattle.life.specs.Telling.{nothing}
use Rattle.serving.specs.Resting.{IsFull}
use Rattle.serving.specs.Seen.{process_of, server_of}
use Rattle.serving.specs.Serving.{Passes, PassesOnly, ServesNodes}
use Rattle.serving.specs.Timings.{leader_in}
use Rattle.serving.proofs.server.Server.hand_on.Given as goal

abbrev pub invariant-packets : goal.invariant-packets
invariant-packets g l =
    ServesNodes g.S.Stable g.N.Network.tape g.N.Network.Tells (server_of l.initial.self) l.initial.network (server_of l.self) l.network
    × (l.self.waiting ≡ l.initial.self.waiting)
    × (l.self.life ≡ l.initial.self.life)
    × (l.self.timing ≡ l.initial.self.timing)
    × (l.self.own ≡ l.initial.self.own)
    × (l.initial.self.requests ≡ [] → l.self.requests ≡ [])
    × PassesOnly g.N.Network.tape g.N.Network.Tells (IsRightlySent (leader_in l.initial.self.timing) l.initial.self.own) l.initial.network
    l.network
    × (as_new_all l.self.requests ≡ as_new_all l.initial.self.requests)
    × NoneIsDue l.now (take l.counter l.self.requests)
    × ((life_of l.initial.self.life).held ≡ nothing → (IsFull (life_of l.initial.self.life).node → l.initial.self.requests ≡ [])
    → Passes g.N.Network.tape g.N.Network.Tells (λ sent.
    Moves g.S.Stable l.now Telling (process_of l.initial.self) sent [] (process_of l.self)) l.initial.network l.network)
