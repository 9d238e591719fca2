use Rattle.std.proofs.Common.{◌≡◌, take}
use Rattle.serving.specs.Seen.{server_of}
use Rattle.serving.specs.Outgoing.{AreFramesOf, IsFrameOf}
use Rattle.serving.specs.Serving.{Passes, PassesOnly}
use Rattle.serving.specs.Timings.{all_own_seen}
use Rattle.serving.proofs.server.Server.send_frames.Given as goal

abbrev pub invariant-frames : goal.invariant-frames
invariant-frames g l =
    (server_of l.self ≡ server_of l.initial.self)
    × PassesOnly g.N.Network.tape g.N.Network.Tells (IsFrameOf l.frames) l.initial.network l.network
    × Passes g.N.Network.tape g.N.Network.Tells (AreFramesOf (take l.frame-index l.frames)) l.initial.network l.network
    × (l.self.timing ≡ all_own_seen (take l.frame-index l.frames) l.now l.initial.self.timing)
    × (l.self.own ≡ l.initial.self.own)
    × (l.self.nodes ≡ l.initial.self.nodes)
