use Rattle.std.proofs.Common.{length}
use Rattle.stable.specs.contracts.scripted.ScriptedStable.TheImpl as scripted
use Rattle.world.specs.Seen.{world_of}
use Rattle.world_model.specs.Staying.{StaysSafe}
use Rattle.replay.proofs.AsRead.{IsDoneSoFar}
use Rattle.replay.proofs.world_run.do_unread.Given as goal

-- what was read spells the first lines of those that were left, and the world is where they lead
abbrev pub invariant-loop-unread : goal.invariant-loop-unread
invariant-loop-unread g l =
    IsDoneSoFar (scripted.ghosts g.row.S g.S.Stable g.S.Stable-dict) l.fn.unread l.unread (world_of l.fn.world) (world_of l.world)
    × StaysSafe (scripted.ghosts g.row.S g.S.Stable g.S.Stable-dict) g.S.Stable.IsHonest (world_of l.world)

abbrev pub decreases-loop-unread : goal.decreases-loop-unread
decreases-loop-unread g l = length l.unread.left
