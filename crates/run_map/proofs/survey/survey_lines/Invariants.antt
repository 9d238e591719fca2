use Rattle.std.specs.Vec.Iter.{into_iter_items, into_iter_len}
use Rattle.stable.specs.Memory.{in_memory}
use Rattle.stable.specs.Storages.{scripted}
use Rattle.world.specs.Seen.{world_of}
use Rattle.replay.specs.Runs.{ActionIsDone}
use Rattle.replay.proofs.LineByLine.{DoneSoFar}
use Rattle.run_map.proofs.survey.survey_lines.Given as goal

-- the lines that were taken are done, and the others are left
abbrev pub invariant-loop-line : goal.invariant-loop-line
invariant-loop-line g l =
    DoneSoFar (ActionIsDone (scripted in_memory)) (into_iter_items l.initial.line-iterator) l.yielded
    (into_iter_items l.line-iterator) (into_iter_len l.line-iterator) (world_of l.fn.world) (world_of l.world)
