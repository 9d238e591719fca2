use Rattle.std.proofs.Common.{rules}
use Rattle.stable.specs.Memory.{in_memory}
use Rattle.stable.specs.Storages.{scripted}
use Rattle.replay.specs.Runs.{ActionIsDone}
use Rattle.replay.proofs.LineByLine.{one_more_taken}
use Rattle.run_map.proofs.survey.survey_lines.Goals as goal

-- one line more is done
pub loop-line-preserved : goal.loop-line-preserved
loop-line-preserved g c =
    one_more_taken (ActionIsDone (scripted in_memory)) _ _ _ _ _ _ _ _ _ _ c.loop-line.invariant c.in-Some.ensures.steps
    (search rules)
