use Rattle.std.proofs.Common.{arith}
use Rattle.std.proofs.lemmas.Grind.{common_steps}
use Rattle.std.proofs.lemmas.Result.{on_ok_weaker}
use Rattle.replay.proofs.Parts.{so_far_all, so_far_more, so_far_none, takes_all}
use Rattle.replay.proofs.report.print_run.Goals as goal

pub loop-outcome-init : goal.loop-outcome-init
loop-outcome-init g c = so_far_none g.K.Sink.takes _ _ _

pub loop-outcome-preserved : goal.loop-outcome-preserved
loop-outcome-preserved g c =
    so_far_more g.K.Sink.takes _ _ _ _ _ _ _ _ _ _ c.loop-outcome.invariant c.in_ok-print.ensures.added (grind (arith, common_steps))

-- what waits in the end is handed on
pub returns-clause-handed : goal.returns-clause-handed
returns-clause-handed g c =
    on_ok_weaker c.hand_on.result
    (takes_all g.K.Sink.takes _ _ _ _ _ _ (so_far_all g.K.Sink.takes _ _ _ _ _ _ c.loop-outcome.invariant (grind (arith, common_steps))))
    c.hand_on.ensures.handed
