use Rattle.std.proofs.Common.{arith}
use Rattle.std.proofs.lemmas.Grind.{common_steps}
use Rattle.replay.proofs.Parts.{so_far_all, so_far_more, so_far_none}
use Rattle.replay.proofs.print.print_answers.Goals as goal

pub loop-answered-init : goal.loop-answered-init
loop-answered-init g c = so_far_none g.K.Sink.takes _ _ _

pub loop-answered-preserved : goal.loop-answered-preserved
loop-answered-preserved g c =
    so_far_more g.K.Sink.takes _ _ _ _ _ _ _ _ _ _ c.loop-answered.invariant c.in_ok-print_answer.ensures.added (grind (arith, common_steps))

pub returns-clause-added : goal.returns-clause-added
returns-clause-added g c = so_far_all g.K.Sink.takes _ _ _ _ _ _ c.loop-answered.invariant (grind (arith, common_steps))
