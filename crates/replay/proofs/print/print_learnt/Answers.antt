use Rattle.std.proofs.Common.{arith}
use Rattle.std.proofs.lemmas.Grind.{common_steps}
use Rattle.replay.proofs.Parts.{so_far_all, so_far_more, so_far_none}
use Rattle.replay.proofs.print.print_learnt.Goals as goal

pub loop-learnt-init : goal.loop-learnt-init
loop-learnt-init g c = so_far_none g.K.Sink.takes _ _ _

pub loop-learnt-preserved : goal.loop-learnt-preserved
loop-learnt-preserved g c =
    so_far_more g.K.Sink.takes _ _ _ _ _ _ _ _ _ _ c.loop-learnt.invariant c.in_ok-print_entry.ensures.added (grind (arith, common_steps))

pub returns-clause-added : goal.returns-clause-added
returns-clause-added g c = so_far_all g.K.Sink.takes _ _ _ _ _ _ c.loop-learnt.invariant (grind (arith, common_steps))
