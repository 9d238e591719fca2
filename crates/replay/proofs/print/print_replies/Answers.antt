use Rattle.std.proofs.Common.{arith}
use Rattle.std.proofs.lemmas.Grind.{common_steps}
use Rattle.replay.proofs.Parts.{so_far_all, so_far_more, so_far_none}
use Rattle.replay.proofs.print.print_replies.Goals as goal

pub loop-replied-init : goal.loop-replied-init
loop-replied-init g c = so_far_none g.K.Sink.takes _ _ _

pub loop-replied-preserved : goal.loop-replied-preserved
loop-replied-preserved g c =
    so_far_more g.K.Sink.takes _ _ _ _ _ _ _ _ _ _ c.loop-replied.invariant c.in_ok-print_reply.ensures.added (grind (arith, common_steps))

pub returns-clause-added : goal.returns-clause-added
returns-clause-added g c = so_far_all g.K.Sink.takes _ _ _ _ _ _ c.loop-replied.invariant (grind (arith, common_steps))
