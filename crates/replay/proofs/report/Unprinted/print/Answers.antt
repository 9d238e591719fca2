use Rattle.std.proofs.Common.{refl}
use Rattle.std.proofs.lemmas.Result.{on_ok_weaker}
use Rattle.replay.proofs.Parts.{adds_more, adds_same}
use Rattle.replay.proofs.report.Unprinted.print.Goals as goal

-- what was learnt, and the replies behind it
pub returns-in_ok-print_learnt-in-Done-clause-added : goal.returns-in_ok-print_learnt-in-Done-clause-added
returns-in_ok-print_learnt-in-Done-clause-added g c =
    on_ok_weaker c.print_replies.result (λ last. adds_same g.K.Sink.takes _ _ _ _ _ _
    (adds_more g.K.Sink.takes _ _ _ _ _ _ _ _ c.in_ok-print_learnt-in-Done.ensures.added last)
    (rw (c.in-Done.is, ← c.self.view_is, c.take_first.ensures.taken, c.take_first-in-Done.ensures.taken) refl))
    c.print_replies.ensures.added

-- the text that was restored, and the replies behind it
pub returns-in_ok-print_restore-in-Restored-clause-added : goal.returns-in_ok-print_restore-in-Restored-clause-added
returns-in_ok-print_restore-in-Restored-clause-added g c =
    on_ok_weaker c.print_replies-in-Restored.result (λ last. adds_same g.K.Sink.takes _ _ _ _ _ _
    (adds_more g.K.Sink.takes _ _ _ _ _ _ _ _ c.in_ok-print_restore-in-Restored.ensures.added last)
    (rw (c.in-Restored.is, ← c.self.view_is, c.take_first-in-Restored.ensures.taken) refl))
    c.print_replies-in-Restored.ensures.added
