use Rattle.std.proofs.lemmas.Result.{on_ok_weaker}
use Rattle.replay.proofs.Parts.{adds_more}
use Rattle.replay.proofs.print.print_long_answer.Goals as goal

pub returns-clause-added : goal.returns-clause-added
returns-clause-added g c =
    on_ok_weaker c.add-2.result (λ last. adds_more g.K.Sink.takes _ _ _ _ _ _ _ _
    (adds_more g.K.Sink.takes _ _ _ _ _ _ _ _ c.in_ok-print_asked.ensures.added c.in_ok-add.ensures.added) last)
    c.add-2.ensures.added
