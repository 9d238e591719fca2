use Rattle.std.proofs.lemmas.Result.{on_ok_weaker}
use Rattle.story.proofs.LineLemmas.{adds_line, lines_on}
use Rattle.story.proofs.writer.tell_waiting.Goals as goal

pub returns : goal.returns
returns c =
    on_ok_weaker c.tell_way_out.result (lines_on _ _ _ _ _
    (adds_line _ _ _ _ _ c.in_ok-line.ensures c.as_slice.ensures.value c.in_ok-push_line.ensures)) c.tell_way_out.ensures
