use Rattle.std.proofs.lemmas.Result.{on_ok_weaker}
use Rattle.story.proofs.LineLemmas.{adds_line}
use Rattle.story.proofs.writer.tell_way_out.Goals as goal

pub returns : goal.returns
returns c =
    on_ok_weaker c.push_line.result (adds_line _ _ _ _ _ c.in_ok-line.ensures c.as_slice.ensures.value) c.push_line.ensures
