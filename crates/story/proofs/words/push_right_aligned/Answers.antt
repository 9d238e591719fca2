use Rattle.std.proofs.lemmas.Result.{on_ok_weaker}
use Rattle.story.proofs.LineLemmas.{aligned_written}
use Rattle.story.proofs.words.push_right_aligned.Goals as goal

pub returns : goal.returns
returns c = on_ok_weaker c.write.result (aligned_written _ _ _) (rw c.laid_out.ensures at c.write.ensures.bytes)
