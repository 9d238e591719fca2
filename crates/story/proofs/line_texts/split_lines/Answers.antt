use Rattle.story.proofs.LineLemmas.{none_split}
use Rattle.story.proofs.line_texts.split_lines.Goals as goal

pub loop-line-init : goal.loop-line-init
loop-line-init c = none_split c.args.bytes.now _ _ c.new-texts.ensures.items c.of-lines.ensures
