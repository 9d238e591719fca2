use Rattle.story.specs.Happenings.{answer_given}
use Rattle.story.specs.Wordings.{words_of}
use Rattle.story.proofs.LineLemmas.{in_parts}
use Rattle.story.proofs.words.push_answered.Goals as goal

pub returns : goal.returns
returns c =
    in_parts c.push_bytes.result (words_of (answer_given c.args.entry.now)) _ _ _ _ _ c.in_ok-write.ensures.bytes c.push_bytes.ensures
    (rw (c.value-node.ensures.value, c.as_bytes.ensures))
