use Rattle.story.specs.Happenings.{text_restored}
use Rattle.story.specs.Wordings.{words_of}
use Rattle.story.proofs.LineLemmas.{said_so}
use Rattle.story.proofs.words.push_restored.Goals as goal

pub returns : goal.returns
returns c =
    said_so c.write.result (words_of (text_restored c.args.node c.args.position)) _ _ _ c.write.ensures.bytes
    (rw (c.value-node.ensures.value, c.value-position.ensures.value))
