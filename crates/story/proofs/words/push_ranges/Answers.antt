use Rattle.std.proofs.Common.{codes, rules}
use Rattle.story.specs.Ranges.{range_words}
use Rattle.story.proofs.RangeLemmas.{all_behind}
use Rattle.story.proofs.words.push_ranges.Goals as goal

pub returns : goal.returns
returns c =
    all_behind range_words (codes ", ") c.args.ranges.now _ c.loop-range.range-index c.loop-range.text.items _ (search rules) c.loop-range.invariant
