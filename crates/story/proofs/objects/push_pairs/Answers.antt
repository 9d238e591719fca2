use Rattle.std.proofs.Common.{codes, rules}
use Rattle.story.specs.Ranges.{range_pair}
use Rattle.story.proofs.RangeLemmas.{all_behind}
use Rattle.story.proofs.objects.push_pairs.Goals as goal

pub returns : goal.returns
returns c =
    all_behind range_pair (codes ",") c.args.ranges.now _ c.loop-range.range-index c.loop-range.text.items _ (search rules) c.loop-range.invariant
