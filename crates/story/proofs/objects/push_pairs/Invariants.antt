use Rattle.std.proofs.Common.{◌≡◌, ◌++◌, codes, drop, map}
use Rattle.story.specs.Ranges.{range_pair, range_pairs, texts_behind}
use Rattle.story.proofs.objects.push_pairs.Given as goal

-- the text so far, and behind it that of the ranges that are left
abbrev pub invariant-loop-range : goal.invariant-loop-range
invariant-loop-range l =
    l.text.items ++ texts_behind l.lead (codes ",") (map range_pair (drop l.range-index l.ranges)) ≡ l.initial.text.items ++ range_pairs l.ranges
