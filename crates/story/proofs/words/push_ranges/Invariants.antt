use Rattle.std.proofs.Common.{◌≡◌, ◌++◌, codes, drop, map}
use Rattle.story.specs.Ranges.{range_words, ranges_words, texts_behind}
use Rattle.story.proofs.words.push_ranges.Given as goal

-- the text so far, and behind it that of the ranges that are left
abbrev pub invariant-loop-range : goal.invariant-loop-range
invariant-loop-range l =
    l.text.items ++ texts_behind l.lead (codes ", ") (map range_words (drop l.range-index l.ranges)) ≡ l.initial.text.items ++ ranges_words l.ranges
