-- Which frames wait, as ranges of their numbers, and how these are written.
use Rattle.std.specs.Prelude.{ℕ, ◌+◌, ◌==◌, Bool, true, false, List, [], ◌∷◌, ◌++◌, codes, decimal, map, if◌then◌else◌, Option, Some, None, option_to_list}
use Rattle.story.specs.declared.ranges.Range.{Range}

-- the range before a number goes on to it; where there is none, one begins
abbrev pub range_to : Option Range → ℕ → Range
range_to (Some range) number = record { first = range.first; last = number }
range_to None number = record { first = number; last = number }

-- the ranges of set flags, of which the first flag has this number, and the range before it that may go on. One ends where a flag isn't set
abbrev pub ranges_from : Option Range → ℕ → List Bool → List Range
ranges_from before number [] = option_to_list before
ranges_from before number (true ∷ flags) = ranges_from (Some (range_to before number)) (number + 1) flags
ranges_from before number (false ∷ flags) = option_to_list before ++ ranges_from None (number + 1) flags

-- of all flags, numbered from 0
abbrev pub ranges_of : List Bool → List Range
ranges_of flags = ranges_from None 0 flags

-- ---- how they are written
-- texts behind a lead, with the same between every two
abbrev pub texts_behind : List ℕ → List ℕ → List (List ℕ) → List ℕ
texts_behind lead between [] = []
texts_behind lead between (text ∷ texts) = lead ++ (text ++ texts_behind between between texts)

abbrev pub range_words : Range → List ℕ
range_words range = if range.first == range.last then decimal range.first else (decimal range.first ++ (codes " to " ++ decimal range.last))

-- `3, 7 to 12`
abbrev pub ranges_words : List Range → List ℕ
ranges_words ranges = texts_behind [] (codes ", ") (map range_words ranges)

abbrev pub range_pair : Range → List ℕ
range_pair range = codes "[" ++ (decimal range.first ++ (codes "," ++ (decimal range.last ++ codes "]")))

-- `[3,3],[7,12]`
abbrev pub range_pairs : List Range → List ℕ
range_pairs ranges = texts_behind [] (codes ",") (map range_pair ranges)
