use Rattle.std.proofs.Common.{◌≡◌, ◌++◌}
use Rattle.std.specs.Vec.Iter.{into_iter_items}
use Rattle.mfpxd.proofs.words.after_name.Given as goal

-- the words that were taken, and those that are left, are all that came behind the name
abbrev pub invariant-loop-word : goal.invariant-loop-word
invariant-loop-word l = l.words.items ++ into_iter_items l.word-iterator ≡ into_iter_items l.initial.word-iterator
