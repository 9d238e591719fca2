-- Ranges of frames that wait, one flag or one text further.
use Rattle.std.proofs.Common.{◌≡◌, ℕ, ◌+◌, ◌<◌, ◌≤◌, suc, Bool, true, false, List, ◌∷◌, ◌++◌, length, map, append-nil, append_assoc, add-one, get_or, drop, Option, Some, None, option_to_list, sym, ap, ◌∙◌}
use Rattle.std.proofs.Math.Seq.{drop-cons}
use Rattle.std.proofs.lemmas.List.{drop_all}
use Rattle.story.specs.Ranges.{range_to, ranges_from, texts_behind}
use Rattle.story.specs.declared.ranges.Range.{Range}
use Rattle.story.proofs.LineLemmas.{two_parts}

-- what is left of a list begins with the next element
next_left : {A : Type 0} (xs : List A) (i : ℕ) (d x : A) → i < length xs → get_or xs i d ≡ x → drop i xs ≡ x ∷ drop (i + 1) xs
next_left {A} xs i d x below read = rw (add-one i) (drop-cons xs i d below ∙ ap (λ (y : A). y ∷ drop (suc i) xs) read)

-- ---- flags
-- a frame waits: a range goes on to it
pub flag_set : (flags : List Bool) (i : ℕ) (d : Bool) (before after : Option Range) (now all : List Range) → i < length flags
    → get_or flags i d ≡ true → after ≡ Some (range_to before i) → now ++ ranges_from before i (drop i flags) ≡ all
    → now ++ ranges_from after (i + 1) (drop (i + 1) flags) ≡ all
flag_set flags i d before after now all below set is told =
    ap (λ (o : Option Range). now ++ ranges_from o (i + 1) (drop (i + 1) flags)) is
    ∙ sym (ap (λ (fs : List Bool). now ++ ranges_from before i fs) (next_left flags i d _ below set)) ∙ told

-- it doesn't: the range before it, if there is one, has ended
pub flag_clear : (flags : List Bool) (i : ℕ) (d : Bool) (before : Option Range) (now new all : List Range) → i < length flags
    → get_or flags i d ≡ false → new ≡ now ++ option_to_list before → now ++ ranges_from before i (drop i flags) ≡ all
    → new ++ ranges_from None (i + 1) (drop (i + 1) flags) ≡ all
flag_clear flags i d before now new all below set is told =
    let rest : List Range = ranges_from None (i + 1) (drop (i + 1) flags) in
    ap (λ (rs : List Range). rs ++ rest) is ∙ append_assoc now (option_to_list before) rest
    ∙ sym (ap (λ (fs : List Bool). now ++ ranges_from before i fs) (next_left flags i d _ below set)) ∙ told

-- no flag is left
pub flags_done : (flags : List Bool) (i : ℕ) (before : Option Range) (now new all : List Range) → length flags ≤ i
    → new ≡ now ++ option_to_list before → now ++ ranges_from before i (drop i flags) ≡ all → new ≡ all
flags_done flags i before now new all behind is told =
    is ∙ sym (ap (λ (fs : List Bool). now ++ ranges_from before i fs) (drop_all i flags behind)) ∙ told

-- ---- texts
module _ (f : Range → List ℕ) (between : List ℕ) (ranges : List Range) where
  -- one more is written
  pub one_behind : (lead : List ℕ) (i : ℕ) (x : Range) (now mid new all : List ℕ) → i < length ranges → x ≡ get_or ranges i x
      → mid ≡ now ++ lead → new ≡ mid ++ f x → now ++ texts_behind lead between (map f (drop i ranges)) ≡ all
      → new ++ texts_behind between between (map f (drop (i + 1) ranges)) ≡ all
  one_behind lead i x now mid new all below read led is told =
      let rest : List ℕ = texts_behind between between (map f (drop (i + 1) ranges)) in
      ap (λ (t : List ℕ). t ++ rest) (two_parts lead (f x) now mid new led is) ∙ append_assoc now (lead ++ f x) rest
      ∙ ap (λ (t : List ℕ). now ++ t) (append_assoc lead (f x) rest)
      ∙ sym (ap (λ (rs : List Range). now ++ texts_behind lead between (map f rs)) (next_left ranges i x x below (sym read))) ∙ told

  -- all are
  pub all_behind : (lead : List ℕ) (i : ℕ) (now all : List ℕ) → length ranges ≤ i
      → now ++ texts_behind lead between (map f (drop i ranges)) ≡ all → now ≡ all
  all_behind lead i now all behind told =
      sym (append-nil now) ∙ sym (ap (λ (rs : List Range). now ++ texts_behind lead between (map f rs)) (drop_all i ranges behind)) ∙ told
