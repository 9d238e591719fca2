-- What an edit at the place of an id makes of an ascending list.
use Rattle.std.proofs.Common.{◌≡◌, ℕ, suc, List, ◌∷◌, get_or, set, zero, true, refl, arith}
use Rattle.std.specs.List.{All, insert, remove}
use Rattle.std.specs.Ordering.{is_lt, is_gt}
use Rattle.std.specs.declared.cmp.Ordering.{Ordering}
use Rattle.std.specs.declared.cmp.Ordering.TheVariants.{Less, Equal, Greater}
use Rattle.std.proofs.lemmas.List.{set_split}
use Rattle.std.proofs.lemmas.List.Elements.{filter_passes}
use Rattle.std.proofs.lemmas.List.Kept.{AllPairs-cons, AllPairs-filter}
use Rattle.timeindex.specs.Ascending.{id_order, ComesBefore, IdsAscend, before, after, with_element, without, ElementIsAt, IsElementGap}
use Rattle.timeindex.specs.Entries.{Entry, IsSet, id_of, with_entry}
use Rattle.tpoint.proofs.ListLemmas.{AllBoth, all_pairs_append}
use Rattle.timeindex.proofs.PlaceLemmas.{total, turned, before-at, after-at, before-gap, after-gap}

is_lt-Less : (o : Ordering) → is_lt o ≡ true → o ≡ Less
is_lt-Less Less e = refl
is_lt-Less Equal e = absurd (cc)
is_lt-Less Greater e = absurd (cc)

is_gt-Greater : (o : Ordering) → is_gt o ≡ true → o ≡ Greater
is_gt-Greater Less e = absurd (cc)
is_gt-Greater Equal e = absurd (cc)
is_gt-Greater Greater e = refl

module _ {X : Type 0} (id_of : X → List ℕ) where
  -- ---- an edit at the place of an id
  -- an element in the place of another with its id
  pub set-at : (xs : List X) (x : X) (i : ℕ) → ElementIsAt id_of xs (id_of x) i → set xs i x ≡ with_element id_of xs x
  set-at xs x i at = rw (before-at id_of xs (id_of x) i at, after-at id_of xs (id_of x) i at) (set_split xs i x at.in_range)

  pub insert-gap : (xs : List X) (x : X) (i : ℕ) → IsElementGap id_of xs (id_of x) i → insert xs i x ≡ with_element id_of xs x
  insert-gap xs x i gap = rw (before-gap id_of xs (id_of x) i gap, after-gap id_of xs (id_of x) i gap) refl

  pub remove-at : (xs : List X) (id : List ℕ) (i : ℕ) → ElementIsAt id_of xs id i → remove xs i ≡ without id_of xs id
  remove-at xs id i at = rw (before-at id_of xs id i at, after-at id_of xs id i at) refl

  -- ---- the order is kept
  module _ (xs : List X) (id : List ℕ) where
    all_before : All (λ (x : X). id_order (id_of x) id ≡ Less) (before id_of xs id)
    all_before k d within =
        is_lt-Less _ (filter_passes (λ (x : X). is_lt (id_order (id_of x) id)) xs k d within)

    all_after : All (λ (x : X). id_order id (id_of x) ≡ Less) (after id_of xs id)
    all_after k d within =
        turned _ id Greater (is_gt-Greater _ (filter_passes (λ (x : X). is_gt (id_order (id_of x) id)) xs k d within))

    before_after : AllBoth (ComesBefore id_of) (before id_of xs id) (after id_of xs id)
    before_after i d in_before k e in_after =
        total.trans (id_of (get_or (before id_of xs id) i d)) id (id_of (get_or (after id_of xs id) k e))
        (all_before i d in_before) (all_after k e in_after)

    module _ (up : IdsAscend id_of xs) where
      before_ascending : IdsAscend id_of (before id_of xs id)
      before_ascending = AllPairs-filter (ComesBefore id_of) _ xs up

      after_ascending : IdsAscend id_of (after id_of xs id)
      after_ascending = AllPairs-filter (ComesBefore id_of) _ xs up

      pub without_ascending : IdsAscend id_of (without id_of xs id)
      without_ascending =
          all_pairs_append (ComesBefore id_of) (before id_of xs id) (after id_of xs id) before_ascending after_ascending before_after

  pub with_element_ascending : (xs : List X) (x : X) → IdsAscend id_of xs → IdsAscend id_of (with_element id_of xs x)
  with_element_ascending xs x up =
      all_pairs_append (ComesBefore id_of) (before id_of xs (id_of x)) (x ∷ after id_of xs (id_of x))
      (before_ascending xs (id_of x) up)
      (AllPairs-cons (ComesBefore id_of) x _ (all_after xs (id_of x)) (after_ascending xs (id_of x) up)) both
    where
      both : AllBoth (ComesBefore id_of) (before id_of xs (id_of x)) (x ∷ after id_of xs (id_of x))
      both i d in_before zero e in_after = all_before xs (id_of x) i d in_before
      both i d in_before (suc k) e in_after = before_after xs (id_of x) i d in_before k e (omega arith)

-- a set with an entry is a set
pub with_entry_set : (es : List Entry) (e : Entry) → IsSet es → IsSet (with_entry es e)
with_entry_set es e set = record { ascending = with_element_ascending id_of es e set.ascending }
