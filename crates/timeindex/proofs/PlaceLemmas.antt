-- What an ascending list is around the place of an id.
use Rattle.std.proofs.Common.{◌≡◌, ℕ, suc, ◌+◌, ◌<◌, List, length, take, drop, get_or, false, Some, None, Result, Ok, Err, IfOk, IfErr}
use Rattle.std.proofs.Common.{nat_eq, inl, inr, sym, ap, subst, ◌∙◌, arith}
use Rattle.std.specs.List.{AllWithin, HoldsAt}
use Rattle.std.specs.List.Sorted.{IsSearchInRange, IsBinarySearchResult, IsNonDecreasingBy, IsSortedBy}
use Rattle.std.specs.Ordering.{is_lt, is_gt, is_eq, ordering_index, ordering_reverse}
use Rattle.std.specs.Cmp.{IsTotalOrder}
use Rattle.std.specs.Cmp.Lexicographic.{pointwise, bytes_decides, texts_ties, nat_list_cmp_total}
use Rattle.std.specs.declared.cmp.Ordering.{Ordering}
use Rattle.std.specs.declared.cmp.Ordering.TheVariants.{Less, Equal, Greater}
use Rattle.std.proofs.lemmas.Bool.{cases_lt, cases_eq}
use Rattle.std.proofs.lemmas.Cmp.{tied_itself}
use Rattle.std.proofs.lemmas.List.{take-append-drop}
use Rattle.std.proofs.lemmas.List.Sorted.{searchable_from_sorted}
use Rattle.timeindex.specs.Ascending.{id_order, IdsAscend, element_of, before, after, without, ElementIsAt, IsElementGap}
use Rattle.tpoint.proofs.ListLemmas.{filter-take, filter-drop, find-none, find-at}

-- ---- the order of two ids
abbrev pub total : IsTotalOrder id_order
total = nat_list_cmp_total

same_when_equal : (a b : List ℕ) → id_order a b ≡ Equal → a ≡ b
same_when_equal a b e = (bytes_decides a b).0 (texts_ties a b ∙ ap is_eq e)

pub equal_when_same : (a b : List ℕ) → a ≡ b → id_order a b ≡ Equal
equal_when_same a b e = subst (λ c. id_order a c ≡ Equal) e (tied_itself total a)

pub turned : (a b : List ℕ) (o : Ordering) → id_order a b ≡ o → id_order b a ≡ ordering_reverse o
turned a b o e = total.antisymm b a ∙ ap ordering_reverse e

same_id : (a b : List ℕ) (o : Ordering) → id_order a b ≡ o → pointwise nat_eq a b ≡ is_eq o
same_id a b o e = texts_ties a b ∙ ap is_eq e

-- ---- what a binary search finds
module _ {X : Type 0} (id_of : X → List ℕ) (xs : List X) (up : IdsAscend id_of xs) (id : List ℕ) where
  -- no element's id is below that of the one before it
  in_order : IsSortedBy (λ (x y : X). is_lt (id_order (id_of x) (id_of y))) xs
  in_order k d from to =
      ap is_lt (turned (id_of (get_or xs k d)) (id_of (get_or xs (k + 1) d)) Less (up k (k + 1) d (omega arith) to))

  comparisons_rise : IsNonDecreasingBy (λ (x : X). ordering_index (id_order (id_of x) id)) xs
  comparisons_rise = searchable_from_sorted total id_of xs id in_order

  -- the element at a place has the id: those before it are lower, and those behind it higher
  pub at_place : (i : ℕ) → i < length xs → HoldsAt (λ (x : X). id_of x ≡ id) xs i → ElementIsAt id_of xs id i
  at_place i within has =
      record {
        in_range = within;
        has_id = has;
        lower = λ k d from to.
            subst (λ a. id_order (id_of (get_or xs k d)) a ≡ Less) (has d) (up k i d to within);
        higher = λ k d from to.
            subst (λ a. id_order (id_of (get_or xs k d)) a ≡ Greater) (has d)
            (turned (id_of (get_or xs i d)) (id_of (get_or xs k d)) Less (up i k d (omega arith) to));
      }

  pub searched : (r : Result ℕ ℕ) → IsSearchInRange r (length xs) →
      IsBinarySearchResult (λ (x : X). id_order (id_of x) id) xs r →
      record { found : IfOk r (ElementIsAt id_of xs id); absent : IfErr r (IsElementGap id_of xs id) }
  searched (Ok i) within equal =
      record {
        found = at_place i within (λ d. same_when_equal (id_of (get_or xs i d)) id (equal d));
        absent = tt;
      }
  searched (Err i) within parted =
      record {
        found = tt;
        absent = record {
          in_range = within;
          lower = (parted comparisons_rise).0;
          higher = (parted comparisons_rise).1;
        };
      }

-- ---- the parts of an ascending list around a place
module _ {X : Type 0} (id_of : X → List ℕ) (xs : List X) (id : List ℕ) (i : ℕ) (at : ElementIsAt id_of xs id i) where
  -- the id there is the id
  level : (d : X) → id_order (id_of (get_or xs i d)) id ≡ Equal
  level d = equal_when_same (id_of (get_or xs i d)) id (at.has_id d)

  pub before-at : before id_of xs id ≡ take i xs
  before-at =
      filter-take (λ (x : X). is_lt (id_order (id_of x) id)) xs i
      (λ k d from to. ap is_lt (at.lower k d from to)) from_there (omega (arith, at.in_range))
    where
      from_there : AllWithin (λ (x : X). is_lt (id_order (id_of x) id) ≡ false) xs i (length xs)
      from_there k d from to =
          elim (cases_eq k i) [
            | inl same ↦ subst (λ j. is_lt (id_order (id_of (get_or xs j d)) id) ≡ false) (sym same) (ap is_lt (level d))
            | inr other ↦ ap is_lt (at.higher k d (omega arith) to)
          ]

  pub after-at : after id_of xs id ≡ drop (suc i) xs
  after-at =
      filter-drop (λ (x : X). is_gt (id_order (id_of x) id)) xs (suc i) up_to_there
      (λ k d from to. ap is_gt (at.higher k d (omega arith) to)) (omega (arith, at.in_range))
    where
      up_to_there : AllWithin (λ (x : X). is_gt (id_order (id_of x) id) ≡ false) xs 0 (suc i)
      up_to_there k d from to =
          elim (cases_eq k i) [
            | inl same ↦ subst (λ j. is_gt (id_order (id_of (get_or xs j d)) id) ≡ false) (sym same) (ap is_gt (level d))
            | inr other ↦ ap is_gt (at.lower k d from (omega arith))
          ]

  pub element_of-at : (d : X) → element_of id_of xs id ≡ Some (get_or xs i d)
  element_of-at d =
      find-at (λ (x : X). pointwise nat_eq (id_of x) id) xs i d at.in_range
      (λ k e from to. same_id (id_of (get_or xs k e)) id Less (at.lower k e from to))
      (same_id (id_of (get_or xs i d)) id Equal (level d))

module _ {X : Type 0} (id_of : X → List ℕ) (xs : List X) (id : List ℕ) (i : ℕ) (gap : IsElementGap id_of xs id i) where
  pub before-gap : before id_of xs id ≡ take i xs
  before-gap =
      filter-take (λ (x : X). is_lt (id_order (id_of x) id)) xs i
      (λ k d from to. ap is_lt (gap.lower k d from to))
      (λ k d from to. ap is_lt (gap.higher k d from to)) gap.in_range

  pub after-gap : after id_of xs id ≡ drop i xs
  after-gap =
      filter-drop (λ (x : X). is_gt (id_order (id_of x) id)) xs i
      (λ k d from to. ap is_gt (gap.lower k d from to))
      (λ k d from to. ap is_gt (gap.higher k d from to)) gap.in_range

  pub element_of-gap : element_of id_of xs id ≡ None
  element_of-gap =
      find-none (λ (x : X). pointwise nat_eq (id_of x) id) xs none
    where
      none : AllWithin (λ (x : X). pointwise nat_eq (id_of x) id ≡ false) xs 0 (length xs)
      none k d from to =
          elim (cases_lt k i) [
            | inl below ↦ same_id (id_of (get_or xs k d)) id Less (gap.lower k d from below)
            | inr above ↦ same_id (id_of (get_or xs k d)) id Greater (gap.higher k d above to)
          ]

  pub without-gap : without id_of xs id ≡ xs
  without-gap = rw (before-gap, after-gap) (take-append-drop i xs)
