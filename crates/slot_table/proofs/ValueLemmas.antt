-- Values by slot, of which the first lie in a row.
use Rattle.std.proofs.Common.{◌≡◌, ◌≢◌, ℕ, zero, suc, ◌+◌, ◌-◌, ◌<◌, ◌≤◌, ◌⊎◌, Bool, true, false, List, [], ◌∷◌, ◌++◌, length, filter, All, Contains}
use Rattle.std.proofs.Common.{Option, Some, None, slice_get, slice_index_or, slice_set, nat_lt, min, max, refl, sym, ap, subst}
use Rattle.std.proofs.Common.{◌∙◌, inl, inr, arith, Result, Ok, Err, OnOk, OnErr}
use Rattle.std.specs.BTreeMap.{BTreeMap, get, is_at, Updates, IsOrdered}
use Rattle.std.specs.BTreeMap.Range.{entries_between, range_contains, IsEntryInRange}
use Rattle.std.specs.declared.ops.Bound.TheVariants.{Included, Unbounded}
use Rattle.std.specs.Cmp.{nat_cmp_total, ranks}
use Rattle.std.specs.Ordering.{nat_cmp, is_gt, is_le, is_eq}
use Rattle.std.specs.declared.cmp.Ordering.TheVariants.{Less}
use Rattle.std.specs.Map.{keys_of, lookup}
use Rattle.std.specs.List.Sorted.{IsStrictlySortedBy}
use Rattle.std.proofs.lemmas.Bool.{cond_both}
use Rattle.std.proofs.lemmas.Bool.Decides.{nat_tests, eqb_tells, leb_tells}
use Rattle.std.proofs.lemmas.Cmp.{by_ranked}
use Rattle.std.proofs.lemmas.Grind.{common_steps}
use Rattle.std.proofs.lemmas.List.{length-append}
use Rattle.std.proofs.lemmas.List.Elements.{All-contains}
use Rattle.std.proofs.lemmas.List.Kept.{IsStrictlySortedBy-filter}
use Rattle.std.proofs.lemmas.Map.Entries.{lookup-filter-keys, lookup_at_gap}
use Rattle.synod.specs.Records.{put}
use Rattle.slot_table.specs.Places.{AreEmptyTo, RowIsApart}
use Rattle.slot_table.specs.Values.{row_from, in_row, in_log, without_below, IsEmptyFrom, IsFirstFrom, IsEmptyBetween}

-- a number is below another, or it isn't
pub tells : (a b : ℕ) → ((nat_lt a b ≡ true) × (a < b)) ⊎ ((nat_lt a b ≡ false) × (b ≤ a))
tells a b = elim (leb_tells (suc a) b) [
  | inl lt ↦ inl (lt.0, lt.1)
  | inr le ↦ inr (le.0, omega (arith, le.1))
]

pub where_refused : {T E P : Type 0} (r : Result T E) → P → OnErr r P
where_refused (Ok x) p = tt
where_refused (Err e) p = p

clash : {A : Type 0} (o : Option A) (x : A) → o ≡ None → o ≡ Some x → ⊥
clash o x none some = let bad : None ≡ Some x = sym none ∙ some in cc

-- ---- the slots of the log
module _ {V : Type 0} where
  pub at_slot : (f : ℕ → Option V) (s : ℕ) → s < 65536 → in_log f s ≡ f s
  at_slot f s lt = elim (tells s 65536) [
    | inl here ↦ rw here.0 refl
    | inr behind ↦ absurd (omega (arith, lt, behind.1))
  ]

  -- a change at a slot of the log
  pub put_in_log : (f : ℕ → Option V) (i : ℕ) (x : Option V) → i < 65536 → in_log (put f i x) ≡ put (in_log f) i x
  put_in_log f i x lt = λ k s. at s k
    where
      at : (s : ℕ) → in_log (put f i x) s ≡ put (in_log f) i x s
      at s = elim (tells s 65536) [
        | inl here ↦ rw here.0 refl
        | inr behind ↦ elim (eqb_tells s i) [
          | inl same ↦ absurd (omega (arith, lt, behind.1, same.1))
          | inr other ↦ rw (behind.0, other.0) refl
        ]
      ]

-- ---- the row
module _ {V : Type 0} where
  -- behind a row there is no place
  pub none_behind : (row : List (Option V)) (s : ℕ) → length row ≤ s → slice_get row s ≡ None
  none_behind [] s le = refl
  none_behind (p ∷ row) zero le = absurd (omega (arith, le))
  none_behind (p ∷ row) (suc s) le = none_behind row s (omega (arith, le))

  -- what lies at a place of it
  pub place_there : (row : List (Option V)) (s : ℕ) (p : Option V) → s < length row → p ≡ slice_index_or row s p → slice_get row s ≡ Some p
  place_there [] s p lt is = absurd (omega (arith, lt))
  place_there (q ∷ row) zero p lt is = ap Some (sym is)
  place_there (q ∷ row) (suc s) p lt is = place_there row s p (omega (arith, lt)) is

  -- before the end there is one
  pub there : (row : List (Option V)) (s : ℕ) → s < length row → slice_get row s ≡ None → ⊥
  there [] s lt none = absurd (omega (arith, lt))
  there (p ∷ row) zero lt none = let bad : Some p ≡ None = none in cc
  there (p ∷ row) (suc s) lt none = there row s (omega (arith, lt)) none

  -- a place that joins the row is its last
  last_of : (row : List (Option V)) (p : Option V) → slice_get (row ++ p ∷ []) (length row) ≡ Some p
  last_of [] p = refl
  last_of (q ∷ row) p = last_of row p

  -- and nothing else of it changes
  others_of : (row : List (Option V)) (p : Option V) (s : ℕ) → s ≢ length row → slice_get (row ++ p ∷ []) s ≡ slice_get row s
  others_of [] p zero apart = absurd (apart refl)
  others_of [] p (suc s) apart = refl
  others_of (q ∷ row) p zero apart = refl
  others_of (q ∷ row) p (suc s) apart = others_of row p s (λ e. apart (ap suc e))

  -- a place that is written has what was written
  pub written_of : (row : List (Option V)) (i : ℕ) (p : Option V) → i < length row → slice_get (slice_set row i p) i ≡ Some p
  written_of [] i p lt = absurd (omega (arith, lt))
  written_of (q ∷ row) zero p lt = refl
  written_of (q ∷ row) (suc i) p lt = written_of row i p (omega (arith, lt))

  -- and the other places stay
  pub unwritten_of : (row : List (Option V)) (i s : ℕ) (p : Option V) → s ≢ i → slice_get (slice_set row i p) s ≡ slice_get row s
  unwritten_of [] i s p apart = refl
  unwritten_of (q ∷ row) zero zero p apart = absurd (apart refl)
  unwritten_of (q ∷ row) zero (suc s) p apart = refl
  unwritten_of (q ∷ row) (suc i) zero p apart = refl
  unwritten_of (q ∷ row) (suc i) (suc s) p apart = unwritten_of row i s p (λ e. apart (ap suc e))

-- ---- a row that begins at a slot
module _ {V : Type 0} (first : ℕ) (row : List (Option V)) where
  -- a slot from its first on lies in its place
  pub in_its_place : (s n : ℕ) → s ≡ first + n → row_from first row s ≡ slice_get row n
  in_its_place s n is = elim (tells s first) [
    | inl low ↦ absurd (omega (arith, is, low.1))
    | inr high ↦
        let place : s - first ≡ n = omega (arith, is) in
        rw (high.0, place) refl
  ]

  -- what is read of another row that is alike but at one place
  alike : (more : List (Option V)) (i n : ℕ) → i ≡ first + n → ((k : ℕ) → k ≢ n → slice_get more k ≡ slice_get row k) → (s : ℕ) → s ≢ i
      → row_from first more s ≡ row_from first row s
  alike more i n is same s other = elim (tells s first) [
    | inl low ↦ rw low.0 refl
    | inr high ↦ rw high.0 (same (s - first) (λ e. other (let from = high.1 in omega (arith, is, e, from))))
  ]

module _ {V : Type 0} (first : ℕ) (row : List (Option V)) where
  -- a place that joins it is that of the next slot, which wasn't of it
  joined : (p : Option V) (n : ℕ) → n ≡ first + length row → row_from first (row ++ p ∷ []) n ≡ Some p
  joined p n next = in_its_place first (row ++ p ∷ []) n (length row) next ∙ last_of row p

  pub next_is_free : (n : ℕ) → n ≡ first + length row → row_from first row n ≡ None
  next_is_free n next = in_its_place first row n (length row) next ∙ none_behind row (length row) (omega arith)

  -- what stands at the next slot joins the row, and all slots read as before
  pub row_longer : (more : List (Option V)) (p : Option V) (f g : ℕ → Option V) (n : ℕ) → more ≡ row ++ p ∷ [] → n ≡ first + length row
      → p ≡ f n → ((s : ℕ) → g s ≡ put f n None s) → in_log (in_row first more g) ≡ in_log (in_row first row f)
  row_longer more p f g n is next here changed = ap in_log (λ k s. (ap (λ l. in_row first l g s) is ∙ at s) k)
    where
      at : (s : ℕ) → in_row first (row ++ p ∷ []) g s ≡ in_row first row f s
      at s = elim (eqb_tells s n) [
        | inl same ↦ rw (same.1, joined p n next, next_is_free n next) here
        | inr other ↦ rw (alike first row (row ++ p ∷ []) n (length row) next (others_of row p) s other.1, changed s, other.0) refl
      ]

  -- what is put at the next slot joins the row
  pub row_next : (more : List (Option V)) (f g : ℕ → Option V) (n : ℕ) (x : Option V) → n < 65536 → more ≡ row ++ x ∷ []
      → n ≡ first + length row → ((s : ℕ) → g s ≡ put f n None s)
      → in_log (in_row first more g) ≡ put (in_log (in_row first row f)) n x
  row_next more f g n x lt is next changed =
      ap in_log (λ k s. (ap (λ l. in_row first l g s) is ∙ at s) k) ∙ put_in_log (in_row first row f) n x lt
    where
      at : (s : ℕ) → in_row first (row ++ x ∷ []) g s ≡ put (in_row first row f) n x s
      at s = elim (eqb_tells s n) [
        | inl same ↦ rw (same.0, same.1, joined x n next) refl
        | inr other ↦ rw (alike first row (row ++ x ∷ []) n (length row) next (others_of row x) s other.1, changed s, other.0) refl
      ]

  -- a change at a slot that isn't of the row is a change there
  pub row_put : (f g : ℕ → Option V) (i : ℕ) (x : Option V) → i < 65536 → row_from first row i ≡ None → ((s : ℕ) → g s ≡ put f i x s)
      → in_log (in_row first row g) ≡ put (in_log (in_row first row f)) i x
  row_put f g i x lt none changed = ap in_log (λ k s. at s k) ∙ put_in_log (in_row first row f) i x lt
    where
      at : (s : ℕ) → in_row first row g s ≡ put (in_row first row f) i x s
      at s = elim (eqb_tells s i) [
        | inl same ↦ rw (changed s, same.0, same.1, none) refl
        | inr other ↦ rw (changed s, other.0) refl
      ]

  -- and a change of a place of the row
  pub row_set : (more : List (Option V)) (f : ℕ → Option V) (i n : ℕ) (x : Option V) → more ≡ slice_set row n x → i < 65536
      → i ≡ first + n → n < length row → in_log (in_row first more f) ≡ put (in_log (in_row first row f)) i x
  row_set more f i n x is lt place within =
      ap in_log (λ k s. (ap (λ l. in_row first l f s) is ∙ at s) k) ∙ put_in_log (in_row first row f) i x lt
    where
      here : row_from first (slice_set row n x) i ≡ Some x
      here = in_its_place first (slice_set row n x) i n place ∙ written_of row n x within

      at : (s : ℕ) → in_row first (slice_set row n x) f s ≡ put (in_row first row f) i x s
      at s = elim (eqb_tells s i) [
        | inl same ↦ rw (same.0, same.1, here) refl
        | inr other ↦ rw (other.0, alike first row (slice_set row n x) i n place (λ k apart. unwritten_of row n k x apart) s other.1) refl
      ]

  -- of a slot that isn't of the row that is read which is kept beside it
  pub other_reads : (f : ℕ → Option V) (s : ℕ) → s < 65536 → row_from first row s ≡ None → in_log (in_row first row f) s ≡ f s
  other_reads f s lt none = at_slot (in_row first row f) s lt ∙ rw none refl

  -- and of one of the row that which lies in its place
  pub row_reads : (f : ℕ → Option V) (s : ℕ) (p : Option V) → s < 65536 → row_from first row s ≡ Some p → in_log (in_row first row f) s ≡ p
  row_reads f s p lt is = at_slot (in_row first row f) s lt ∙ rw is refl

-- ---- what is kept in the tree
-- a change of a map at one slot
pub get-updated : {X : Type 0} (m n : BTreeMap ℕ X) (slot : ℕ) (w : Option X) → Updates nat_cmp m n slot w → (s : ℕ)
    → get nat_cmp n s ≡ put (get nat_cmp m) slot w s
get-updated m n slot w u s = grind (arith, common_steps, nat_tests, u.0 s)

keys_filter : {K X : Type 0} (p : K → Bool) (es : List (K × X)) → keys_of (filter (λ e. p e.0) es) ≡ filter p (keys_of es)
keys_filter p [] = refl
keys_filter p (e ∷ es) = cond_both (p e.0) (e ∷ filter (λ e. p e.0) es) (filter (λ e. p e.0) es)
    (λ l. keys_of l ≡ filter p (keys_of (e ∷ es)))
    (λ t. rw t (ap (λ l. e.0 ∷ l) (keys_filter p es)))
    (λ t. rw t (keys_filter p es))

pub less : (a b : ℕ) → a < b → nat_cmp a b ≡ Less
less a b lt = by_ranked (a < b) (a ≡ b) (b < a) (nat_cmp a b) (ranks a b) (λ o _. o) (λ _ e. absurd (omega (arith, lt, e)))
    (λ _ gt. absurd (omega (arith, lt, gt)))

not_above : (a b : ℕ) → is_gt (nat_cmp a b) ≡ false → a ≤ b
not_above a b h = by_ranked (a < b) (a ≡ b) (b < a) (nat_cmp a b) (ranks a b) (λ _ lt. omega arith) (λ _ e. omega arith)
    (λ o _. let other : true ≡ false = sym (ap is_gt o) ∙ h in absurd cc)

is_from : (a b : ℕ) → a ≤ b → is_le (nat_cmp a b) ≡ true
is_from a b le = by_ranked (a < b) (a ≡ b) (b < a) (nat_cmp a b) (ranks a b) (λ o _. ap is_le o) (λ o _. ap is_le o)
    (λ o lt. absurd (omega (arith, le, lt)))

equal : (a b : ℕ) → is_eq (nat_cmp a b) ≡ true → a ≡ b
equal a b h = by_ranked (a < b) (a ≡ b) (b < a) (nat_cmp a b) (ranks a b)
    (λ o _. let other : false ≡ true = sym (ap is_eq o) ∙ h in absurd cc) (λ _ e. e)
    (λ o _. let other : false ≡ true = sym (ap is_eq o) ∙ h in absurd cc)

-- what a map lists from a slot on
module _ {V : Type 0} (m : BTreeMap ℕ V) (first : ℕ) (listed : List (ℕ × V)) (ordered : IsOrdered nat_cmp m)
    (between : listed ≡ entries_between nat_cmp (Included first) Unbounded m.entries)
    (each : All (IsEntryInRange nat_cmp (Included first) Unbounded m) listed) where
  abbrev lies_there : ℕ → Bool
  lies_there = range_contains nat_cmp (Included first) Unbounded

  -- from there on a look-up may go through the list
  found_listed : (s : ℕ) → first ≤ s → lookup (is_at (nat_cmp s)) listed ≡ get nat_cmp m s
  found_listed s le = rw between (lookup-filter-keys (is_at (nat_cmp s)) lies_there true
      (λ k at. rw (is_from first k (let same = equal s k at in omega arith)) refl) m.entries)

  pub none_listed : listed ≡ [] → IsEmptyFrom (get nat_cmp m) first
  none_listed is s le = sym (found_listed s le) ∙ ap (lookup (is_at (nat_cmp s))) is

  sorted : IsStrictlySortedBy nat_cmp (keys_of listed)
  sorted = rw between (rw (keys_filter lies_there m.entries) (IsStrictlySortedBy-filter nat_cmp lies_there (keys_of m.entries) ordered))

  pub first_listed : (e : ℕ × V) (rest : List (ℕ × V)) → listed ≡ e ∷ rest → IsFirstFrom (get nat_cmp m) first e.0 e.1
  first_listed e rest is =
      let there : Contains listed e = subst (λ l. Contains l e) (sym is) (0, omega arith, refl) in
      let here = All-contains (IsEntryInRange nat_cmp (Included first) Unbounded m) listed e each there in
      record {
        from = not_above first e.0 here.0.0;
        stands = here.1;
        none_before = λ s le before. sym (found_listed s le) ∙ lookup_at_gap nat_cmp_total s listed 0 sorted
            (λ j f lt _. absurd (omega (arith, lt)))
            (λ f at. (let same : Some e ≡ Some f = sym (ap (λ l. slice_get l 0) is) ∙ at in
            let one : e ≡ f = cc in less s f.0 (subst (λ (x : ℕ × V). s < x.0) one before)));
      }

-- ---- nothing below a slot
module _ {V : Type 0} where
  -- the next value is taken out
  pub one_more_out : (f g h : ℕ → Option V) (n slot : ℕ) → g ≡ without_below f n → n ≤ slot → IsEmptyBetween g n slot
      → h ≡ put g slot None → h ≡ without_below f (slot + 1)
  one_more_out f g h n slot was le none is = is ∙ (λ k s. (at s) k)
    where
      at : (s : ℕ) → put g slot None s ≡ without_below f (slot + 1) s
      at s = elim (eqb_tells s slot) [
        | inl same ↦ elim (tells s (slot + 1)) [
          | inl low ↦ rw (same.0, low.0) refl
          | inr high ↦ absurd (omega (arith, high.1, same.1))
        ]
        | inr other ↦ elim (tells s n) [
          | inl low ↦ elim (tells s (slot + 1)) [
            | inl lower ↦ rw (other.0, lower.0) (ap (λ (x : ℕ → Option V). x s) was ∙ rw low.0 refl)
            | inr high ↦ absurd (omega (arith, high.1, low.1, le))
          ]
          | inr from ↦ elim (tells s (slot + 1)) [
            | inl lower ↦ rw (other.0, lower.0) (none s from.1 (omega (arith, lower.1, other.1)))
            | inr higher ↦ rw (other.0, higher.0) (ap (λ (x : ℕ → Option V). x s) was ∙ rw from.0 refl)
          ]
        ]
      ]

  -- none is left
  pub all_out : (f g : ℕ → Option V) (n below : ℕ) → g ≡ without_below f n → n ≤ below → IsEmptyBetween g n below
      → g ≡ without_below f below
  all_out f g n below was le none = λ k s. (at s) k
    where
      at : (s : ℕ) → g s ≡ without_below f below s
      at s = elim (tells s below) [
        | inl low ↦ elim (tells s n) [
          | inl lower ↦ rw low.0 (ap (λ (x : ℕ → Option V). x s) was ∙ rw lower.0 refl)
          | inr from ↦ rw low.0 (none s from.1 low.1)
        ]
        | inr high ↦ elim (tells s n) [
          | inl lower ↦ absurd (omega (arith, high.1, lower.1, le))
          | inr from ↦ rw high.0 (ap (λ (x : ℕ → Option V). x s) was ∙ rw from.0 refl)
        ]
      ]

  pub none_left : (f g : ℕ → Option V) (below : ℕ) → g ≡ without_below f below → (s : ℕ) → s < below → g s ≡ None
  none_left f g below is s lt = ap (λ (x : ℕ → Option V). x s) is ∙ elim (tells s below) [
    | inl low ↦ rw low.0 refl
    | inr high ↦ absurd (omega (arith, high.1, lt))
  ]

-- ---- the row and the tree
module _ {V : Type 0} (first : ℕ) (row : List (Option V)) (m n : BTreeMap ℕ V) (apart : RowIsApart first row m) where
  -- a change at a slot that isn't of the row
  pub apart_put : (i : ℕ) (x : Option V) → row_from first row i ≡ None → ((s : ℕ) → get nat_cmp n s ≡ put (get nat_cmp m) i x s)
      → RowIsApart first row n
  apart_put i x none changed s lt = changed (first + s) ∙ elim (eqb_tells (first + s) i) [
    | inl same ↦ absurd (there row s lt (sym (in_its_place first row i s (sym same.1)) ∙ none))
    | inr other ↦ rw other.0 (apart s lt)
  ]

  pub apart_tried : {A E : Type 0} (r : Result A E) (i : ℕ) (x : Option V) → row_from first row i ≡ None
      → OnOk r (Updates nat_cmp m n i x) → OnErr r (n.entries ≡ m.entries) → RowIsApart first row n
  apart_tried (Ok a) i x none updates same = apart_put i x none (get-updated m n i x updates)
  apart_tried (Err e) i x none updates same = λ s lt. ap (λ es. lookup (is_at (nat_cmp (first + s))) es) same ∙ apart s lt

  -- what stood at the next slot of the row goes as it joins it
  pub apart_longer : (more : List (Option V)) (p : Option V) (i : ℕ) → more ≡ row ++ p ∷ [] → i ≡ first + length row
      → ((s : ℕ) → get nat_cmp n s ≡ put (get nat_cmp m) i None s) → RowIsApart first more n
  apart_longer more p i is next changed s lt = changed (first + s) ∙ elim (eqb_tells (first + s) i) [
    | inl same ↦ rw same.0 refl
    | inr other ↦
        let long : length more ≡ length row + 1 = ap length is ∙ length-append row (p ∷ []) in
        let elsewhere : first + s ≢ i = other.1 in
        rw other.0 (apart s (omega (arith, lt, long, next, elsewhere)))
  ]

-- ---- the empty places of the row
module _ {V : Type 0} where
  -- they stay so as the row goes on
  pub still_empty : (row more : List (Option V)) (p : Option V) (end : ℕ) → more ≡ row ++ p ∷ [] → AreEmptyTo end row
      → AreEmptyTo end more
  still_empty row more p end is empty s lt = ap (λ l. slice_get l s) is
      ∙ others_of row p s (λ e. clash (slice_get row s) None (none_behind row s (omega (arith, e))) (empty s lt)) ∙ empty s lt

  -- where all are, the row may go
  pub cleared : (first : ℕ) (row : List (Option V)) (m : BTreeMap ℕ V) → AreEmptyTo (length row) row → RowIsApart first row m
      → in_log (in_row first [] (get nat_cmp m)) ≡ in_log (in_row first row (get nat_cmp m))
  cleared first row m empty apart = ap in_log (λ k s. at s k)
    where
      at : (s : ℕ) → in_row first [] (get nat_cmp m) s ≡ in_row first row (get nat_cmp m) s
      at s = elim (tells s first) [
        | inl low ↦ rw low.0 refl
        | inr high ↦ elim (tells (s - first) (length row)) [
          | inl within ↦
              let back : first + (s - first) ≡ s = (let from = high.1 in omega (arith, from)) in
              rw (high.0, empty (s - first) within.1) (subst (λ k. get nat_cmp m k ≡ None) back (apart (s - first) within.1))
          | inr behind ↦ rw (high.0, none_behind row (s - first) behind.1) refl
        ]
      ]

  -- a place where nothing stands is empty
  place_empty : (row : List (Option V)) (s : ℕ) → s < length row → ((p : Option V) → slice_get row s ≡ Some p → p ≡ None)
      → slice_get row s ≡ Some None
  place_empty [] s lt none = absurd (omega (arith, lt))
  place_empty (p ∷ row) zero lt none = ap Some (none p refl)
  place_empty (p ∷ row) (suc s) lt none = place_empty row s (omega (arith, lt)) none

  -- where nothing stands below a slot, the places up to there are empty
  pub emptied : (first : ℕ) (row : List (Option V)) (f : ℕ → Option V) (old below end : ℕ) → AreEmptyTo old row
      → ((s : ℕ) → s < below → in_log (in_row first row f) s ≡ None) → end ≡ max old (min (length row) (min below 65536 - first))
      → AreEmptyTo end row
  emptied first row f old below end empty none is s lt = elim (tells s old) [
    | inl before ↦ empty s before.1
    | inr from ↦
        let low : s < min (length row) (min below 65536 - first) = (let at = from.1 in grind (arith, is, lt, at)) in
        let within : s < length row = grind (arith, low) in
        let lower : first + s < below = grind (arith, low) in
        let here : first + s < 65536 = grind (arith, low) in
        place_empty row s within (λ p at. sym (row_reads first row f (first + s) p here (in_its_place first row (first + s) s refl ∙ at))
        ∙ none (first + s) lower)
  ]
