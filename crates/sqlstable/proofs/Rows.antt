-- Rows whose keys differ.
use Rattle.std.proofs.Common.{◌≡◌, inl, inr, ℕ, List, [], ◌∷◌, true, false, Option, Some, None, refl, sym, ap, subst, ◌∙◌, true≢false}
use Rattle.std.proofs.lemmas.Bool.{cases_Bool}
use Rattle.std.proofs.lemmas.Slice.Eq.{bytes_eq-Decides}
use Rattle.sqlite_value.specs.declared.value.Value.{Value}
use Rattle.sqlite_value.specs.declared.value.Value.TheVariants.{Null, Int, Real, Text, Blob}
use Rattle.sqlite_value.specs.Order.{Row, column, bytes}
use Rattle.sqlite_rules.specs.Lists.{Has}
use Rattle.sqlite_rules.proofs.ListLemmas.{all_has}
use Rattle.sqlstable.specs.Rows.{is_bytes, has_key, value_at, RowsAreApart, HasOwnKeys}

-- bytes are a blob of their own
pub blob_is : (k : List ℕ) (v : Value) → is_bytes k v ≡ true → v ≡ Blob k
blob_is k Null h = absurd (true≢false (sym h))
blob_is k (Int n) h = absurd (true≢false (sym h))
blob_is k (Real x) h = absurd (true≢false (sym h))
blob_is k (Text t) h = absurd (true≢false (sym h))
blob_is k (Blob b) h = ap Blob ((bytes_eq-Decides b k).0 h)

pub is_bytes-self : (k : List ℕ) → is_bytes k (Blob k) ≡ true
is_bytes-self k = (bytes_eq-Decides k k).1 refl

pub apart_back : (a b : Row) → RowsAreApart a b → RowsAreApart b a
apart_back a b apart k h = elim (cases_Bool (has_key k a)) [ inl hit ↦ absurd (true≢false (sym h ∙ apart k hit)) | inr none ↦ none ]

-- two rows with one key are one row
pub same_row : (rows : List Row) (k : List ℕ) (a b : Row) → HasOwnKeys rows → Has rows a → Has rows b → has_key k a ≡ true
    → has_key k b ≡ true → a ≡ b
same_row [] k a b own x y p q = absurd x
same_row (r ∷ rs) k a b own (inl x) (inl y) p q = x ∙ sym y
same_row (r ∷ rs) k a b own (inl x) (inr y) p q =
    absurd (true≢false (sym q ∙ all_has (RowsAreApart r) rs b own.0 y k (subst (λ c. has_key k c ≡ true) x p)))
same_row (r ∷ rs) k a b own (inr x) (inl y) p q =
    absurd (true≢false (sym p ∙ all_has (RowsAreApart r) rs a own.0 x k (subst (λ c. has_key k c ≡ true) y q)))
same_row (r ∷ rs) k a b own (inr x) (inr y) p q = same_row rs k a b own.1 x y p q

pub value_none : (k : List ℕ) (rows : List Row) → ((r : Row) → Has rows r → has_key k r ≡ false) → value_at k rows ≡ None
value_none k [] none = refl
value_none k (r ∷ rs) none = rw (none r (inl refl)) (value_none k rs (λ s h. none s (inr h)))

pub value_some : (k : List ℕ) (rows : List Row) (v : List ℕ) → value_at k rows ≡ Some v
    → (r : Row) × Has rows r × (has_key k r ≡ true) × (bytes (column r 2) ≡ v)
value_some k [] v h = absurd (cc)
value_some k (r ∷ rs) v h = elim (cases_Bool (has_key k r)) [
  | inl hit ↦ (r, inl refl, hit, let e = rw hit at h in cc)
  | inr none ↦ let found = value_some k rs v (rw none at h) in (found.0, inr found.1, found.2, found.3)
]

pub value_has : (k : List ℕ) (rows : List Row) (r : Row) → HasOwnKeys rows → Has rows r → has_key k r ≡ true
    → value_at k rows ≡ Some (bytes (column r 2))
value_has k [] r own h is = absurd h
value_has k (s ∷ rs) r own h is = elim (cases_Bool (has_key k s)) [
  | inl hit ↦ rw hit (ap (λ (c : Row). Some (bytes (column c 2))) (same_row (s ∷ rs) k s r own (inl refl) h hit is))
  | inr none ↦ elim h [
    | inl x ↦ absurd (true≢false (sym is ∙ ap (has_key k) x ∙ none))
    | inr x ↦ rw none (value_has k rs r own.1 x is)
  ]
]

-- rows that have the same rows with a key have the same value there
pub value_same : (k : List ℕ) (old new : List Row) → HasOwnKeys new → ((r : Row) → Has old r → has_key k r ≡ true → Has new r)
    → ((r : Row) → Has new r → has_key k r ≡ true → Has old r)
    → value_at k new ≡ value_at k old
value_same k old new own there back = go (value_at k old) refl
  where
    go : (o : Option (List ℕ)) → value_at k old ≡ o → value_at k new ≡ value_at k old
    go None e = value_none k new (λ r h. elim (cases_Bool (has_key k r)) [
      | inl hit ↦ absurd (some_found r (back r h hit) hit e)
      | inr none ↦ none
    ]) ∙ sym e
      where
        some_in : (rows : List Row) (r : Row) → Has rows r → has_key k r ≡ true → value_at k rows ≡ None → ⊥
        some_in [] r h hit e = h
        some_in (s ∷ rs) r h hit e = elim (cases_Bool (has_key k s)) [
          | inl same ↦ let f = rw same at e in absurd (cc)
          | inr none ↦ elim h [
            | inl x ↦ true≢false (sym hit ∙ ap (has_key k) x ∙ none)
            | inr x ↦ some_in rs r x hit (rw none at e)
          ]
        ]

        some_found : (r : Row) → Has old r → has_key k r ≡ true → value_at k old ≡ None → ⊥
        some_found r h hit e = some_in old r h hit e
    go (Some v) e = let found = value_some k old v e in value_has k new found.0 own (there found.0 found.1 found.2) found.2
        ∙ ap Some found.3 ∙ sym e
