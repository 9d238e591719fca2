-- What the two selects tell of the table.
use Rattle.std.proofs.Common.{◌≡◌, ◌≢◌, inl, inr, ℕ, ◌+◌, ◌<◌, arith, List, [], ◌∷◌, ◌++◌, map, length, get_or, Bool, true, false, ◌&&◌}
use Rattle.std.proofs.Common.{if◌then◌else◌, Some, Ok, Err, Result, IfOk, OnOk, refl, sym, ap, subst, ◌∙◌, true≢false}
use Rattle.std.specs.Prelude.{flat_map, slice_index_or}
use Rattle.std.specs.List.{list_all, AllByRecursion}
use Rattle.std.specs.List.Sorted.{IsPermutation, IsSorted}
use Rattle.std.specs.Ordering.{is_lt}
use Rattle.std.proofs.lemmas.Bool.{cases_Bool}
use Rattle.std.proofs.lemmas.List.{get_or-map, length-map}
use Rattle.sqlite_value.proofs.OrderLemmas.{then-Equal}
use Rattle.std.proofs.lemmas.List.Sorted.{Contains-permutation, IsPermutation-sym}
use Rattle.sqlite_value.specs.declared.value.Value.{Value}
use Rattle.sqlite_value.specs.declared.value.Value.TheVariants.{Null, Blob}
use Rattle.sqlite_value.specs.declared.keys.Collation.TheVariants.{Binary}
use Rattle.sqlite_value.specs.Order.{Row, column, bytes, value_cmp}
use Rattle.sqlite_schema.specs.Rules.{equal}
use Rattle.sqlite_sql.specs.Query.{IsAnswer, Output, output, output_cmp}
use Rattle.sqlite_sql.specs.Term.{Env, holds}
use Rattle.sqlite_sql.specs.Program.{overlay}
use Rattle.sqlite_trees.specs.Tree.{Trees, IsAscending}
use Rattle.sqlite_trees.proofs.ListLemmas.{all-permutation, along_permutation, ascending-map, ascending_from_map, all-map, all_of}
use Rattle.sqlite_trees.proofs.ListLemmas.{all-get_or}
use Rattle.sqlite_rules.specs.Lists.{Has}
use Rattle.sqlite_rules.proofs.ListLemmas.{has_contained, contains_had}
use Rattle.sqlite.specs.State.{State, Shown, IsUnchanged}
use Rattle.sqlstable.proofs.Steps.{shown_same}
use Rattle.sqlite.proofs.Callers.{reads_as}
use Rattle.sqlite.specs.declared.error.Error.{Error}
use Rattle.sqlstable.specs.Table.{record_schema}
use Rattle.sqlstable.specs.Rows.{is_bytes, has_key, HasOwnKeys, Differ}
use Rattle.sqlstable.specs.Lists.{key_row, ListsKeys, TellsValue}
use Rattle.sqlstable.specs.States.{TableIsSound, table}
use Rattle.sqlstable.specs.Texts.{IsLookup, IsListing, get_query, keys_query}
use Rattle.sqlstable.proofs.OnePut.{equal_is}
use Rattle.sqlstable.proofs.Rows.{value_none, value_has}

-- ---- membership along a permutation and a map

pub has_permuted : {X : Type 0} (xs ys : List X) (x : X) → IsPermutation xs ys → Has xs x → Has ys x
has_permuted xs ys x same h = has_contained ys x (Contains-permutation xs ys x same (contains_had xs x h))

pub has_mapped : {A B : Type 0} (f : A → B) (xs : List A) (x : A) → Has xs x → Has (map f xs) (f x)
has_mapped f [] x h = h
has_mapped f (y ∷ ys) x (inl e) = inl (ap f e)
has_mapped f (y ∷ ys) x (inr h) = inr (has_mapped f ys x h)

pub mapped_has : {A B : Type 0} (f : A → B) (xs : List A) (y : B) → Has (map f xs) y → (x : A) × Has xs x × (y ≡ f x)
mapped_has f [] y h = absurd h
mapped_has f (x ∷ xs) y (inl e) = (x, inl refl, e)
mapped_has f (x ∷ xs) y (inr h) = let it = mapped_has f xs y h in (it.0, inr it.1, it.2)

-- ---- the value of a key

abbrev pub outputs_at : List ℕ → List Row → List Output
outputs_at k [] = []
outputs_at k (r ∷ rs) = if has_key k r then ([], column r 2 ∷ []) ∷ outputs_at k rs else outputs_at k rs

one_row : {X Y : Type 0} (f : X → Y) (b : Bool) (x : X) (rest : List X)
    → map f ((if b && true then x ∷ [] else []) ++ rest) ≡ (if b then f x ∷ map f rest else map f rest)
one_row f true x rest = refl
one_row f false x rest = refl

abbrev matched : Row → List Row → List Env
matched given rows = flat_map (λ r. if list_all (holds (given ∷ r ∷ [])) get_query.filter then (given ∷ r ∷ []) ∷ [] else []) rows

shown_values : (k : List ℕ) (rows : List Row) → map (output get_query) (matched (Blob k ∷ []) rows) ≡ outputs_at k rows
shown_values k [] = refl
shown_values k (r ∷ rs) =
    one_row (output get_query) (equal Binary (column r 1) (Blob k)) ((Blob k ∷ []) ∷ r ∷ []) (matched (Blob k ∷ []) rs)
    ∙ ap (λ b. if b then ([], column r 2 ∷ []) ∷ map (output get_query) (matched (Blob k ∷ []) rs) else map (output get_query)
    (matched (Blob k ∷ []) rs)) (equal_is k (column r 1))
    ∙ ap (λ more. if has_key k r then ([], column r 2 ∷ []) ∷ more else more) (shown_values k rs)

at_has : (k : List ℕ) (rows : List Row) (r : Row) → Has rows r → has_key k r ≡ true → Has (outputs_at k rows) ([], column r 2 ∷ [])
at_has k [] r h is = h
at_has k (s ∷ rs) r (inl e) is = rw (ap (has_key k) (sym e) ∙ is) (inl (ap (λ (c : Row). ([], column c 2 ∷ [])) e))
at_has k (s ∷ rs) r (inr h) is = go (has_key k s) (at_has k rs r h is)
  where
    go : (b : Bool) → Has (outputs_at k rs) ([], column r 2 ∷ [])
        → Has (if b then ([], column s 2 ∷ []) ∷ outputs_at k rs else outputs_at k rs) ([], column r 2 ∷ [])
    go true h = inr h
    go false h = h

has_at_key : (k : List ℕ) (rows : List Row) (o : Output) → Has (outputs_at k rows) o
    → (r : Row) × Has rows r × (has_key k r ≡ true) × (o.1 ≡ column r 2 ∷ [])
has_at_key k [] o h = absurd h
has_at_key k (s ∷ rs) o h = go (has_key k s) refl h (has_at_key k rs o)
  where
    go : (b : Bool) → has_key k s ≡ b → Has (if b then ([], column s 2 ∷ []) ∷ outputs_at k rs else outputs_at k rs) o
        → (Has (outputs_at k rs) o → (r : Row) × Has rs r × (has_key k r ≡ true) × (o.1 ≡ column r 2 ∷ []))
        → (r : Row) × Has (s ∷ rs) r × (has_key k r ≡ true) × (o.1 ≡ column r 2 ∷ [])
    go true e (inl x) later = (s, inl refl, e, ap (λ (p : Output). p.1) x)
    go true e (inr x) later = let it = later x in (it.0, inr it.1, it.2, it.3)
    go false e x later = let it = later x in (it.0, inr it.1, it.2, it.3)

answer_tells : (k : List ℕ) (db : Trees) (rows : List Row) → HasOwnKeys (db 0) → IsAnswer get_query (overlay db []) (Blob k ∷ []) rows
    → TellsValue k (db 0) rows
answer_tells k db rows own a =
    let kept : a.kept ≡ outputs_at k (db 0) = a.distinct ∙ ap (map (output get_query)) a.grouped ∙ shown_values k (db 0) in
    go a.ordered (subst (λ ks. IsPermutation ks a.ordered) kept a.same) rows a.shown
  where
    go : (ordered : List Output) → IsPermutation (outputs_at k (db 0)) ordered → (rows : List Row)
        → rows ≡ map (λ (o : Output). o.1) ordered → TellsValue k (db 0) rows
    go [] same [] e = value_none k (db 0) (λ r h. elim (cases_Bool (has_key k r)) [
      | inl hit ↦ absurd (has_permuted (outputs_at k (db 0)) [] _ same (at_has k (db 0) r h hit))
      | inr none ↦ none
    ])
    go [] same (row ∷ more) e = absurd (cc)
    go (o ∷ ordered) same [] e = absurd (cc)
    go (o ∷ ordered) same (row ∷ more) e =
        let it = has_at_key k (db 0) o (has_permuted (o ∷ ordered) (outputs_at k (db 0)) o (IsPermutation-sym _ _ same) (inl refl)) in
        let is : row ≡ column it.0 2 ∷ [] = let first : row ≡ o.1 = cc in first ∙ it.3 in
        value_has k (db 0) it.0 own it.1 it.2 ∙ ap (λ (r : Row). Some (bytes (column r 0))) (sym is)

pub tells : (sql : List ℕ) (lookup : IsLookup sql) (k : List ℕ) (old new : State) (rows : List Row) → old.now.schema ≡ record_schema
    → HasOwnKeys (old.now.trees 0) → Shown sql (Blob k ∷ []) old new rows → TellsValue k (old.now.trees 0) rows
tells sql lookup k old new rows has own h =
    let read = reads_as sql (Blob k ∷ []) old new record_schema has _ lookup.command lookup.bare lookup.unlisted rows h in
    answer_tells k old.now.trees rows own (read.answer Null)

-- ---- the keys in order

abbrev key_output : Row → Output
key_output r = (column r 1 ∷ [], key_row r)

shown_keys : (rows : List Row) → map (output keys_query) (flat_map (λ r. ([] ∷ r ∷ []) ∷ []) rows) ≡ map key_output rows
shown_keys [] = refl
shown_keys (r ∷ rs) = ap (λ more. key_output r ∷ more) (shown_keys rs)

-- elements that are pairwise related stay so in any order
pub pairwise_permuted : {X : Type 0} (R : X → X → Type 0) → ((a b : X) → R a b → R b a) → (xs ys : List X) → IsPermutation xs ys
    → IsAscending R xs → IsAscending R ys
pairwise_permuted {X} R back xs ys same h =
    (along_permutation (λ us vs. (IsAscending R us → IsAscending R vs) × ((x : X) → AllByRecursion (R x) us → AllByRecursion (R x) vs))
    (λ us. (λ p. p, λ x p. p))
    (λ x us vs f. (λ p. (f.1 x p.0, f.0 p.1), λ y p. (p.0, f.1 y p.1)))
    (λ x y us. (λ p. ((back x y p.0.0, p.1.0), (p.0.1, p.1.1)), λ z p. (p.1.0, (p.0, p.1.1))))
    (λ us vs ws f g. (λ p. g.0 (f.0 p), λ x p. g.1 x (f.1 x p))) xs ys same).0 h

pub differ_back : (v w : Value) → Differ v w → Differ w v
differ_back v w apart k h = elim (cases_Bool (is_bytes k v)) [ inl hit ↦ absurd (true≢false (sym h ∙ apart k hit)) | inr none ↦ none ]

abbrev IsKeyed : Output → Type 0
IsKeyed o = o.0 ≡ column o.1 0 ∷ []

abbrev OutputsApart : Output → Output → Type 0
OutputsApart o p = Differ (column o.1 0) (column p.1 0)

abbrev NumbersApart : Output → Output → Type 0
NumbersApart o p = column o.1 1 ≢ column p.1 1

output_lt : (o p : Output) → IsKeyed o → IsKeyed p → is_lt (output_cmp keys_query o p) ≡ is_lt (value_cmp (column o.1 0) (column p.1 0))
output_lt o p e f = ap is_lt (then-Equal _) ∙ ap (λ x. is_lt (value_cmp (column x 0) (column p.0 0))) e
    ∙ ap (λ x. is_lt (value_cmp (column o.1 0) (column x 0))) f

keys_listed : (table : List Row) (ordered : List Output) → IsPermutation (map key_output table) ordered
    → IsSorted (output_cmp keys_query) ordered → ListsKeys table (map (λ (o : Output). o.1) ordered)
keys_listed table ordered same sorted =
    let keyed : AllByRecursion IsKeyed ordered = all-permutation IsKeyed _ ordered same
    (all-map IsKeyed key_output table (all_of (λ r. IsKeyed (key_output r)) (λ r. refl) table)) in
    record {
      from = λ row h.
          let o = mapped_has (λ (p : Output). p.1) ordered row h in
          let r = mapped_has key_output table o.0 (has_permuted ordered (map key_output table) o.0 (IsPermutation-sym _ _ same) o.1) in
          (r.0, r.1, o.2 ∙ ap (λ (p : Output). p.1) r.2);
      to = λ r h. has_mapped (λ (p : Output). p.1) ordered (key_output r)
          (has_permuted (map key_output table) ordered (key_output r) same (has_mapped key_output table r h));
      sorted = λ k d below.
          let l : length (map (λ (o : Output). o.1) ordered) ≡ length ordered = length-map ordered (λ (o : Output). o.1) in
          let short : k + 1 < length ordered = omega (arith, l, below) in
          let less : k < length ordered = omega (arith, short) in
          let e : Output = ([], d) in
          let at = get_or-map (λ (o : Output). o.1) ordered k e d less in
          let at_next = get_or-map (λ (o : Output). o.1) ordered (k + 1) e d short in
          ap (λ r. is_lt (value_cmp (column r 0) (column (slice_index_or (map (λ (o : Output). o.1) ordered) k d) 0))) at_next
          ∙ ap (λ r. is_lt (value_cmp (column (get_or ordered (k + 1) e).1 0) (column r 0))) at
          ∙ sym (output_lt (get_or ordered (k + 1) e) (get_or ordered k e) (all-get_or IsKeyed ordered (k + 1) e keyed short)
          (all-get_or IsKeyed ordered k e keyed less))
          ∙ sorted k e (omega arith) short;
      apart = λ own. ascending-map (λ a b. Differ (column a 0) (column b 0)) (λ (p : Output). p.1) ordered
          (pairwise_permuted OutputsApart (λ o p. differ_back (column o.1 0) (column p.1 0)) _ ordered same
          (ascending-map OutputsApart key_output table own));
      owned = λ up. ascending_from_map OutputsApart key_output table
          (pairwise_permuted OutputsApart (λ o p. differ_back (column o.1 0) (column p.1 0)) ordered _ (IsPermutation-sym _ _ same)
          (ascending_from_map (λ a b. Differ (column a 0) (column b 0)) (λ (p : Output). p.1) ordered up));
      own_numbers = λ up. ascending_from_map NumbersApart key_output table
          (pairwise_permuted NumbersApart (λ o p h e. h (sym e)) ordered _ (IsPermutation-sym _ _ same)
          (ascending_from_map (λ a b. column a 1 ≢ column b 1) (λ (p : Output). p.1) ordered up));
    }

pub lists : (sql : List ℕ) (listing : IsListing sql) (old new : State) (rows : List Row) → old.now.schema ≡ record_schema
    → Shown sql [] old new rows → ListsKeys (old.now.trees 0) rows
lists sql listing old new rows has h =
    let read = reads_as sql [] old new record_schema has _ listing.command listing.bare listing.unlisted rows h in
    let a : IsAnswer keys_query (overlay old.now.trees []) [] rows = read.answer Null in
    let kept : a.kept ≡ map key_output (old.now.trees 0) = a.distinct ∙ ap (map (output keys_query)) a.grouped
    ∙ shown_keys (old.now.trees 0) in
    subst (ListsKeys (old.now.trees 0)) (sym a.shown) (keys_listed (old.now.trees 0) a.ordered
    (subst (λ ks. IsPermutation ks a.ordered) kept a.same) a.sorted)

module _ (sql : List ℕ) (old new : State) {X : Type 0} (rows_in : X → List Row) where
  pub if_tells : IsLookup sql → (k : List ℕ) (r : Result X Error) → TableIsSound old
      → IfOk r (λ x. Shown sql (Blob k ∷ []) old new (rows_in x)) → IfOk r (λ x. TellsValue k (table old) (rows_in x))
  if_tells lookup k (Ok x) s h = tells sql lookup k old new (rows_in x) s.schema s.own_keys h
  if_tells lookup k (Err e) s h = tt

  pub if_lists : IsListing sql → (r : Result X Error) → old.now.schema ≡ record_schema
      → IfOk r (λ x. Shown sql [] old new (rows_in x)) → IfOk r (λ x. ListsKeys (table old) (rows_in x))
  if_lists listing (Ok x) has h = lists sql listing old new (rows_in x) has h
  if_lists listing (Err e) has h = tt

  pub if_unchanged : IsListing sql → (r : Result X Error) → old.now.schema ≡ record_schema
      → IfOk r (λ x. Shown sql [] old new (rows_in x)) → OnOk r (IsUnchanged old new)
  if_unchanged listing (Ok x) has h = shown_same old new sql [] record_schema has listing.bare (rows_in x) h
  if_unchanged listing (Err e) has h = tt
