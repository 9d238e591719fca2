-- One put sets one key.
use Rattle.std.proofs.Common.{◌≡◌, ◌≢◌, inl, inr, ℕ, ℤ, List, [], ◌∷◌, ◌++◌, map, drop, length, ◌≤◌, arith, Bool, true, false, not, ◌&&◌}
use Rattle.std.proofs.Common.{◌||◌, if◌then◌else◌, Option, Some, Ok, refl, sym, ap, subst, ◌∙◌, true≢false}
use Rattle.std.specs.List.{AllByRecursion}
use Rattle.std.specs.List.Sorted.{IsPermutation}
use Rattle.std.proofs.lemmas.List.Sorted.{length_permutation}
use Rattle.sqlite_rules.specs.Cast.{cast, cast_row}
use Rattle.sqlite_schema.specs.declared.schema.Kind.TheVariants.{Integer}
use Rattle.std.specs.Ordering.{is_eq}
use Rattle.std.specs.declared.cmp.Ordering.TheVariants.{Less, Equal, Greater}
use Rattle.std.specs.Ordering.{match_ordering}
use Rattle.std.proofs.lemmas.Bool.{cases_Bool, and_parts, not-true}
use Rattle.std.proofs.lemmas.Cmp.{tied_itself}
use Rattle.std.proofs.lemmas.Map.Lookups.{exact_signed}
use Rattle.std.specs.Cmp.{Equal-is}
use Rattle.std.proofs.lemmas.Slice.Eq.{bytes_eq-Decides}
use Rattle.std.proofs.lemmas.Map.Text.{is_eq-slice_cmp}
use Rattle.sqlite_value.specs.declared.value.Value.{Value}
use Rattle.sqlite_value.specs.declared.value.Value.TheVariants.{Null, Int, Real, Text, Blob}
use Rattle.sqlite_value.specs.declared.keys.Collation.TheVariants.{Binary}
use Rattle.sqlite_value.specs.Order.{Row, column, bytes, value_cmp}
use Rattle.sqlite_value.proofs.OrderLemmas.{value_cmp_total, value_cmp-Blob, value_cmp-apart, value_cmp-Int}
use Rattle.sqlite_value.proofs.KeyLemmas.{first_key-plain}
use Rattle.sqlite_sql.specs.Ops.{binary, is_true, from_truth}
use Rattle.sqlite_sql.specs.Query.{Output}
use Rattle.sqlite_schema.specs.Rules.{equal}
use Rattle.sqlite_schema.specs.declared.schema.Keys.{Keys}
use Rattle.sqlite_schema.specs.declared.command.Conflict.TheVariants.{Abort}
use Rattle.sqlite_trees.specs.Tree.{Trees, rowid, has_rowid, put_row, without_rowid}
use Rattle.sqlite_trees.specs.View.{is_int}
use Rattle.sqlite_trees.proofs.TreeLemmas.{all-put_row}
use Rattle.sqlite_trees.proofs.ListLemmas.{all-filter, ascending-filter, all-permutation}
use Rattle.sqlite_rules.specs.Lists.{Has}
use Rattle.sqlite_rules.specs.Keys.{AreConflicts, conflicts}
use Rattle.sqlite_rules.specs.Edit.{id_in, are_fresh, put_all, left_by, edit_of, edited, numbered}
use Rattle.sqlite_rules.specs.Calls.{ids_of}
use Rattle.sqlite_rules.specs.declared.error.Rowids.TheVariants.{Given}
use Rattle.sqlite_rules.proofs.ListLemmas.{all_has, all_from, some_from, has_filtered, has_kept}
use Rattle.sqlite_rules.proofs.TableLemmas.{int_is, has_put, put_all_has, put_all_keeps}
use Rattle.sqlite.specs.Rows.{Written, Upserts, Updates, Puts, Clears, Meets}
use Rattle.sqlite.proofs.Callers.{one_permutation}
use Rattle.sqlstable.specs.Table.{record_table, record_schema}
use Rattle.sqlite_rules.specs.Edit.{is_taken}
use Rattle.sqlstable.specs.Rows.{is_bytes, has_key, value_at, RowsAreApart, HasOwnKeys, HasOwnNumbers, AreNumbered, PutsRow}
use Rattle.sqlstable.specs.Texts.{put_clause}
use Rattle.sqlstable.proofs.Puts.{goes_in, cast_int}
use Rattle.sqlstable.proofs.Sets.{outputs, set_row, sets, set_program}
use Rattle.sqlstable.proofs.Rows.{blob_is, is_bytes-self, same_row, value_has, value_same, apart_back}

-- ---- SQL's equality

truth_of : (b : Bool) → is_true (from_truth (Some b)) ≡ b
truth_of true = refl
truth_of false = refl

pub equal_is : (k : List ℕ) (a : Value) → equal Binary a (Blob k) ≡ is_bytes k a
unfolding binary
equal_is k Null = refl
equal_is k (Int n) = truth_of (is_eq (value_cmp (Int n) (Blob k))) ∙ ap is_eq (value_cmp-apart (Int n) (Blob k) (λ e. absurd (cc)))
equal_is k (Real x) = truth_of (is_eq (value_cmp (Real x) (Blob k))) ∙ ap is_eq (value_cmp-apart (Real x) (Blob k) (λ e. absurd (cc)))
equal_is k (Text t) = truth_of (is_eq (value_cmp (Text t) (Blob k))) ∙ ap is_eq (value_cmp-apart (Text t) (Blob k) (λ e. absurd (cc)))
equal_is k (Blob b) = truth_of (is_eq (value_cmp (Blob b) (Blob k))) ∙ ap is_eq (value_cmp-Blob b k) ∙ is_eq-slice_cmp b k

pub equal_ints : (m n : ℤ) → equal Binary (Int m) (Int n) ≡ is_eq (value_cmp (Int m) (Int n))
unfolding binary
equal_ints m n = truth_of (is_eq (value_cmp (Int m) (Int n)))

pub alike : (v : Value) → is_eq (value_cmp v v) ≡ true
alike v = ap is_eq (tied_itself value_cmp_total v)

or_false : (b : Bool) → (b && true) ≡ b
or_false true = refl
or_false false = refl

-- ---- one row goes into rows that have not its key

own-put_row : (new : Row) (rows : List Row) → HasOwnKeys rows → AllByRecursion (λ r. RowsAreApart r new) rows → HasOwnKeys (put_row new rows)
own-put_row new [] own apart = (tt, tt)
own-put_row new (r ∷ rs) own apart =
    elim (value_cmp (rowid r) (rowid new)) as (λ o. HasOwnKeys (match_ordering o (r ∷ put_row new rs) (new ∷ rs) (new ∷ r ∷ rs))) [
      | Less ↦ (all-put_row (RowsAreApart r) new rs apart.0 own.0, own-put_row new rs own.1 apart.1)
      | Equal ↦ (others, own.1)
      | Greater ↦ ((apart_back r new apart.0, others), own)
    ]
  where
    others : AllByRecursion (RowsAreApart new) rs
    others = all_from (RowsAreApart new) rs (λ s h. apart_back s new (all_has (λ r. RowsAreApart r new) rs s apart.1 h))

-- the same of their numbers, where the new row's is free
own-number_row : (new : Row) (rows : List Row) → HasOwnNumbers rows → AllByRecursion (λ r. rowid r ≢ rowid new) rows
    → HasOwnNumbers (put_row new rows)
own-number_row new [] own apart = (tt, tt)
own-number_row new (r ∷ rs) own apart =
    elim (value_cmp (rowid r) (rowid new)) as (λ o. HasOwnNumbers (match_ordering o (r ∷ put_row new rs) (new ∷ rs) (new ∷ r ∷ rs))) [
      | Less ↦ (all-put_row (λ s. rowid r ≢ rowid s) new rs apart.0 own.0, own-number_row new rs own.1 apart.1)
      | Equal ↦ (others, own.1)
      | Greater ↦ ((λ e. apart.0 (sym e), others), own)
    ]
  where
    others : AllByRecursion (λ s. rowid new ≢ rowid s) rs
    others = all_from (λ s. rowid new ≢ rowid s) rs (λ s h e. all_has (λ r. rowid r ≢ rowid new) rs s apart.1 h (sym e))

free_number : (new : Row) (rows : List Row) → are_fresh rows (new ∷ []) ≡ true → AllByRecursion (λ r. rowid r ≢ rowid new) rows
free_number new rows fresh = all_from (λ r. rowid r ≢ rowid new) rows (λ r h e.
    let free = not-true _ (and_parts _ _ fresh).0 in
    true≢false (sym (some_from (λ s. is_eq (value_cmp (rowid s) (rowid new))) rows r h
    (ap (λ v. is_eq (value_cmp v (rowid new))) e ∙ alike (rowid new))) ∙ free))

abbrev pub row_of : ℤ → List ℕ → List ℕ → Row
row_of id k v = Int id ∷ Blob k ∷ Blob v ∷ []

pub goes_to : (id : ℤ) (k v : List ℕ) (old left : List Row) → HasOwnKeys left → AreNumbered left → HasOwnNumbers left
    → ((r : Row) → Has left r → has_key k r ≡ false)
    → ((r : Row) → Has left r → Has old r) → ((r : Row) → Has old r → has_key k r ≡ false → Has left r)
    → are_fresh left (row_of id k v ∷ []) ≡ true → PutsRow k v old (put_all left (row_of id k v ∷ []))
goes_to id k v old left own numbered own_numbers none from stays fresh =
    let n = row_of id k v in
    record {
      own_keys = own-put_row n left own (all_from (λ r. RowsAreApart r n) left (λ r h. apart_back n r (λ q is.
          let same : k ≡ q = (bytes_eq-Decides k q).0 is in subst (λ b. has_key b r ≡ false) same (none r h))));
      numbered = all-put_row (λ r. is_int (rowid r) ≡ true) n left refl numbered;
      own_numbers = own-number_row n left own_numbers (free_number n left fresh);
      put = (n, has_put n left, is_bytes-self k, refl);
      kept = λ r h is. put_all_keeps (n ∷ []) left r fresh (stays r h is);
      was = λ r h is. elim (put_all_has (n ∷ []) left r h) [
        | inl new ↦ elim new [
          | inl same ↦ absurd (true≢false (sym (is_bytes-self k) ∙ sym (ap (has_key k) same) ∙ is))
          | inr none_left ↦
              absurd none_left
        ]
        | inr there ↦ from r there
      ];
    }

-- ---- which rows conflict

pub conflicts_is : (id : ℤ) (k v : List ℕ) (r : Row)
    → conflicts (Some (1 ∷ [])) record_schema.indexes record_table (row_of id k v) r ≡ has_key k r
conflicts_is id k v r = rw first_key-plain (tidy (equal Binary (column r 1) (Blob k)) ∙ equal_is k (column r 1))
  where
    tidy : (b : Bool) → ((b && true) || false) ≡ b
    tidy true = refl
    tidy false = refl

pub none_conflicts : (id : ℤ) (k v : List ℕ) (rows : List Row)
    → AreConflicts (Some (1 ∷ [])) record_schema.indexes record_table rows (row_of id k v) []
    → (r : Row) → Has rows r → has_key k r ≡ false
none_conflicts id k v rows c r h = elim (cases_Bool (has_key k r)) [
  | inl hit ↦ absurd (c.complete r h (conflicts_is id k v r ∙ hit))
  | inr none ↦ none
]

pub one_conflicts : (id : ℤ) (k v : List ℕ) (rows more : List Row) (there : Row)
    → AreConflicts (Some (1 ∷ [])) record_schema.indexes record_table rows (row_of id k v) (there ∷ more)
    → (r : Row) × Has rows r × (has_key k r ≡ true) × (rowid there ≡ rowid r)
one_conflicts id k v rows more there c = let it = c.sound there (inl refl) in
    (it.0, it.1, sym (conflicts_is id k v it.0) ∙ it.2, ap rowid it.3)

-- ---- what the update shows

outputs_has : (there v : Value) (rows : List Row) (r : Row) → Has rows r → equal Binary (column r 0) there ≡ true
    → Has (outputs there v rows) (set_row v r)
outputs_has there v [] r h is = h
outputs_has there v (s ∷ rs) r (inl x) is = rw (ap (λ (c : Row). equal Binary (column c 0) there) (sym x) ∙ is) (inl (ap (set_row v) x))
outputs_has there v (s ∷ rs) r (inr x) is = go (equal Binary (column s 0) there) (outputs_has there v rs r x is)
  where
    go : (b : Bool) → Has (outputs there v rs) (set_row v r)
        → Has (if b then set_row v s ∷ outputs there v rs else outputs there v rs) (set_row v r)
    go true h = inr h
    go false h = h

pub int_tied : (n id : ℤ) → is_eq (value_cmp (Int n) (Int id)) ≡ true → n ≡ id
int_tied n id h = exact_signed n id ((Equal-is _).0 (rw (value_cmp-Int n id) at h))

-- each row that the update shows has the rowid of the one that is there
outputs_numbered : (id : ℤ) (v : Value) (rows : List Row) → AreNumbered rows
    → AllByRecursion (λ (o : Output). column (drop 1 o.1) 0 ≡ Int id) (outputs (Int id) v rows)
outputs_numbered id v [] n = tt
outputs_numbered id v (r ∷ rs) n = go (equal Binary (column r 0) (Int id)) refl (outputs_numbered id v rs n.1)
  where
    go : (b : Bool) → equal Binary (column r 0) (Int id) ≡ b
        → AllByRecursion (λ (o : Output). column (drop 1 o.1) 0 ≡ Int id) (outputs (Int id) v rs)
        → AllByRecursion (λ (o : Output). column (drop 1 o.1) 0 ≡ Int id)
        (if b then set_row v r ∷ outputs (Int id) v rs else outputs (Int id) v rs)
    go true e more =
        let is = int_is (column r 0) n.0 in
        let same = int_tied (id_in (column r 0)) id (sym (equal_ints (id_in (column r 0)) id)
        ∙ subst (λ x. equal Binary x (Int id) ≡ true) is e) in
        (is ∙ ap Int same, more)
    go false e more = more

twice : (n m : Row) (left more : List Row) → rowid n ≡ rowid m → are_fresh left (n ∷ m ∷ more) ≡ true → ⊥
twice n m left more same fresh =
    let free = not-true _ (and_parts _ _ (and_parts _ _ fresh).1).0 in
    let taken = some_from (λ r. is_eq (value_cmp (rowid r) (rowid m))) (put_row n left) n (has_put n left)
    (ap (λ x. is_eq (value_cmp x (rowid m))) same ∙ alike (rowid m)) in
    true≢false (sym taken ∙ free)

-- ---- the update

module _ (k v : List ℕ) (rows : List Row) (own : HasOwnKeys rows) (numbered : AreNumbered rows) (own_numbers : HasOwnNumbers rows) (there : Row) (listed : Has rows there)
    (keyed : has_key k there ≡ true) where
  abbrev id : ℤ
  id = id_in (rowid there)

  there_is : rowid there ≡ Int id
  there_is = int_is (rowid there) (all_has _ rows there numbered listed)

  abbrev left : List Row
  left = without_rowid id rows

  taken_out : has_rowid id there ≡ true
  taken_out = ap (λ x. is_eq (value_cmp x (Int id))) there_is ∙ alike (Int id)

  left_was : (r : Row) → Has left r → Has rows r × (not (has_rowid id r) ≡ true)
  left_was r h = has_filtered _ rows r h

  left_apart : (r : Row) → Has left r → has_key k r ≡ false
  left_apart r h = elim (cases_Bool (has_key k r)) [
    | inl hit ↦
        let it = left_was r h in
        let same : r ≡ there = same_row rows k r there own it.0 listed hit keyed in
        absurd (true≢false (sym taken_out ∙ ap (has_rowid id) (sym same) ∙ not-true _ it.1))
    | inr none ↦ none
  ]

  -- the update shows one row
  module _ (only : outputs (Int id) (Blob v) rows ≡ set_row (Blob v) there ∷ []) where
    alone_key : (r : Row) → Has rows r → has_rowid id r ≡ true → column r 1 ≡ column there 1
    alone_key r h is =
        let int = int_is (rowid r) (all_has _ rows r numbered h) in
        let equals : equal Binary (column r 0) (Int id) ≡ true =
        subst (λ x. equal Binary x (Int id) ≡ true) (sym int) (equal_ints _ id ∙ subst (λ x. is_eq (value_cmp x (Int id)) ≡ true) int is) in
        elim (subst (λ os. Has os (set_row (Blob v) r)) only (outputs_has (Int id) (Blob v) rows r h equals)) [
          | inl same ↦ ap (λ (o : Output). column o.1 2) same
          | inr none ↦ absurd none
        ]

    stays_left : (r : Row) → Has rows r → has_key k r ≡ false → Has left r
    stays_left r h is = elim (cases_Bool (has_rowid id r)) [
      | inl hit ↦ absurd (true≢false (sym keyed ∙ ap (is_bytes k) (sym (alone_key r h hit)) ∙ is))
      | inr none ↦ has_kept _ rows r h (rw none refl)
    ]

    updated : are_fresh left (row_of id k v ∷ []) ≡ true → PutsRow k v rows (put_all left (row_of id k v ∷ []))
    updated fresh = goes_to id k v rows left (ascending-filter RowsAreApart _ rows own) (all-filter _ _ rows numbered)
        (ascending-filter (λ a b. rowid a ≢ rowid b) _ rows own_numbers) left_apart
        (λ r h. (left_was r h).0) stays_left fresh

abbrev pub news_of : List Row → List Row → List Row
news_of left shown = numbered Given left (map (λ s. cast_row record_table (drop 1 s)) shown)

-- no two rows of one update have one rowid
many : (id : ℤ) (left : List Row) (ordered : List Output) → 2 ≤ length ordered
    → AllByRecursion (λ (o : Output). column (drop 1 o.1) 0 ≡ Int id) ordered
    → are_fresh left (news_of left (map (λ (o : Output). o.1) ordered)) ≡ true → ⊥
many id left [] long all fresh = absurd (omega arith)
many id left (o ∷ []) long all fresh = absurd (omega arith)
many id left (o ∷ p ∷ more) long all fresh =
    twice (cast_row record_table (drop 1 o.1)) (cast_row record_table (drop 1 p.1)) left _ (ap (cast Integer) (all.0 ∙ sym all.1.0)) fresh

pub update_put : (limit : Option ℕ) (keys : Keys) (params : Row) (k v : List ℕ) (n : ℤ) (db : Trees) (one : Written)
    → HasOwnKeys (db 0) → AreNumbered (db 0) → HasOwnNumbers (db 0)
    → (there : Row) → Has (db 0) there → has_key k there ≡ true
    → Updates (record { limit = limit; keys = keys; schema = record_schema; table = record_table; params = params }) set_program
    (Blob k ∷ Blob v ∷ rowid there ∷ Int n ∷ Blob k ∷ Blob v ∷ []) db (Ok one)
    → PutsRow k v (db 0) (one.trees 0)
update_put limit keys params k v n db one own numbers ids there listed keyed h =
    let got = sets limit keys params k v (rowid there) (Int n) db one h in
    let is = there_is k v (db 0) own numbers ids there listed keyed in
    go got.0 got.1 (subst (λ x. IsPermutation (outputs x (Blob v) (db 0)) got.1) is got.2) got.3 got.4 got.5
    (outputs (Int (id_in (rowid there))) (Blob v) (db 0)) refl
  where
    here : Has (outputs (Int (id_in (rowid there))) (Blob v) (db 0)) (set_row (Blob v) there)
    here = let is = there_is k v (db 0) own numbers ids there listed keyed in
        outputs_has (Int (id_in (rowid there))) (Blob v) (db 0) there listed
        (subst (λ x. equal Binary x (Int (id_in (rowid there))) ≡ true) (sym is) (equal_ints _ _ ∙ alike (Int (id_in (rowid there)))))

    one_row : (rows : List Row) → rows ≡ (set_row (Blob v) there).1 ∷ []
        → one.trees 0 ≡ edited db (edit_of db record_table (ids_of rows) Given 1 rows)
        → are_fresh (left_by db (edit_of db record_table (ids_of rows) Given 1 rows))
        (edit_of db record_table (ids_of rows) Given 1 rows).news ≡ true
        → outputs (Int (id_in (rowid there))) (Blob v) (db 0) ≡ set_row (Blob v) there ∷ []
        → PutsRow k v (db 0) (one.trees 0)
    one_row rows e ended fresh only =
        let is = there_is k v (db 0) own numbers ids there listed keyed in
        let left = without_rowid (id_in (rowid there)) (db 0) in
        let row : cast Integer (column there 0) ∷ column there 1 ∷ Blob v ∷ [] ≡ row_of (id_in (rowid there)) k v =
        ap (λ x. x ∷ column there 1 ∷ Blob v ∷ []) (ap (cast Integer) is ∙ cast_int _)
        ∙ ap (λ x. Int (id_in (rowid there)) ∷ x ∷ Blob v ∷ []) (blob_is k (column there 1) keyed) in
        let trees : one.trees 0 ≡ put_all left (row_of (id_in (rowid there)) k v ∷ []) =
        subst (λ rs. one.trees 0 ≡ edited db (edit_of db record_table (ids_of rs) Given 1 rs)) e ended
        ∙ ap (λ r. put_all left (r ∷ [])) row in
        let free : are_fresh left (row_of (id_in (rowid there)) k v ∷ []) ≡ true =
        subst (λ r. are_fresh left (r ∷ []) ≡ true) row (subst
        (λ rs. are_fresh (left_by db (edit_of db record_table (ids_of rs) Given 1 rs))
        (edit_of db record_table (ids_of rs) Given 1 rs).news ≡ true) e fresh) in
        subst (PutsRow k v (db 0)) (sym trees) (updated k v (db 0) own numbers ids there listed keyed only free)

    go : (rows : List Row) (ordered : List Output) → IsPermutation (outputs (Int (id_in (rowid there))) (Blob v) (db 0)) ordered
        → rows ≡ map (λ (o : Output). o.1) ordered
        → one.trees 0 ≡ edited db (edit_of db record_table (ids_of rows) Given 1 rows)
        → are_fresh (left_by db (edit_of db record_table (ids_of rows) Given 1 rows))
        (edit_of db record_table (ids_of rows) Given 1 rows).news ≡ true
        → (os : List Output) → outputs (Int (id_in (rowid there))) (Blob v) (db 0) ≡ os → PutsRow k v (db 0) (one.trees 0)
    go rows ordered same shown ended fresh [] e = absurd (subst (λ os. Has os (set_row (Blob v) there)) e here)
    go rows ordered same shown ended fresh (o ∷ []) e =
        let o_is : set_row (Blob v) there ≡ o = elim (subst (λ os. Has os (set_row (Blob v) there)) e here)
        [ inl x ↦ x | inr none ↦ absurd none ] in
        let only = e ∙ ap (λ x. x ∷ []) (sym o_is) in
        let one_only = one_permutation (set_row (Blob v) there) ordered (subst (λ os. IsPermutation os ordered) only same) in
        one_row rows (shown ∙ ap (map (λ (p : Output). p.1)) one_only) ended fresh only
    go rows ordered same shown ended fresh (o ∷ p ∷ more) e =
        let long : 2 ≤ length ordered = let l = length_permutation _ ordered (subst (λ os. IsPermutation os ordered) e same) in
        omega (arith, l) in
        absurd (many (id_in (rowid there)) (left_by db (edit_of db record_table (ids_of rows) Given 1 rows)) ordered long
        (all-permutation _ _ ordered same (outputs_numbered (id_in (rowid there)) (Blob v) (db 0) numbers))
        (subst (λ rs. are_fresh (left_by db (edit_of db record_table (ids_of rows) Given 1 rows))
        (news_of (left_by db (edit_of db record_table (ids_of rows) Given 1 rows)) rs) ≡ true) shown fresh))

-- ---- the put

pub one_put : (limit : Option ℕ) (keys : Keys) (params : Row) (id : ℤ) (k v : List ℕ) (db : Trees) (one : Written) → HasOwnKeys (db 0)
    → AreNumbered (db 0) → HasOwnNumbers (db 0) → params ≡ Blob k ∷ Blob v ∷ []
    → Upserts (record { limit = limit; keys = keys; schema = record_schema; table = record_table; params = params }) Abort
    (row_of id k v) db (put_clause ∷ []) (Ok one)
    → PutsRow k v (db 0) (one.trees 0)
one_put limit keys params id k v db one own numbers ids given (found, met, does) = go found met does
  where
    insert : ((r : Row) → Has (db 0) r → has_key k r ≡ false)
        → Puts (record { limit = limit; keys = keys; schema = record_schema; table = record_table; params = params }) (row_of id k v) db
        (Ok one) → PutsRow k v (db 0) (one.trees 0)
    insert none h = let went = goes_in limit keys params id k v db one h in
        subst (PutsRow k v (db 0)) (sym went.0) (goes_to id k v (db 0) (db 0) own numbers ids none (λ r x. x) (λ r x is. x) went.1)

    clear : ((r : Row) → Has (db 0) r → has_key k r ≡ false) → (found : List Row)
        → Clears (record { limit = limit; keys = keys; schema = record_schema; table = record_table; params = params }) Abort
        (row_of id k v) db found (Ok one) → PutsRow k v (db 0) (one.trees 0)
    clear none [] h = insert none h
    clear none (x ∷ more) h = insert none h

    go : (found : List Row) → AreConflicts (Some (1 ∷ [])) record_schema.indexes record_table (db 0) (row_of id k v) found
        → Meets (record { limit = limit; keys = keys; schema = record_schema; table = record_table; params = params })
        (Upserts (record { limit = limit; keys = keys; schema = record_schema; table = record_table; params = params }) Abort
        (row_of id k v) db []) (row_of id k v) db put_clause found (Ok one)
        → PutsRow k v (db 0) (one.trees 0)
    go [] met (other, again, h) = clear (none_conflicts id k v (db 0) met) other h
    go (there ∷ more) met h =
        let it = one_conflicts id k v (db 0) more there met in
        update_put limit keys params k v id db one own numbers ids it.0 it.1 it.2
        (subst (λ x. Updates (record { limit = limit; keys = keys; schema = record_schema; table = record_table; params = params })
        set_program (Blob k ∷ Blob v ∷ x ∷ Int id ∷ Blob k ∷ Blob v ∷ []) db (Ok one)) it.3
        (subst (λ ps. Updates (record { limit = limit; keys = keys; schema = record_schema; table = record_table; params = params })
        set_program (ps ++ rowid there ∷ Int id ∷ Blob k ∷ Blob v ∷ []) db (Ok one)) given h))

-- ---- what is put is read

pub reads_put : (k v : List ℕ) (old new : List Row) → PutsRow k v old new → value_at k new ≡ Some v
reads_put k v old new p = value_has k new p.put.0 p.own_keys p.put.1 p.put.2 ∙ ap (λ x. Some (bytes x)) p.put.3

pub reads_others : (k v q : List ℕ) (old new : List Row) → PutsRow k v old new → q ≢ k → value_at q new ≡ value_at q old
reads_others k v q old new p other = value_same q old new p.own_keys (λ r h is. p.kept r h (apart r is)) (λ r h is. p.was r h (apart r is))
  where
    apart : (r : Row) → has_key q r ≡ true → has_key k r ≡ false
    apart r is = elim (cases_Bool (has_key k r)) [
      | inl hit ↦ absurd (other (blobs (sym (blob_is q (column r 1) is) ∙ blob_is k (column r 1) hit)))
      | inr none ↦ none
    ]
      where
        blobs : {a b : List ℕ} → Blob a ≡ Blob b → a ≡ b
        blobs e = cc
