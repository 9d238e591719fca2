-- What the delete does to the table.
use Rattle.std.proofs.Common.{◌≡◌, ◌≢◌, inl, inr, ℕ, ℤ, List, [], ◌∷◌, ◌++◌, map, Bool, true, false, not, ◌&&◌, if◌then◌else◌}
use Rattle.std.proofs.Common.{Some, None, Ok, refl, sym, ap, subst, ◌∙◌, true≢false}
use Rattle.std.specs.Prelude.{flat_map}
use Rattle.std.specs.List.{AllByRecursion, list_all}
use Rattle.std.specs.List.Sorted.{IsPermutation}
use Rattle.std.specs.Ordering.{is_eq, is_ge, is_lt, nat_cmp}
use Rattle.std.specs.Cmp.Lexicographic.{slice_cmp}
use Rattle.std.proofs.lemmas.Bool.{cases_Bool, not-true}
use Rattle.std.proofs.lemmas.List.Sorted.{IsPermutation-sym}
use Rattle.sqlite_value.specs.declared.value.Value.{Value}
use Rattle.sqlite_value.specs.declared.value.Value.TheVariants.{Null, Int, Real, Text, Blob}
use Rattle.sqlite_value.specs.declared.keys.Collation.TheVariants.{Binary}
use Rattle.sqlite_value.specs.Order.{Row, column, value_cmp}
use Rattle.sqlite_value.proofs.OrderLemmas.{value_cmp-Blob, value_cmp-apart}
use Rattle.sqlite_sql.specs.Ops.{binary, is_true, from_truth}
use Rattle.sqlite_sql.specs.declared.ops.BinaryOp.TheVariants as by
use Rattle.sqlite_sql.specs.declared.ops.CompareOp.TheVariants.{Ge, Lt}
use Rattle.sqlite_sql.specs.Query.{IsAnswer, Output, output}
use Rattle.sqlite_sql.specs.Term.{Env, holds}
use Rattle.sqlite_sql.specs.Program.{overlay}
use Rattle.sqlite_schema.specs.declared.command.Command.TheVariants.{Delete}
use Rattle.sqlite_rules.specs.declared.error.Rowids.TheVariants.{Given}
use Rattle.sqlite_rules.specs.Edit.{id_in, without_all, edit_of}
use Rattle.sqlite_rules.specs.Calls.{ids_of}
use Rattle.sqlite_rules.specs.Lists.{Has}
use Rattle.sqlite_rules.proofs.ListLemmas.{has_filtered, has_kept, all_has}
use Rattle.sqlite_rules.proofs.TableLemmas.{int_is, without_all_has}
use Rattle.sqlite_trees.specs.Tree.{Trees, IsAscending, has_rowid, rowid, without_rowid}
use Rattle.sqlite_trees.specs.View.{is_int}
use Rattle.sqlite_trees.proofs.ListLemmas.{all-filter, ascending-filter}
use Rattle.sqlite.specs.Does.{Does, Tally}
use Rattle.sqlite.specs.Effect.{Database}
use Rattle.sqlite.specs.Rows.{Written}
use Rattle.sqlite.specs.State.{State, mode_of, Executes}
use Rattle.sqlite.specs.Listing.{understood}
use Rattle.sqlite.proofs.Callers.{one_step, runs_as, statement_of}
use Rattle.sqlstable.specs.Rows.{RowsAreApart, AreNumbered, HasOwnKeys, HasOwnNumbers, TrimsRows, goes, is_between}
use Rattle.sqlstable.specs.Table.{record_schema, record_table}
use Rattle.sqlstable.specs.Texts.{IsTrim, trim_query}
use Rattle.sqlstable.proofs.OnePut.{alike, int_tied}
use Rattle.sqlstable.proofs.Puts.{went, same_value}
use Rattle.sqlstable.proofs.Selects.{has_mapped, has_permuted, mapped_has}

-- ---- the command takes out the rows whose numbers the query shows

abbrev pub outputs_between : List ℕ → List ℕ → List Row → List Output
outputs_between low high [] = []
outputs_between low high (r ∷ rs) =
    if goes low high r then ([], column r 0 ∷ []) ∷ outputs_between low high rs else outputs_between low high rs

truth_of : (b : Bool) → is_true (from_truth (Some b)) ≡ b
truth_of true = refl
truth_of false = refl

-- SQL's order tells which values are bytes from these on, and below those
both_are : (low high : List ℕ) (v : Value)
    → (is_true (binary (by.Compare Ge Binary) v (Blob low)) && is_true (binary (by.Compare Lt Binary) v (Blob high)))
    ≡ is_between low high v
unfolding binary
both_are low high Null = refl
both_are low high (Int n) = ap (λ b. b && is_true (binary (by.Compare Lt Binary) (Int n) (Blob high)))
    (truth_of (is_ge (value_cmp (Int n) (Blob low))) ∙ ap is_ge (value_cmp-apart (Int n) (Blob low) (λ e. absurd (cc))))
both_are low high (Real x) = ap (λ b. b && is_true (binary (by.Compare Lt Binary) (Real x) (Blob high)))
    (truth_of (is_ge (value_cmp (Real x) (Blob low))) ∙ ap is_ge (value_cmp-apart (Real x) (Blob low) (λ e. absurd (cc))))
both_are low high (Text t) = ap (λ b. b && is_true (binary (by.Compare Lt Binary) (Text t) (Blob high)))
    (truth_of (is_ge (value_cmp (Text t) (Blob low))) ∙ ap is_ge (value_cmp-apart (Text t) (Blob low) (λ e. absurd (cc))))
both_are low high (Blob b) =
    ap (λ x. x && is_true (binary (by.Compare Lt Binary) (Blob b) (Blob high)))
    (truth_of (is_ge (value_cmp (Blob b) (Blob low))) ∙ ap is_ge (value_cmp-Blob b low))
    ∙ ap (λ x. is_ge (slice_cmp nat_cmp b low) && x)
    (truth_of (is_lt (value_cmp (Blob b) (Blob high))) ∙ ap is_lt (value_cmp-Blob b high))

one_row : {X Y : Type 0} (f : X → Y) (b c : Bool) (x : X) (rest : List X)
    → map f ((if b && (c && true) then x ∷ [] else []) ++ rest) ≡ (if b && c then f x ∷ map f rest else map f rest)
one_row f true true x rest = refl
one_row f true false x rest = refl
one_row f false c x rest = refl

-- what WHERE lets through
abbrev matched : Row → List Row → List Env
matched given rows = flat_map (λ r. if list_all (holds (given ∷ r ∷ [])) trim_query.filter then (given ∷ r ∷ []) ∷ [] else []) rows

abbrev low : List ℕ
low = 0x56 ∷ []

shown_numbers : (high : List ℕ) (rows : List Row)
    → map (output trim_query) (matched (Blob high ∷ []) rows) ≡ outputs_between low high rows
shown_numbers high [] = refl
shown_numbers high (r ∷ rs) =
    one_row (output trim_query) (is_true (binary (by.Compare Ge Binary) (column r 1) (Blob low)))
    (is_true (binary (by.Compare Lt Binary) (column r 1) (Blob high))) ((Blob high ∷ []) ∷ r ∷ []) (matched (Blob high ∷ []) rs)
    ∙ ap (λ b. if b then ([], column r 0 ∷ []) ∷ map (output trim_query) (matched (Blob high ∷ []) rs)
    else map (output trim_query) (matched (Blob high ∷ []) rs)) (both_are low high (column r 1))
    ∙ ap (λ more. if goes low high r then ([], column r 0 ∷ []) ∷ more else more) (shown_numbers high rs)

-- the table is what it was without the rows of these numbers
pub takes_out : (sql : List ℕ) (trim : IsTrim sql) (old new : State) (high : List ℕ) (count : ℕ) → old.now.schema ≡ record_schema
    → Executes sql (Blob high ∷ []) old new (Ok count)
    → (new.now.schema ≡ record_schema) × (rows : List Row) × (ordered : List Output)
    × IsPermutation (outputs_between low high (old.now.trees 0)) ordered
    × (rows ≡ map (λ (o : Output). o.1) ordered)
    × (new.now.trees 0 ≡ without_all (old.now.trees 0) (ids_of rows))
takes_out sql trim old new high count has h =
    let params : Row = Blob high ∷ [] in
    let db = old.now.trees in
    let keys = (mode_of old).keys in
    let w = runs_as sql params old new record_schema has _ trim.command trim.bare count h in
    let text = statement_of sql (understood record_schema sql) in
    let done = went (subst (λ s. Does old.step_limit (mode_of old) params (record old.now { schema = s }) text None
    (Delete 0 (record { lets = []; body = trim_query })) (Ok (w.tally, new.now))) has w.changed) in
    let now = ap (λ (p : Tally × Database). p.1) (same_value (went (went done.2).2).2) in
    let asked = went done.1 in
    let wrote = went asked.2 in
    let a : IsAnswer trim_query (overlay db []) params asked.0 = asked.1.answer Null in
    let step = one_step record_schema keys db wrote.0 (edit_of db record_table (ids_of asked.0) Given 0 []) refl wrote.1 in
    let ended : done.0.trees ≡ wrote.0 = ap (λ (it : Written). it.trees) (same_value wrote.2) in
    let kept : a.kept ≡ outputs_between low high (db 0) = a.distinct ∙ ap (map (output trim_query)) a.grouped
    ∙ shown_numbers high (db 0) in (
      ap (λ (d : Database). d.schema) now,
      asked.0,
      a.ordered,
      subst (λ ks. IsPermutation ks a.ordered) kept a.same,
      a.shown,
      ap (λ (d : Database). d.trees 0) now ∙ ap (λ (t : Trees). t 0) ended ∙ step.rows,
    )

-- ---- which rows are left

between_has : (from high : List ℕ) (rows : List Row) (r : Row) → Has rows r → goes from high r ≡ true
    → Has (outputs_between from high rows) ([], column r 0 ∷ [])
between_has low high [] r h is = h
between_has low high (s ∷ rs) r (inl e) is =
    rw (ap (goes low high) (sym e) ∙ is) (inl (ap (λ (c : Row). ([], column c 0 ∷ [])) e))
between_has low high (s ∷ rs) r (inr h) is = go (goes low high s) (between_has low high rs r h is)
  where
    go : (b : Bool) → Has (outputs_between low high rs) ([], column r 0 ∷ [])
        → Has (if b then ([], column s 0 ∷ []) ∷ outputs_between low high rs else outputs_between low high rs) ([], column r 0 ∷ [])
    go true h = inr h
    go false h = h

has_between : (low high : List ℕ) (rows : List Row) (o : Output) → Has (outputs_between low high rows) o
    → (r : Row) × Has rows r × (goes low high r ≡ true) × (o.1 ≡ column r 0 ∷ [])
has_between low high [] o h = absurd h
has_between low high (s ∷ rs) o h = go (goes low high s) refl h (has_between low high rs o)
  where
    go : (b : Bool) → goes low high s ≡ b
        → Has (if b then ([], column s 0 ∷ []) ∷ outputs_between low high rs else outputs_between low high rs) o
        → (Has (outputs_between low high rs) o → (r : Row) × Has rs r × (goes low high r ≡ true) × (o.1 ≡ column r 0 ∷ []))
        → (r : Row) × Has (s ∷ rs) r × (goes low high r ≡ true) × (o.1 ≡ column r 0 ∷ [])
    go true e (inl x) later = (s, inl refl, e, ap (λ (p : Output). p.1) x)
    go true e (inr x) later = let it = later x in (it.0, inr it.1, it.2, it.3)
    go false e x later = let it = later x in (it.0, inr it.1, it.2, it.3)

-- a row stays whose number is none of these
stays : (ids : List ℤ) (rows : List Row) (r : Row) → Has rows r → ((id : ℤ) → Has ids id → has_rowid id r ≡ false)
    → Has (without_all rows ids) r
stays [] rows r h apart = h
stays (id ∷ ids) rows r h apart =
    stays ids (without_rowid id rows) r (has_kept _ rows r h (ap not (apart id (inl refl)))) (λ i x. apart i (inr x))

-- and one goes whose number is one of them
left_apart : (ids : List ℤ) (rows : List Row) (r : Row) → Has (without_all rows ids) r → (id : ℤ) → Has ids id → has_rowid id r ≡ false
left_apart [] rows r h id x = absurd x
left_apart (i ∷ ids) rows r h id (inl same) =
    let was = without_all_has ids (without_rowid i rows) r h in
    subst (λ j. has_rowid j r ≡ false) (sym same) (not-true _ (has_filtered _ rows r was).1)
left_apart (i ∷ ids) rows r h id (inr x) = left_apart ids (without_rowid i rows) r h id x

ascending_left : (R : Row → Row → Type 0) (ids : List ℤ) (rows : List Row) → IsAscending R rows → IsAscending R (without_all rows ids)
ascending_left R [] rows up = up
ascending_left R (id ∷ ids) rows up = ascending_left R ids (without_rowid id rows) (ascending-filter R _ rows up)

all_left : (P : Row → Type 0) (ids : List ℤ) (rows : List Row) → AllByRecursion P rows → AllByRecursion P (without_all rows ids)
all_left P [] rows all = all
all_left P (id ∷ ids) rows all = all_left P ids (without_rowid id rows) (all-filter P _ rows all)

-- two rows with one number are one row
pub same_numbered : (rows : List Row) (a b : Row) → HasOwnNumbers rows → Has rows a → Has rows b → rowid a ≡ rowid b → a ≡ b
same_numbered [] a b own x y e = absurd x
same_numbered (r ∷ rs) a b own (inl x) (inl y) e = x ∙ sym y
same_numbered (r ∷ rs) a b own (inl x) (inr y) e =
    absurd (all_has (λ c. rowid r ≢ rowid c) rs b own.0 y (ap rowid (sym x) ∙ e))
same_numbered (r ∷ rs) a b own (inr x) (inl y) e =
    absurd (all_has (λ c. rowid r ≢ rowid c) rs a own.0 x (ap rowid (sym y) ∙ sym e))
same_numbered (r ∷ rs) a b own (inr x) (inr y) e = same_numbered rs a b own.1 x y e

module _ (high : List ℕ) (old : List Row) (own : HasOwnKeys old) (numbered : AreNumbered old) (own_numbers : HasOwnNumbers old)
    (rows : List Row) (ordered : List Output) (same : IsPermutation (outputs_between low high old) ordered)
    (shown : rows ≡ map (λ (o : Output). o.1) ordered) where
  -- a number that is taken out is that of a row that goes
  taken : (id : ℤ) → Has (ids_of rows) id → (r : Row) × Has old r × (goes low high r ≡ true) × (rowid r ≡ Int id)
  taken id h =
      let row = mapped_has (λ (r : Row). id_in (rowid r)) rows id h in
      let o = mapped_has (λ (p : Output). p.1) ordered row.0 (subst (λ rs. Has rs row.0) shown row.1) in
      let r = has_between low high old o.0 (has_permuted ordered (outputs_between low high old) o.0 (IsPermutation-sym _ _ same) o.1) in
      let first : rowid row.0 ≡ rowid r.0 = ap (λ (c : Row). column c 0) (o.2 ∙ r.3) in
      (r.0, r.1, r.2, int_is (rowid r.0) (all_has _ old r.0 numbered r.1) ∙ ap Int (sym (row.2 ∙ ap id_in first)))

  -- each row that goes has its number taken out
  taken_out : (r : Row) → Has old r → goes low high r ≡ true → Has (ids_of rows) (id_in (rowid r))
  taken_out r h is =
      let o = has_permuted (outputs_between low high old) ordered _ same (between_has low high old r h is) in
      has_mapped (λ (c : Row). id_in (rowid c)) rows (column r 0 ∷ [])
      (subst (λ rs. Has rs (column r 0 ∷ [])) (sym shown) (has_mapped (λ (p : Output). p.1) ordered _ o))

  has_own : (r : Row) → Has old r → has_rowid (id_in (rowid r)) r ≡ true
  has_own r h = let int = int_is (rowid r) (all_has _ old r numbered h) in
      ap (λ v. is_eq (value_cmp v (Int (id_in (rowid r))))) int ∙ alike (Int (id_in (rowid r)))

  pub trimmed : TrimsRows low high old (without_all old (ids_of rows))
  trimmed = record {
    own_keys = ascending_left RowsAreApart (ids_of rows) old own;
    numbered = all_left (λ r. is_int (rowid r) ≡ true) (ids_of rows) old numbered;
    own_numbers = ascending_left (λ a b. rowid a ≢ rowid b) (ids_of rows) old own_numbers;
    kept = λ r h is. stays (ids_of rows) old r h (λ id x. elim (cases_Bool (has_rowid id r)) [
      | inl hit ↦
          let it = taken id x in
          let int = int_is (rowid r) (all_has _ old r numbered h) in
          let number : rowid r ≡ Int id = int ∙ ap Int (int_tied (id_in (rowid r)) id
          (subst (λ v. is_eq (value_cmp v (Int id)) ≡ true) int hit)) in
          let one : r ≡ it.0 = same_numbered old r it.0 own_numbers h it.1 (number ∙ sym it.3) in
          absurd (true≢false (sym it.2 ∙ ap (goes low high) (sym one) ∙ is))
      | inr other ↦ other
    ]);
    was = λ r h. let there = without_all_has (ids_of rows) old r h in (
      there,
      elim (cases_Bool (goes low high r)) [
        | inl hit ↦ absurd (true≢false (sym (has_own r there) ∙ left_apart (ids_of rows) old r h _ (taken_out r there hit)))
        | inr none ↦ none
      ],
    );
  }
