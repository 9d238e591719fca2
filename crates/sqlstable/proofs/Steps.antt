-- What one statement does to the state.
use Rattle.std.proofs.Common.{◌≡◌, ◌⊎◌, ◌≤◌, inl, inr, ℕ, List, [], ◌∷◌, false, Option, Some, None, Ok, Err, Result, OnErr, OnOk, IfOk, IfErr, IsTrue}
use Rattle.std.proofs.Common.{refl, sym, ap, ◌∙◌, subst}
use Rattle.sqlite_value.specs.declared.value.Value.TheVariants.{Blob}
use Rattle.sqlite_value.specs.Order.{Row}
use Rattle.sqlite_disk.specs.Disk.{MoreFaults}
use Rattle.sqlite_schema.specs.declared.schema.Schema.{Schema}
use Rattle.sqlite_schema.specs.declared.command.Returning.{Returning}
use Rattle.sqlite_schema.specs.declared.command.Command.TheVariants.{CreateTable}
use Rattle.sqlite_resolve.specs.declared.compiled.Compiled.{Compiled}
use Rattle.sqlite_rules.specs.Edit.{next_rowid}
use Rattle.sqlite_trees.specs.Tree.{Trees}
use Rattle.sqlite_trees.specs.Objects.{catalog_tree}
use Rattle.sqlite.specs.declared.error.Error.{Error}
use Rattle.sqlite.specs.Effect.{Database}
use Rattle.sqlite.specs.State.{State, HasCleanDisk, Executes, IsUnchanged, FailsToQuery, FailsToShow, Shown, ShowsRows, mode_of}
use Rattle.sqlite.specs.Listing.{understood}
use Rattle.sqlite.proofs.Callers.{runs_as, IsPlain}
use Rattle.sqlstable.specs.Table.{record_schema, no_schema}
use Rattle.sqlstable.specs.States.{Leaves, TableIsSound, table, Follows, IsUsable}
use Rattle.sqlstable.specs.Rows.{HasOwnKeys, HasOwnNumbers, AreNumbered, PutsRow}
use Rattle.sqlstable.specs.Texts.{IsMaking, StatementPuts, put_command}
use Rattle.sqlstable.proofs.Listed.{lists_something}
use Rattle.sqlstable.proofs.Kept.{not_run, refused_keeps, executes_open}
use Rattle.sqlstable.proofs.Puts.{puts, creates}
use Rattle.sqlstable.proofs.OnePut.{one_put}

module _ (old new : State) where
  pub kept_open : Leaves old new → IsTrue new.is_open → IsTrue old.is_open
  kept_open (inl h) now = h.0.was_open
  kept_open (inr h) now = h.was_open now

  pub kept_sound : Leaves old new → IsTrue new.is_open → TableIsSound old → TableIsSound new × (table new ≡ table old)
  kept_sound (inl h) now s =
      let same : table new ≡ table old = ap (λ (d : Database). d.trees 0) h.0.now_is in (
        record {
          schema = ap (λ (d : Database). d.schema) h.0.now_is ∙ s.schema;
          autocommit = h.0.mode ∙ s.autocommit;
          committed_schema = ap (λ (d : Database). d.schema) h.0.committed_is ∙ s.committed_schema;
          committed = ap (λ (d : Database). d.trees 0) h.0.committed_is ∙ s.committed ∙ sym same;
          own_keys = subst HasOwnKeys (sym same) s.own_keys;
          numbered = subst AreNumbered (sym same) s.numbered;
          own_numbers = subst HasOwnNumbers (sym same) s.own_numbers;
          listed = λ none. s.listed (sym (ap (λ (d : Database). d.trees catalog_tree) h.0.committed_is) ∙ none);
        },
        same,
      )
  kept_sound (inr h) now s =
      let back = h.undone now in
      let same : table new ≡ table old = ap (λ (d : Database). d.trees 0) back.0 ∙ s.committed in (
        record {
          schema = ap (λ (d : Database). d.schema) back.0 ∙ s.committed_schema;
          autocommit = h.autocommit;
          committed_schema = ap (λ (d : Database). d.schema) back.1 ∙ s.committed_schema;
          committed = ap (λ (d : Database). d.trees 0) back.1 ∙ sym (ap (λ (d : Database). d.trees 0) back.0);
          own_keys = subst HasOwnKeys (sym same) s.own_keys;
          numbered = subst AreNumbered (sym same) s.numbered;
          own_numbers = subst HasOwnNumbers (sym same) s.own_numbers;
          listed = λ none. s.listed (sym (ap (λ (d : Database). d.trees catalog_tree) back.1) ∙ none);
        },
        same,
      )

  -- ---- the put

  module _ (sql : List ℕ) (put : StatementPuts sql) (k v : List ℕ) where
    pub put_made : (count : ℕ) → TableIsSound old → Executes sql (Blob k ∷ Blob v ∷ []) old new (Ok count) → PutsRow k v (table old) (table new)
    put_made count s h =
        let p = puts sql put old new k v count s.schema h in
        let one = one_put old.step_limit (mode_of old).keys (Blob k ∷ Blob v ∷ [])
        (next_rowid (old.now.trees 0)) k v old.now.trees p.1 s.own_keys s.numbered s.own_numbers refl p.3 in
        subst (PutsRow k v (table old)) (sym (ap (λ (t : Trees). t 0) p.2)) one

    pub put_sound : (count : ℕ) → TableIsSound old → Executes sql (Blob k ∷ Blob v ∷ []) old new (Ok count) → TableIsSound new
    put_sound count s h =
        let w = runs_as sql (Blob k ∷ Blob v ∷ []) old new record_schema s.schema put_command put.command put.bare count h in
        let p = puts sql put old new k v count s.schema h in
        let made = put_made count s h in
        let auto = s.autocommit in
        let done : new.committed ≡ new.now = w.shown.committed_is ∙ rw auto refl in
        record {
          schema = p.0;
          autocommit = w.shown.mode ∙ s.autocommit;
          committed_schema = ap (λ (d : Database). d.schema) done ∙ p.0;
          committed = ap (λ (d : Database). d.trees 0) done;
          own_keys = made.own_keys;
          numbered = made.numbered;
          own_numbers = made.own_numbers;
          listed = λ none. lists_something new.now p.0 w.sound (ap (λ (d : Database). d.trees catalog_tree) (sym done) ∙ none);
        }

    pub step_sound : (r : Result ℕ Error) → Executes sql (Blob k ∷ Blob v ∷ []) old new r → IsTrue new.is_open → TableIsSound old → TableIsSound new
    step_sound (Ok count) h now s = put_sound count s h
    step_sound (Err e) h now s = (kept_sound (refused_keeps old new sql _ e h) now s).0

    pub step_made : (r : Result ℕ Error) → Executes sql (Blob k ∷ Blob v ∷ []) old new r → TableIsSound old
        → OnOk r (PutsRow k v (table old) (table new))
    step_made (Ok count) h s = put_made count s h
    step_made (Err e) h s = tt

    pub step_refused : (r : Result ℕ Error) → Executes sql (Blob k ∷ Blob v ∷ []) old new r → IsTrue new.is_open → TableIsSound old
        → OnErr r (table new ≡ table old)
    step_refused (Ok count) h now s = tt
    step_refused (Err e) h now s = (kept_sound (refused_keeps old new sql _ e h) now s).1

  -- ---- a query

  fails_show : (sql : List ℕ) (c : Compiled) (params : Row) (e : Error) (what : Option Returning)
      → FailsToShow old new sql c params e what → Leaves old new
  fails_show sql c params e None h = inl h.3
  fails_show sql c params e (Some what) (inl h) = inl h.1
  fails_show sql c params e (Some what) (inr h) = inr h.3

  pub query_fails : (sql : List ℕ) (params : Row) (e : Error) → FailsToQuery sql params old new e → Leaves old new
  unfolding FailsToQuery
  query_fails sql params e (inl h) = not_run old new sql params e h
  query_fails sql params e (inr h) = fails_show sql h.0 _ e h.0.returning h.2

  rows_open : (sql : List ℕ) (c : Compiled) (params : Row) (rows : List Row) (what : Option Returning)
      → ShowsRows old new sql c params rows what → IsTrue old.is_open
  rows_open sql c params rows None h = h.3.0.was_open
  rows_open sql c params rows (Some what) h = h.1.shown.was_open

  pub shown_open : (sql : List ℕ) (params : Row) (rows : List Row) → Shown sql params old new rows → IsTrue old.is_open
  unfolding Shown
  shown_open sql params rows h = rows_open sql h.0 _ rows h.0.returning h.2

  pub shown_same : (sql : List ℕ) (params : Row) (schema : Schema) → old.now.schema ≡ schema → IsPlain (understood schema sql)
      → (rows : List Row) → Shown sql params old new rows → IsUnchanged old new
  unfolding Shown
  shown_same sql params schema has plain rows h =
      let bare = subst IsPlain (ap (λ s. understood s sql) (sym has) ∙ h.1.is) plain in
      (subst (ShowsRows old new sql h.0 _ rows) bare.0 h.2).3

  pub shown_keeps : (sql : List ℕ) (params : Row) (schema : Schema) → old.now.schema ≡ schema → IsPlain (understood schema sql)
      → (rows : List Row) → Shown sql params old new rows → Leaves old new
  shown_keeps sql params schema has plain rows h = inl (shown_same sql params schema has plain rows h)

  -- ---- what a caller keeps

  pub put_follows : (sql : List ℕ) (put : StatementPuts sql) (k v : List ℕ) (r : Result ℕ Error) → (HasCleanDisk new → HasCleanDisk old)
      → (old.faults ≤ new.faults)
      → (HasCleanDisk new → IsTrue old.is_open → IsTrue new.is_open ⊎ MoreFaults old.faults new.faults)
      → (HasCleanDisk new → Executes sql (Blob k ∷ Blob v ∷ []) old new r) → Follows old new
  put_follows sql put k v r clean faults closes ran = record {
    clean = clean;
    faults = faults;
    closes = closes;
    was_open = λ h now. executes_open old new sql (Blob k ∷ Blob v ∷ []) r (ran h) now;
    settled = λ was h now. step_sound sql put k v r (ran h) now
        (was (clean h) (executes_open old new sql (Blob k ∷ Blob v ∷ []) r (ran h) now));
  }

  module _ {X : Type 0} (rows_in : X → List Row) (sql : List ℕ) (params : Row) (plain : IsPlain (understood record_schema sql)) where
    query_open : (r : Result X Error) → IfOk r (λ x. Shown sql params old new (rows_in x)) → IfErr r (FailsToQuery sql params old new)
        → IsTrue new.is_open → IsTrue old.is_open
    query_open (Ok x) ok err now = shown_open sql params (rows_in x) ok
    query_open (Err e) ok err now = kept_open (query_fails sql params e err) now

    pub query_keeps : (r : Result X Error) → IfOk r (λ x. Shown sql params old new (rows_in x))
        → IfErr r (FailsToQuery sql params old new) → TableIsSound old → Leaves old new
    query_keeps (Ok x) ok err s = shown_keeps sql params record_schema s.schema plain (rows_in x) ok
    query_keeps (Err e) ok err s = query_fails sql params e err

    pub query_follows : (r : Result X Error) → (HasCleanDisk new → HasCleanDisk old)
        → (old.faults ≤ new.faults)
        → (HasCleanDisk new → IsTrue old.is_open → IsTrue new.is_open ⊎ MoreFaults old.faults new.faults)
        → (HasCleanDisk new → IfOk r (λ x. Shown sql params old new (rows_in x)))
        → (HasCleanDisk new → IfErr r (FailsToQuery sql params old new)) → Follows old new
    query_follows r clean faults closes ok err = record {
      clean = clean;
      faults = faults;
      closes = closes;
      was_open = λ h now. query_open r (ok h) (err h) now;
      settled = λ was h now. let s = was (clean h) (query_open r (ok h) (err h) now) in
          (kept_sound (query_keeps r (ok h) (err h) s) now s).0;
    }

    pub query_same : (r : Result X Error) → (HasCleanDisk new → IfOk r (λ x. Shown sql params old new (rows_in x)))
        → (HasCleanDisk new → IfErr r (FailsToQuery sql params old new)) → IsUsable new → TableIsSound old → table new ≡ table old
    query_same r ok err usable s = (kept_sound (query_keeps r (ok usable.0) (err usable.0) s) usable.1 s).1

  -- ---- the table is made

  pub create_sound : (sql : List ℕ) (making : IsMaking sql) (r : Result ℕ Error) → old.now.schema ≡ no_schema
      → old.in_transaction ≡ false → Executes sql [] old new r → OnOk r (TableIsSound new × (table new ≡ []))
  create_sound sql making (Err e) has auto h = tt
  create_sound sql making (Ok count) has auto h =
      let w = runs_as sql [] old new no_schema has CreateTable making.command making.bare count h in
      let made = creates sql making old new (Ok count) has h in
      let done : new.committed ≡ new.now = w.shown.committed_is ∙ rw auto refl in (
        record {
          schema = made.0;
          autocommit = w.shown.mode ∙ auto;
          committed_schema = ap (λ (d : Database). d.schema) done ∙ made.0;
          committed = ap (λ (d : Database). d.trees 0) done;
          own_keys = subst HasOwnKeys (sym made.1) tt;
          numbered = subst AreNumbered (sym made.1) tt;
          own_numbers = subst HasOwnNumbers (sym made.1) tt;
          listed = λ none. lists_something new.now made.0 w.sound (ap (λ (d : Database). d.trees catalog_tree) (sym done) ∙ none);
        },
        made.1,
      )

  pub create_open : (sql : List ℕ) (making : IsMaking sql) (r : Result ℕ Error) → old.now.schema ≡ no_schema
      → Executes sql [] old new r → OnOk r (IsTrue new.is_open)
  create_open sql making (Err e) has h = tt
  create_open sql making (Ok count) has h = (runs_as sql [] old new no_schema has CreateTable making.command making.bare count h).shown.is_open
