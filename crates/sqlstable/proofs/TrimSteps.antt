-- What one trim does to the state.
use Rattle.std.proofs.Common.{◌≡◌, ◌⊎◌, ◌≤◌, ℕ, List, [], ◌∷◌, false, Ok, Err, Result, OnErr, OnOk, IsTrue, refl, sym, ap, ◌∙◌, subst}
use Rattle.sqlite_value.specs.declared.value.Value.TheVariants.{Blob}
use Rattle.sqlite_disk.specs.Disk.{MoreFaults}
use Rattle.sqlite_trees.specs.Objects.{catalog_tree}
use Rattle.sqlite.specs.declared.error.Error.{Error}
use Rattle.sqlite.specs.Effect.{Database}
use Rattle.sqlite.specs.State.{State, HasCleanDisk, Executes}
use Rattle.sqlite.proofs.Callers.{runs_as}
use Rattle.sqlstable.specs.Table.{record_schema}
use Rattle.sqlstable.specs.States.{TableIsSound, table, Follows}
use Rattle.sqlstable.specs.Rows.{TrimsRows}
use Rattle.sqlstable.specs.Texts.{IsTrim}
use Rattle.sqlstable.proofs.Listed.{lists_something}
use Rattle.sqlstable.proofs.Kept.{refused_keeps, executes_open}
use Rattle.sqlstable.proofs.Steps.{kept_sound}
use Rattle.sqlstable.proofs.Trims.{takes_out, trimmed}

module _ (old new : State) where
  module _ (sql : List ℕ) (trim : IsTrim sql) (high : List ℕ) where
    pub trim_made : (count : ℕ) → TableIsSound old → Executes sql (Blob high ∷ []) old new (Ok count)
        → TrimsRows (0x56 ∷ []) high (table old) (table new)
    trim_made count s h =
        let t = takes_out sql trim old new high count s.schema h in
        subst (TrimsRows (0x56 ∷ []) high (table old)) (sym t.5)
        (trimmed high (table old) s.own_keys s.numbered s.own_numbers t.1 t.2 t.3 t.4)

    pub trim_sound : (count : ℕ) → TableIsSound old → Executes sql (Blob high ∷ []) old new (Ok count) → TableIsSound new
    trim_sound count s h =
        let w = runs_as sql (Blob high ∷ []) old new record_schema s.schema _ trim.command trim.bare count h in
        let t = takes_out sql trim old new high count s.schema h in
        let made = trim_made count s h in
        let auto = s.autocommit in
        let done : new.committed ≡ new.now = w.shown.committed_is ∙ rw auto refl in
        record {
          schema = t.0;
          autocommit = w.shown.mode ∙ s.autocommit;
          committed_schema = ap (λ (d : Database). d.schema) done ∙ t.0;
          committed = ap (λ (d : Database). d.trees 0) done;
          own_keys = made.own_keys;
          numbered = made.numbered;
          own_numbers = made.own_numbers;
          listed = λ none. lists_something new.now t.0 w.sound (ap (λ (d : Database). d.trees catalog_tree) (sym done) ∙ none);
        }

    trim_step : (r : Result ℕ Error) → Executes sql (Blob high ∷ []) old new r → IsTrue new.is_open → TableIsSound old → TableIsSound new
    trim_step (Ok count) h now s = trim_sound count s h
    trim_step (Err e) h now s = (kept_sound old new (refused_keeps old new sql _ e h) now s).0

    pub trim_shown : (r : Result ℕ Error) → Executes sql (Blob high ∷ []) old new r → TableIsSound old
        → OnOk r (TrimsRows (0x56 ∷ []) high (table old) (table new))
    trim_shown (Ok count) h s = trim_made count s h
    trim_shown (Err e) h s = tt

    pub trim_refused : (r : Result ℕ Error) → Executes sql (Blob high ∷ []) old new r → IsTrue new.is_open → TableIsSound old
        → OnErr r (table new ≡ table old)
    trim_refused (Ok count) h now s = tt
    trim_refused (Err e) h now s = (kept_sound old new (refused_keeps old new sql _ e h) now s).1

    pub trim_follows : (r : Result ℕ Error) → (HasCleanDisk new → HasCleanDisk old)
        → (old.faults ≤ new.faults)
        → (HasCleanDisk new → IsTrue old.is_open → IsTrue new.is_open ⊎ MoreFaults old.faults new.faults)
        → (HasCleanDisk new → Executes sql (Blob high ∷ []) old new r) → Follows old new
    trim_follows r clean faults closes ran = record {
      clean = clean;
      faults = faults;
      closes = closes;
      was_open = λ h now. executes_open old new sql (Blob high ∷ []) r (ran h) now;
      settled = λ was h now. trim_step r (ran h) now
          (was (clean h) (executes_open old new sql (Blob high ∷ []) r (ran h) now));
    }
