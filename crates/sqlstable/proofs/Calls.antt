-- What the calls of the storage come to.
use Rattle.std.proofs.Common.{◌≡◌, ◌≢◌, ℕ, ◌<◌, ◌≤◌, min, arith, inl, inr, true, false, List, [], ◌∷◌, Option, IsSome, Ok, Err, Result, IfOk, OnOk}
use Rattle.std.proofs.Common.{Contains, ◌↔◌, length, sym, ap, subst, ◌∙◌}
use Rattle.std.proofs.Math.Logic.{∥∥₁_elim}
use base.Stored.{Coded-set}
use mathlib.Core.Bool.{Bool-set}
use mathlib.Core.HLevel.{Π_prop, ¬_prop}
use Rattle.sqlite_value.specs.Order.{Row}
use Rattle.sqlite_trees.specs.View.{is_int}
use Rattle.sqlite_trees.specs.Tree.{rowid}
use Rattle.sqlite_trees.specs.Props.{rows_set, AllByRecursion-prop, IsAscending-prop}
use Rattle.sqlite_trees.specs.declared.store.Store.{Ghosts}
use Rattle.sqlite_schema.specs.declared.schema.Schema.{Schema}
use Rattle.sqlite_schema.specs.contracts.schema.Schema as schema_row
use Rattle.sqlite.specs.State.{State, HasCleanDisk}
use Rattle.sqlite_disk.specs.Disk.{MoreFaults}
use Rattle.sqlite.specs.Held.{Held, state}
use Rattle.sqlite_rules.specs.Lists.{Has}
use Rattle.stable.specs.declared.fault.StableFault.{StableFault}
use Rattle.stable.specs.Records.{KeysAscend}
use Rattle.stable.specs.Records.{Sets, Trims, without_votes_below}
use Rattle.stable.specs.Script.{counted}
use Rattle.stable.specs.ScriptLaws.{counted_before}
use Rattle.stable.specs.declared.key.Key.{Key}
use Rattle.sqlstable.specs.Table.{record_schema}
use Rattle.sqlstable.specs.Rows.{has_key, value_at, RowsAreApart, HasOwnKeys, PutsRow, TrimsRows}
use Rattle.sqlstable.specs.Lists.{ListsKeys}
use Rattle.sqlstable.specs.States.{TableIsSound, TableIsSettled, IsUsable, Follows, table}
use Rattle.sqlstable.specs.Keys.{spelled, is_valid, vote_key, records_in, HasStray, AreKeysOf, TellsNone}
use Rattle.sqlstable.specs.Storage.{StaysHonest, TableReads, TableReadFails, TableChanges}
use Rattle.sqlstable.specs.declared.storage.SqlStable.{SqlStable}
use Rattle.sqlstable.proofs.Keys.{puts_records, puts_stray, trims_records, trims_stray, at_most_all, keys_tell, keys_ascend, stray_row, no_stray_row}

Schema-set : IsSet Schema
Schema-set = Coded-set schema_row.the_row.coded

IsSound-prop : (s : State) → IsProp (TableIsSound s)
IsSound-prop s a b = λ i. record {
  schema = Schema-set s.now.schema record_schema a.schema b.schema i;
  autocommit = Bool-set s.in_transaction false a.autocommit b.autocommit i;
  committed_schema = Schema-set s.committed.schema record_schema a.committed_schema b.committed_schema i;
  committed = rows_set (s.committed.trees 0) (s.now.trees 0) a.committed b.committed i;
  listed = ¬_prop a.listed b.listed i;
  own_keys = IsAscending-prop RowsAreApart (λ x y. Π_prop (λ k. Π_prop (λ h. Bool-set (has_key k y) false)))
      (s.now.trees 0) a.own_keys b.own_keys i;
  numbered = AllByRecursion-prop (λ r. is_int (rowid r) ≡ true) (λ r. Bool-set (is_int (rowid r)) true)
      (s.now.trees 0) a.numbered b.numbered i;
  own_numbers = IsAscending-prop (λ x y. rowid x ≢ rowid y) (λ x y p q. ¬_prop p q)
      (s.now.trees 0) a.own_numbers b.own_numbers i;
}

IsSettled-prop : (s : State) → IsProp (TableIsSettled s)
IsSettled-prop s = Π_prop (λ clean. Π_prop (λ now. IsSound-prop s))

pub settled_is : (s : State) → ∥ TableIsSettled s ∥₁ → TableIsSettled s
settled_is s h = ∥∥₁_elim h (IsSettled-prop s) (λ x. x)

module _ {S : Type 0} (g : Ghosts S) (a : SqlStable S g) (now : Held S) where
  abbrev old : State
  old = state g a.connection

  abbrev new : State
  new = state g now

  pub sound_before : Follows old new → IsUsable new → TableIsSound old
  sound_before f usable = settled_is old a.settled (f.clean usable.0) (f.was_open usable.0 usable.1)

  pub usable_before : Follows old new → IsUsable new → IsUsable old
  usable_before f usable = (f.clean usable.0, f.was_open usable.0 usable.1)

  -- where the disk is clean it goes on being honest, but for a fault of the disk
  stays_honest : (b : SqlStable S g) → Follows old new → b.connection ≡ now → StaysHonest g a b
  stays_honest b f is = record {
    clean = λ h. f.clean (subst (λ c. HasCleanDisk (state g c)) is h);
    faults = subst (λ c. old.faults ≤ (state g c).faults) (sym is) f.faults;
    stays = λ h some honest. elim (f.closes (subst (λ c. HasCleanDisk (state g c)) is h) honest.usable.1) [
      | inl still ↦ inl (record {
        usable = subst (λ c. IsUsable (state g c)) (sym is) (subst (λ c. HasCleanDisk (state g c)) is h, still);
        counts = some;
      })
      | inr more ↦ inr (subst (λ c. MoreFaults old.faults (state g c).faults) (sym is) more)
    ];
  }

  -- a call that read
  pub read_made : (b : SqlStable S g) → Follows old new → (IsUsable new → TableIsSound old → table new ≡ table old) → b.connection ≡ now
      → b.failures ≡ a.failures → TableReads g a b
  read_made b f same is counts = record {
    disk = stays_honest b f is;
    honest = λ h. record {
      usable = usable_before f (subst (λ c. IsUsable (state g c)) is h.usable);
      counts = subst IsSome counts h.counts;
    };
    rows = λ h. let usable = subst (λ c. IsUsable (state g c)) is h.usable in ap (λ c. table (state g c)) is
        ∙ same usable (sound_before f usable);
    failures = counts;
  }

  -- a call on which the device failed
  pub read_failed : (b : SqlStable S g) → Follows old new → (IsUsable new → TableIsSound old → table new ≡ table old) → b.connection ≡ now
      → b.failures ≡ counted a.failures → TableReadFails g a b
  read_failed b f same is counts = record {
    disk = stays_honest b f is;
    honest = λ h. record {
      usable = usable_before f (subst (λ c. IsUsable (state g c)) is h.usable);
      counts = counted_before a.failures (subst IsSome counts h.counts);
    };
    rows = λ h. let usable = subst (λ c. IsUsable (state g c)) is h.usable in ap (λ c. table (state g c)) is
        ∙ same usable (sound_before f usable);
    failures = counts;
  }

  pub put_made : (key : Key) (bytes : List ℕ) (b : SqlStable S g) → is_valid key ≡ true → Follows old new
      → (IsUsable new → TableIsSound old → PutsRow (spelled key) bytes (table old) (table new)) → b.connection ≡ now
      → b.failures ≡ a.failures → TableChanges g a (Sets key bytes) b
  put_made key bytes b valid f made is counts = record {
    disk = stays_honest b f is;
    honest = λ h. record {
      usable = usable_before f (subst (λ c. IsUsable (state g c)) is h.usable);
      counts = subst IsSome counts h.counts;
    };
    records = λ h. let usable = subst (λ c. IsUsable (state g c)) is h.usable in
        ap (λ c. records_in (table (state g c))) is ∙ puts_records key bytes (table old) (table new) valid
        (made usable (sound_before f usable));
    stray = λ h. let usable = subst (λ c. IsUsable (state g c)) is h.usable in
        let both = puts_stray key bytes (table old) (table new) valid (made usable (sound_before f usable)) in
        (λ s. both.0 (subst (λ c. HasStray (table (state g c))) is s), λ s. subst (λ c. HasStray (table (state g c))) (sym is) (both.1 s));
    failures = counts;
  }

  pub trim_done : (below end : ℕ) (b : SqlStable S g) → end ≡ min below 65536 → Follows old new
      → (IsUsable new → TableIsSound old → TrimsRows (0x56 ∷ []) (vote_key end) (table old) (table new)) → b.connection ≡ now
      → b.failures ≡ a.failures → TableChanges g a (Trims below) b
  trim_done below end b at f made is counts = record {
    disk = stays_honest b f is;
    honest = λ h. record {
      usable = usable_before f (subst (λ c. IsUsable (state g c)) is h.usable);
      counts = subst IsSome counts h.counts;
    };
    records = λ h. let usable = subst (λ c. IsUsable (state g c)) is h.usable in
        ap (λ c. records_in (table (state g c))) is ∙ trims_records end (table old) (table new)
        (let most : min below 65536 ≤ 65536 = grind arith in omega (arith, at, most)) (made usable (sound_before f usable))
        ∙ ap (without_votes_below (records_in (table old))) at ∙ at_most_all below (table old);
    stray = λ h s. let usable = subst (λ c. IsUsable (state g c)) is h.usable in
        trims_stray end (table old) (table new) (made usable (sound_before f usable))
        (subst (λ c. HasStray (table (state g c))) is s);
    failures = counts;
  }

-- what a key has among the records
pub record_of : (key : Key) (rows : List Row) (o : Option (List ℕ)) → is_valid key ≡ true → o ≡ value_at (spelled key) rows
    → o ≡ records_in rows key
record_of key rows o valid e = rw valid e

pub on_ok : {X E : Type 0} {P : Type 0} (r : Result X E) → P → OnOk r P
on_ok (Ok x) h = h
on_ok (Err e) h = tt

module _ {X : Type 0} (keys_of : X → List Key) (rows_before rows slice : List Row) (same : slice ≡ rows)
    (own : HasOwnKeys rows_before) where
  pub if_told : (r : Result X StableFault) → IfOk r (λ x. AreKeysOf slice (keys_of x)) → ListsKeys rows_before rows
      → IfOk r (λ x. (k : Key) → Contains (keys_of x) k ↔ IsSome (records_in rows_before k))
  if_told (Ok x) told l = keys_tell rows_before rows (keys_of x) own l (subst (λ rs. AreKeysOf rs (keys_of x)) same told)
  if_told (Err e) told l = tt

  pub if_ascending : (r : Result X StableFault) → IfOk r (λ x. AreKeysOf slice (keys_of x)) → ListsKeys rows_before rows
      → IfOk r (λ x. KeysAscend (keys_of x))
  if_ascending (Ok x) told l = keys_ascend rows_before rows (keys_of x) own l (subst (λ rs. AreKeysOf rs (keys_of x)) same told)
  if_ascending (Err e) told l = tt

pub if_no_stray : {X : Type 0} (keys_of : X → List Key) (rows_before rows slice : List Row) → slice ≡ rows → (r : Result X StableFault)
    → IfOk r (λ x. AreKeysOf slice (keys_of x)) → ListsKeys rows_before rows → OnOk r (¬ HasStray rows_before)
if_no_stray keys_of rows_before rows slice same (Ok x) told l =
    no_stray_row rows_before rows (keys_of x) l (subst (λ rs. AreKeysOf rs (keys_of x)) same told)
if_no_stray keys_of rows_before rows slice same (Err e) told l = tt

pub stray_told : (rows_before rows slice : List Row) → slice ≡ rows → ListsKeys rows_before rows
    → (row : Row) × Has slice row × (0 < length row → TellsNone row) → HasStray rows_before
stray_told rows_before rows slice same l (row, h, none) =
    let there = subst (λ rs. Has rs row) same h in
    let from = l.from row there in
    stray_row rows_before rows row l there (none (subst (λ r. 0 < length r) (sym from.2) (omega arith)))
