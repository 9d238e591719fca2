-- The laws of a storage over the table.
use Rattle.std.proofs.Common.{ap, ◌∙◌, subst, sym, arith, refl, inl, inr, ◌≡◌, ◌↔◌, ℕ, ◌<◌, ◌≤◌, List, Option, IsSome, unwrap_or}
use Rattle.sqlite_value.specs.Order.{Row}
use Rattle.sqlite_disk.specs.Disk.{MoreFaults}
use Rattle.sqlite_trees.specs.declared.store.Store.{Ghosts}
use Rattle.stable.specs.Records.{changed}
use Rattle.stable.specs.Script.{counted}
use Rattle.stable.specs.ScriptLaws.{counted_before, counted_more}
use Rattle.stable.specs.Storages.{IsLawful}
use Rattle.stable.specs.StrayLaws.{stray_same, stray_after, stray_before}
use Rattle.sqlstable.specs.Keys.{records_in, HasStray}
use Rattle.sqlstable.specs.Storage.{in_table, TableReads, StaysHonest}
use Rattle.sqlstable.specs.declared.storage.SqlStable.{SqlStable}

same_strays : {a b : List Row} → b ≡ a → HasStray b ↔ HasStray a
same_strays e = (subst HasStray e, subst HasStray (sym e))

as_many : {m n : Option ℕ} → n ≡ m → unwrap_or m 0 ≤ unwrap_or n 0
as_many e = let count = ap (λ (count : Option ℕ). unwrap_or count 0) e in omega (arith, count)

one_more : (m : Option ℕ) {n : Option ℕ} → n ≡ counted m → IsSome n → unwrap_or m 0 < unwrap_or n 0
one_more m e h = rw e (counted_more m (subst IsSome e h))

-- a fault of the disk that was counted before is counted later
faults_later : (a b c : ℕ) → MoreFaults a b → b ≤ c → MoreFaults a c
faults_later a b c more le = omega (arith, more, le)

faults_before : (a b c : ℕ) → a ≤ b → MoreFaults b c → MoreFaults a c
faults_before a b c le more = omega (arith, le, more)

-- what stays so by each of two calls stays so by both
stays_both : {S : Type 0} (g : Ghosts S) (a b c : SqlStable S g) → StaysHonest g a b → StaysHonest g b c
    → (IsSome c.failures → IsSome b.failures) → StaysHonest g a c
stays_both g a b c r s counts = record {
  clean = λ h. r.clean (s.clean h);
  faults = omega (arith, r.faults, s.faults);
  stays = λ h some honest. elim (r.stays (s.clean h) (counts some) honest) [
    | inl still ↦ elim (s.stays h some still) [
      | inl end ↦ inl end
      | inr more ↦ inr (faults_before _ _ _ r.faults more)
    ]
    | inr more ↦ inr (faults_later _ _ _ more s.faults)
  ];
}

stays_none : {S : Type 0} (g : Ghosts S) (a : SqlStable S g) → StaysHonest g a a
stays_none g a = record { clean = λ h. h; faults = omega arith; stays = λ h some honest. inl honest }

-- two readings are one
reads_one : {S : Type 0} (g : Ghosts S) (a b c : SqlStable S g) → TableReads g a b → TableReads g b c → TableReads g a c
reads_one g a b c r s = record {
  disk = stays_both g a b c r.disk s.disk (λ some. subst IsSome s.failures some);
  honest = λ h. r.honest (s.honest h);
  rows = λ h. s.rows h ∙ r.rows (s.honest h);
  failures = s.failures ∙ r.failures;
}

module _ {S : Type 0} (g : Ghosts S) where
  pub table_laws : IsLawful (in_table g)
  table_laws = record {
    reads_honest = λ a b r h. r.honest h;
    reads_contents = λ a b r h. ap records_in (r.rows h);
    reads_failures = λ a b r h. as_many r.failures;
    reads_stray = λ a b r h. same_strays (r.rows h);
    reads_settled = λ a b r s. tt;
    read_fails_honest = λ a b f h. f.honest h;
    read_fails_contents = λ a b f h. ap records_in (f.rows h);
    read_fails_failures = λ a b f h. one_more a.failures f.failures h.counts;
    read_fails_stray = λ a b f h. same_strays (f.rows h);
    changes_honest = λ a b change p h. p.honest h;
    changes_contents = λ a b change p h. p.records h;
    changes_failures = λ a b change p h. as_many p.failures;
    changes_stray = λ a b change p h. p.stray h;
    changes_settled = λ a b change p. tt;
    fails_honest = λ a b change f h. f.honest h;
    fails_contents = λ a b change f h. inl (ap records_in (f.rows h));
    fails_failures = λ a b change f h. one_more a.failures f.failures h.counts;
    fails_stray = λ a b change f h. stray_same change (same_strays (f.rows h));
    looks_reads = λ a b l. l;
    reads_none = λ a. record { disk = stays_none g a; honest = λ h. h; rows = λ h. refl; failures = refl };
    reads_reads = reads_one g;
    reads_looks = reads_one g;
    looks_then_reads = reads_one g;
    reads_read_fails = λ a b c r f. record {
      disk = stays_both g a b c r.disk f.disk (λ some. counted_before b.failures (subst IsSome f.failures some));
      honest = λ h. r.honest (f.honest h);
      rows = λ h. f.rows h ∙ r.rows (f.honest h);
      failures = f.failures ∙ ap counted r.failures;
    };
    reads_changes = λ a b c change r p. record {
      disk = stays_both g a b c r.disk p.disk (λ some. subst IsSome p.failures some);
      honest = λ h. r.honest (p.honest h);
      records = λ h. p.records h ∙ ap (λ rows. changed (records_in rows) change) (r.rows (p.honest h));
      stray = λ h. stray_after _ change (same_strays (r.rows (p.honest h))) (p.stray h);
      failures = p.failures ∙ r.failures;
    };
    reads_fails = λ a b c change r f. record {
      disk = stays_both g a b c r.disk f.disk (λ some. counted_before b.failures (subst IsSome f.failures some));
      honest = λ h. r.honest (f.honest h);
      rows = λ h. f.rows h ∙ r.rows (f.honest h);
      failures = f.failures ∙ ap counted r.failures;
    };
    changes_reads = λ a b c change p r. record {
      disk = stays_both g a b c p.disk r.disk (λ some. subst IsSome r.failures some);
      honest = λ h. p.honest (r.honest h);
      records = λ h. ap records_in (r.rows h) ∙ p.records (r.honest h);
      stray = λ h. stray_before _ change (p.stray (r.honest h)) (same_strays (r.rows h));
      failures = r.failures ∙ p.failures;
    };
  }
