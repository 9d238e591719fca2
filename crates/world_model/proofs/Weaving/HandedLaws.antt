-- A storage that is handed on from process to process keeps the laws of storages.
use Rattle.std.proofs.Common.{inl, inr, refl, ap, ◌∙◌, arith}
use Rattle.stable.specs.Records.{Change, changed}
use Rattle.stable.specs.declared.stable.Stable.{Ghosts}
use Rattle.stable.specs.Storages.{IsLawful}
use Rattle.stable.specs.StrayLaws.{stray_after, stray_before}
use Rattle.world_model.specs.HandedOn.{handed_on, HoldsStill, HoldsChanged, MayHoldChanged}

module _ {S : Type 0} (storages : Ghosts S) where
  pub still : (a : S) → HoldsStill storages a a
  still a = record { honest = λ h. h; records = λ h. refl; stray = λ h. (λ x. x, λ x. x) }

  then_still : (a b c : S) → HoldsStill storages a b → HoldsStill storages b c → HoldsStill storages a c
  then_still a b c r s = record {
    honest = λ h. r.honest (s.honest h);
    records = λ h. s.records h ∙ r.records (s.honest h);
    stray = λ h. let one = r.stray (s.honest h) in let two = s.stray h in (λ x. one.0 (two.0 x), λ x. two.1 (one.1 x));
  }

  still_changed : (a b c : S) (change : Change) → HoldsStill storages a b → HoldsChanged storages b change c
      → HoldsChanged storages a change c
  still_changed a b c change r p = record {
    honest = λ h. r.honest (p.honest h);
    records = λ h. p.records h ∙ ap (λ records. changed records change) (r.records (p.honest h));
    stray = λ h. stray_after _ change (r.stray (p.honest h)) (p.stray h);
  }

  changed_still : (a b c : S) (change : Change) → HoldsChanged storages a change b → HoldsStill storages b c
      → HoldsChanged storages a change c
  changed_still a b c change p r = record {
    honest = λ h. p.honest (r.honest h);
    records = λ h. r.records h ∙ p.records (r.honest h);
    stray = λ h. stray_before _ change (p.stray (r.honest h)) (r.stray h);
  }

  still_may : (a b c : S) (change : Change) → HoldsStill storages a b → MayHoldChanged storages b change c
      → MayHoldChanged storages a change c
  still_may a b c change r f = record {
    honest = λ h. r.honest (f.honest h);
    records = λ h. elim (f.records h) [
      | inl same ↦ inl (same ∙ r.records (f.honest h))
      | inr made ↦ inr (made ∙ ap (λ records. changed records change) (r.records (f.honest h)))
    ];
    stray = λ h. stray_after _ change (r.stray (f.honest h)) (f.stray h);
  }

  pub handed_laws : IsLawful (handed_on storages)
  handed_laws = record {
    reads_honest = λ a b r h. r.0.honest h;
    reads_contents = λ a b r h. r.0.records h;
    reads_failures = λ a b r h. omega (arith, r.1);
    reads_stray = λ a b r h. r.0.stray h;
    reads_settled = λ a b r s. tt;
    read_fails_honest = λ a b f h. f.0.honest h;
    read_fails_contents = λ a b f h. f.0.records h;
    read_fails_failures = λ a b f h. omega (arith, f.1);
    read_fails_stray = λ a b f h. f.0.stray h;
    changes_honest = λ a b change p h. p.0.honest h;
    changes_contents = λ a b change p h. p.0.records h;
    changes_failures = λ a b change p h. omega (arith, p.1);
    changes_stray = λ a b change p h. p.0.stray h;
    changes_settled = λ a b change p. tt;
    fails_honest = λ a b change f h. f.0.honest h;
    fails_contents = λ a b change f h. f.0.records h;
    fails_failures = λ a b change f h. omega (arith, f.1);
    fails_stray = λ a b change f h. f.0.stray h;
    looks_reads = λ a b l. l;
    reads_none = λ a. (still a.storage, refl);
    reads_reads = λ a b c r s. (then_still a.storage b.storage c.storage r.0 s.0, s.1 ∙ r.1);
    reads_looks = λ a b c r s. (then_still a.storage b.storage c.storage r.0 s.0, s.1 ∙ r.1);
    looks_then_reads = λ a b c r s. (then_still a.storage b.storage c.storage r.0 s.0, s.1 ∙ r.1);
    reads_read_fails = λ a b c r f. (then_still a.storage b.storage c.storage r.0 f.0, omega (arith, r.1, f.1));
    reads_changes = λ a b c change r p. (still_changed a.storage b.storage c.storage change r.0 p.0, p.1 ∙ r.1);
    reads_fails = λ a b c change r f. (still_may a.storage b.storage c.storage change r.0 f.0, omega (arith, r.1, f.1));
    changes_reads = λ a b c change p r. (changed_still a.storage b.storage c.storage change p.0 r.0, r.1 ∙ p.1);
  }

-- what calls make of a lawful storage, by what it holds
module _ {S : Type 0} {storages : Ghosts S} (laws : IsLawful storages) where
  pub read_still : (a b : S) → storages.reads a b → HoldsStill storages a b
  read_still a b r =
      record { honest = laws.reads_honest a b r; records = laws.reads_contents a b r; stray = laws.reads_stray a b r }

  pub read_failed_still : (a b : S) → storages.read_fails a b → HoldsStill storages a b
  read_failed_still a b f = record {
    honest = laws.read_fails_honest a b f;
    records = laws.read_fails_contents a b f;
    stray = laws.read_fails_stray a b f;
  }

  pub changes_changed : (a b : S) (change : Change) → storages.changes a change b → HoldsChanged storages a change b
  changes_changed a b change p = record {
    honest = laws.changes_honest a b change p;
    records = laws.changes_contents a b change p;
    stray = laws.changes_stray a b change p;
  }

  pub fails_may : (a b : S) (change : Change) → storages.fails a change b → MayHoldChanged storages a change b
  fails_may a b change f = record {
    honest = laws.fails_honest a b change f;
    records = laws.fails_contents a b change f;
    stray = laws.fails_stray a b change f;
  }
