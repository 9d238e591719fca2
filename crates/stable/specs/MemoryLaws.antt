-- The laws of records in memory.
use Rattle.std.proofs.Common.{◌∙◌, ap, refl, rules}
use Rattle.stable.specs.Memory.{in_memory}
use Rattle.stable.specs.Records.{changed}
use Rattle.stable.specs.Storages.{IsLawful}
use Rattle.stable.specs.StrayLaws.{stray_same}

pub stored_laws : IsLawful in_memory
stored_laws = record {
  reads_honest = λ a b r h. tt;
  reads_contents = λ a b r h. r;
  reads_failures = λ a b r h. search rules;
  reads_stray = λ a b r h. (λ s. s, λ s. s);
  reads_settled = λ a b r s. tt;
  read_fails_honest = λ a b f h. tt;
  read_fails_contents = λ a b f h. absurd f;
  read_fails_failures = λ a b f h. absurd f;
  read_fails_stray = λ a b f h. (λ s. s, λ s. s);
  changes_honest = λ a b change p h. tt;
  changes_contents = λ a b change p h. p;
  changes_failures = λ a b change p h. search rules;
  changes_stray = λ a b change p h. stray_same change (λ s. s, λ s. s);
  changes_settled = λ a b change p. tt;
  fails_honest = λ a b change f h. tt;
  fails_contents = λ a b change f h. absurd f;
  fails_failures = λ a b change f h. absurd f;
  fails_stray = λ a b change f h. stray_same change (λ s. s, λ s. s);
  looks_reads = λ a b l. l;
  reads_none = λ a. refl;
  reads_reads = λ a b c r s. s ∙ r;
  reads_looks = λ a b c r l. l ∙ r;
  looks_then_reads = λ a b c l r. r ∙ l;
  reads_read_fails = λ a b c r f. f;
  reads_changes = λ a b c change r p. p ∙ ap (λ m. changed m change) r;
  reads_fails = λ a b c change r f. f;
  changes_reads = λ a b c change p r. r ∙ p;
}
