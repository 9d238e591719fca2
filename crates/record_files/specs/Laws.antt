-- The laws of what is seen as a storage: where each of its calls is one of that storage's, they are its laws.
use Rattle.std.specs.Prelude.{ℕ}
use Rattle.stable.specs.Laws.{KeepsLaws}
use Rattle.stable.specs.Records.{Records, Change}

module _ {S T : Type 0} {contents : S → Records} {failures : S → ℕ} {IsHonest HasStrayKey IsSettled : S → Type 0}
    {reads looks : S → S → Type 0} {changes : S → Change → S → Type 0}
    {read_fails : S → S → Type 0} {fails : S → Change → S → Type 0} where
  pub seen_laws : (see : T → S) → KeepsLaws contents failures IsHonest HasStrayKey IsSettled reads looks changes read_fails fails
      → KeepsLaws (λ t. contents (see t)) (λ t. failures (see t)) (λ t. IsHonest (see t)) (λ t. HasStrayKey (see t))
      (λ t. IsSettled (see t)) (λ a b. reads (see a) (see b)) (λ a b. looks (see a) (see b)) (λ a change b. changes (see a) change (see b))
      (λ a b. read_fails (see a) (see b)) (λ a change b. fails (see a) change (see b))
  seen_laws see laws = record {
    reads_honest = λ a b. laws.reads_honest (see a) (see b);
    reads_contents = λ a b. laws.reads_contents (see a) (see b);
    reads_failures = λ a b. laws.reads_failures (see a) (see b);
    reads_stray = λ a b. laws.reads_stray (see a) (see b);
    reads_settled = λ a b. laws.reads_settled (see a) (see b);
    read_fails_honest = λ a b. laws.read_fails_honest (see a) (see b);
    read_fails_contents = λ a b. laws.read_fails_contents (see a) (see b);
    read_fails_failures = λ a b. laws.read_fails_failures (see a) (see b);
    read_fails_stray = λ a b. laws.read_fails_stray (see a) (see b);
    changes_honest = λ a b. laws.changes_honest (see a) (see b);
    changes_contents = λ a b. laws.changes_contents (see a) (see b);
    changes_failures = λ a b. laws.changes_failures (see a) (see b);
    changes_stray = λ a b. laws.changes_stray (see a) (see b);
    changes_settled = λ a b. laws.changes_settled (see a) (see b);
    fails_honest = λ a b. laws.fails_honest (see a) (see b);
    fails_contents = λ a b. laws.fails_contents (see a) (see b);
    fails_failures = λ a b. laws.fails_failures (see a) (see b);
    fails_stray = λ a b. laws.fails_stray (see a) (see b);
    looks_reads = λ a b. laws.looks_reads (see a) (see b);
    reads_none = λ a. laws.reads_none (see a);
    reads_reads = λ a b c. laws.reads_reads (see a) (see b) (see c);
    reads_looks = λ a b c. laws.reads_looks (see a) (see b) (see c);
    looks_then_reads = λ a b c. laws.looks_then_reads (see a) (see b) (see c);
    reads_read_fails = λ a b c. laws.reads_read_fails (see a) (see b) (see c);
    reads_changes = λ a b c. laws.reads_changes (see a) (see b) (see c);
    reads_fails = λ a b c. laws.reads_fails (see a) (see b) (see c);
    changes_reads = λ a b c. laws.changes_reads (see a) (see b) (see c);
  }
