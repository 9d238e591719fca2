-- Exit statuses.
use Rattle.std.specs.Prelude.{ℕ}
use Rattle.verdicts.specs.declared.verdict.Verdict.{Verdict}
use Rattle.verdicts.specs.declared.verdict.Verdict.TheVariants.{Explained, Contradicted, UnlearntSlot, TwoOperations}

-- the exit status of a program that prints the verdict
abbrev pub status_of : Verdict → ℕ
status_of Explained = 0
status_of (Contradicted place why) = 1
status_of (UnlearntSlot slot) = 3
status_of (TwoOperations client number) = 3
