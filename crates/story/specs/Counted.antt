-- How long a world's lists are behind each step of a run, and with which step each line begins.
use Rattle.std.specs.Prelude.{◌≡◌, ℕ, zero, suc, ◌≤◌, List, slice_get, Option, Some, None}
use Rattle.story.specs.declared.ledger.Counts.{Counts}
use Rattle.story.specs.declared.ledger.LineBegin.{LineBegin}
use Rattle.story.specs.declared.ledger.Step.{Step}

-- the lists are empty
abbrev pub no_counts : Counts
no_counts = record { frames = 0; learnt = 0; replies = 0; answers = 0; outcomes = 0 }

abbrev pub ends_or_none : Option Step → Counts
ends_or_none None = no_counts
ends_or_none (Some s) = s.ends

-- how long the lists are before step k
abbrev pub counts_before : List Step → ℕ → Counts
counts_before steps zero = no_counts
counts_before steps (suc k) = ends_or_none (slice_get steps k)

-- no list is longer than it is there
pub record AreWithin (c ends : Counts) : Type 0 where
  pub frames : c.frames ≤ ends.frames
  pub learnt : c.learnt ≤ ends.learnt
  pub replies : c.replies ≤ ends.replies
  pub answers : c.answers ≤ ends.answers
  pub outcomes : c.outcomes ≤ ends.outcomes

-- no list gets shorter at a step
abbrev pub NeverFall : List Step → Type 0
NeverFall steps = (k : ℕ) (s : Step) → slice_get steps k ≡ Some s → AreWithin (counts_before steps k) s.ends

abbrev pub begin_or_zero : Option LineBegin → ℕ
begin_or_zero None = 0
begin_or_zero (Some l) = l.step

-- the step with which the line before line i begins
abbrev pub begin_before : List LineBegin → ℕ → ℕ
begin_before lines zero = 0
begin_before lines (suc i) = begin_or_zero (slice_get lines i)

-- lines begin one behind another, the last one with the step that is behind all of these or with one before it
pub record BeginInOrder (lines : List LineBegin) (steps : ℕ) : Type 0 where
  pub rise : (i : ℕ) (l : LineBegin) → slice_get lines i ≡ Some l → begin_before lines i ≤ l.step
  pub there : (i : ℕ) (l : LineBegin) → slice_get lines i ≡ Some l → l.step ≤ steps
