-- What is told of a run: its lines, its steps and the entries of the world's lists, each once and in order. A step has its frames behind it,
-- then its outcomes, and each outcome what it tells of: what was learnt, then replies, then answers.
use Rattle.std.specs.Prelude.{◌≡◌, ℕ, ◌+◌, min, List, [], ◌∷◌, ◌++◌, length, slice_get, Option, Some}
use Rattle.std.specs.Option.{option_map_or}
use Rattle.world_model.specs.Tallies.{learnt_told, replies_told, answers_told}
use Rattle.world_model.specs.declared.lists.StepOutcome.{StepOutcome}
use Rattle.story.specs.declared.entries.Entry.{Entry}
use Rattle.story.specs.declared.entries.Entry.TheVariants.{Line, Step as AStep, Frame, Outcome, Learnt, Replied, Answered}
use Rattle.story.specs.declared.entries.Told.{Told}
use Rattle.story.specs.declared.entries.Listing.{Listing}
use Rattle.story.specs.declared.ledger.Counts.{Counts}
use Rattle.story.specs.declared.ledger.LineBegin.{LineBegin}
use Rattle.story.specs.declared.ledger.Step.{Step}
use Rattle.story.specs.Counted.{no_counts, counts_before}

-- nothing is told
abbrev pub told_nothing : Told
told_nothing = record { lines = 0; steps = 0; counts = no_counts }

-- all that came of the steps before the next one is told
abbrev pub IsUpToDate : List Step → Told → Type 0
IsUpToDate steps t = t.counts ≡ counts_before steps t.steps

-- behind the entries es stand the next ones of one list, from number a up to before number b
pub data Follow (entry : ℕ → Entry) : ℕ → ℕ → List Entry → List Entry → Type 0 where
  no_more : (a : ℕ) (es : List Entry) → Follow entry a a es es
  one_more : (a b : ℕ) (es fs : List Entry) → Follow entry a b es fs → Follow entry a (b + 1) es (fs ++ entry b ∷ [])

-- behind es stands what was learnt, then replies, then answers
pub record FollowByKind (c d : Counts) (es fs : List Entry) : Type 0 where
  pub behind_learnt : List Entry
  pub behind_replies : List Entry
  pub learnt : Follow Learnt c.learnt d.learnt es behind_learnt
  pub replies : Follow Replied c.replies d.replies behind_learnt behind_replies
  pub answers : Follow Answered c.answers d.answers behind_replies fs

-- so much more is told as the outcome tells of, and no more than there is
abbrev pub counts_by : Counts → Option StepOutcome → Counts → Counts
counts_by ends o c = record c {
  learnt = min (c.learnt + option_map_or learnt_told o 0) ends.learnt;
  replies = min (c.replies + option_map_or replies_told o 0) ends.replies;
  answers = min (c.answers + option_map_or answers_told o 0) ends.answers;
}

-- behind es stand the next outcomes, each with what it tells of behind it
pub data FollowOutcomes (outcomes : List StepOutcome) (ends : Counts) : Counts → Counts → List Entry → List Entry → Type 0 where
  no_outcome : (c : Counts) (es : List Entry) → FollowOutcomes outcomes ends c c es es
  outcome : (c d e : Counts) (es fs gs : List Entry) → FollowOutcomes outcomes ends c d es fs
      → e ≡ counts_by ends (slice_get outcomes d.outcomes) d → FollowByKind d e (fs ++ Outcome d.outcomes ∷ []) gs
      → FollowOutcomes outcomes ends c (record e { outcomes = d.outcomes + 1 }) es gs

-- behind es stands what came of a step: its frames, its outcomes, and what none of them tells of
pub record FollowStep (outcomes : List StepOutcome) (c ends : Counts) (es fs : List Entry) : Type 0 where
  pub behind_frames : List Entry
  pub behind_outcomes : List Entry
  pub told : Counts
  pub frames : Follow Frame c.frames ends.frames es behind_frames
  pub each_outcome : FollowOutcomes outcomes ends (record c { frames = ends.frames }) told behind_frames behind_outcomes
  pub all_outcomes : told.outcomes ≡ ends.outcomes
  pub rest : FollowByKind told ends behind_outcomes fs

-- the entries tell so much
pub data Tells (lines : List LineBegin) (steps : List Step) (outcomes : List StepOutcome) : List Entry → Told → Type 0 where
  none : Tells lines steps outcomes [] told_nothing
  -- the next line, which begins with the next step
  line : (es : List Entry) (t : Told) (l : LineBegin) → Tells lines steps outcomes es t → slice_get lines t.lines ≡ Some l
      → l.step ≡ t.steps → IsUpToDate steps t
      → Tells lines steps outcomes (es ++ Line t.lines ∷ []) (record t { lines = t.lines + 1 })
  -- the next step, and what came of it
  step : (es fs : List Entry) (t : Told) (s : Step) → Tells lines steps outcomes es t → slice_get steps t.steps ≡ Some s
      → IsUpToDate steps t → FollowStep outcomes t.counts s.ends (es ++ AStep t.steps ∷ []) fs
      → Tells lines steps outcomes fs (record { lines = t.lines; steps = t.steps + 1; counts = s.ends })

-- they tell all of it
abbrev pub TellsAll : List LineBegin → List Step → List StepOutcome → List Entry → Type 0
TellsAll lines steps outcomes es = Tells lines steps outcomes es (record {
  lines = length lines;
  steps = length steps;
  counts = counts_before steps (length steps);
})

-- what told so much before, by these steps, tells so much now
pub record GoesOn (steps : List Step) (outcomes : List StepOutcome) (old new : Listing) : Type 0 where
  pub goes_on : (lines : List LineBegin) → Tells lines steps outcomes old.entries.items old.told
      → Tells lines steps outcomes new.entries.items new.told

-- nothing is told yet
pub record IsBegun (l : Listing) : Type 0 where
  pub entries : l.entries.items ≡ []
  pub told : l.told ≡ told_nothing
