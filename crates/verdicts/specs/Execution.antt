-- What the first commands of a list reply and answer, and what that says of a line.
use Rattle.std.specs.Prelude.{◌≡◌, ◌↔◌, ℕ, ◌<◌, ◌≤◌, List, length, take, slice_get, Option, Some, None, All, IsTrue}
use Rattle.std.specs.BTreeSet.{BTreeSet, contains}
use Rattle.sessions.specs.declared.command.Command.{Command}
use Rattle.sessions.specs.Standing.{StandsFor}
use Rattle.verdicts.specs.Explaining.{HasAnswer, HasTold, HasReply}
use Rattle.verdicts.specs.RequestIndex.{reply_cmp}
use Rattle.verdicts.specs.Verdicts.{AreOpen, BeginsWith, RestsOn}
use Rattle.verdicts.specs.declared.examination.Contradiction.{Contradiction}
use Rattle.verdicts.specs.declared.examination.Finding.{Finding}
use Rattle.verdicts.specs.declared.examination.Finding.TheVariants.{Explained, Contradicted, Undecided}
use Rattle.verdicts.specs.declared.examination.Scan.{Scan}
use Rattle.verdicts.specs.declared.examination.Scan.TheVariants as scan
use Rattle.verdicts.specs.declared.execution.Cursor.{Cursor}
use Rattle.verdicts.specs.declared.lines.Told.{Told}
use Rattle.verdicts.specs.declared.lines.ToldLine.{ToldLine}
use Rattle.verdicts.specs.declared.lines.Question.{Question}

-- the set has the replies at all places of the list, and no others
pub record AreReplies (l : List Command) (replies : BTreeSet ((ℕ × ℕ) × ℕ)) : Type 0 where
  pub each : (client number code : ℕ) → IsTrue (contains reply_cmp replies ((client, number), code)) ↔ HasReply l client number code

-- the machine has executed the first commands of the list, so many as the position says
pub record IsAt (l : List Command) (cursor : Cursor) : Type 0 where
  pub within : cursor.position ≤ length l
  pub stands : StandsFor cursor.machine (take cursor.position l)

-- what an answer at a position is to the commands
abbrev pub IsAnswerFinding : List Question → ℕ → List Command → ℕ → ℕ → List ℕ → Finding → Type 0
IsAnswerFinding questions size commands node position text Explained =
    (l : List Command) → BeginsWith size commands l → HasAnswer questions l node position text
IsAnswerFinding questions size commands node position text (Contradicted why) =
    (l : List Command) → BeginsWith size commands l → ¬ (HasAnswer questions l node position text)
IsAnswerFinding questions size commands node position text Undecided = (length commands < size) × (length commands < position)

-- what a line is to them
abbrev pub IsFinding : List Question → ℕ → List Command → Told → Finding → Type 0
IsFinding questions size commands told Explained = (l : List Command) → BeginsWith size commands l → HasTold questions l told
IsFinding questions size commands told (Contradicted why) =
    (l : List Command) → BeginsWith size commands l → ¬ (HasTold questions l told)
IsFinding questions size commands told Undecided = (length commands < size) × RestsOn (length commands) told

-- the line stands behind that of the latest contradiction
abbrev pub IsLater : ℕ → Option Contradiction → Type 0
IsLater at None = Unit {0}
IsLater at (Some latest) = latest.at < at

-- each list that begins with the commands has not what the line tells, and, where the line is later, explains those before it
pub record IsContradiction (questions : List Question) (size : ℕ) (commands : List Command) (told : List ToldLine)
    (latest : Option Contradiction) (c : Contradiction) : Type 0 where
  pub line : ToldLine
  pub there : slice_get told c.at ≡ Some line
  pub contradicts : (l : List Command) → BeginsWith size commands l → ¬ (HasTold questions l line.told)
  pub explains : IsLater c.at latest → (l : List Command) → BeginsWith size commands l
      → All (λ (each : ToldLine). HasTold questions l each.told) (take c.at told)

-- what the lines are to them
abbrev pub IsScan : List Question → ℕ → List Command → List ToldLine → Option Contradiction → Scan → Type 0
IsScan questions size commands told latest scan.Explained =
    (l : List Command) → BeginsWith size commands l → All (λ (line : ToldLine). HasTold questions l line.told) told
IsScan questions size commands told latest (scan.Contradicted c) = IsContradiction questions size commands told latest c
IsScan questions size commands told latest scan.Undecided = AreOpen questions size told commands
