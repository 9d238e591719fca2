-- Which bytes are the spelling of a schedule, and where else the first fault is.
use Rattle.std.specs.Prelude.{◌≡◌, ℕ, ◌-◌, Option, Some, None, List, [], ◌∷◌, ◌++◌, length, slice_get, All}
use Rattle.schedule.specs.Causes.{WhyUnread}
use Rattle.schedule.specs.Codes.{IsLowestFault}
use Rattle.schedule.specs.Lines.{NumberedText, lines_of}
use Rattle.schedule.specs.Spelling.{Spells}
use Rattle.schedule.specs.Table.{HasFault, HasFirstFault, IsNodesLine}
use Rattle.schedule.specs.declared.fault.ScheduleFault.{ScheduleFault}
use Rattle.schedule.specs.declared.fault.ScheduleFault.TheVariants.{NodesLine}
use Rattle.schedule.specs.declared.replay_fault.ReplayCause.{ReplayCause}
use Rattle.schedule.specs.declared.replay_fault.ReplayCause.TheVariants.{Schedule, World}
use Rattle.schedule.specs.declared.replay_fault.ReplayFault.{ReplayFault}
use Rattle.schedule.specs.declared.schedule.ScheduleLine.{ScheduleLine}

-- a run of so many nodes, as its first line says, and its lines after that, in order
pub record Plan : Type 0 where
  -- which line of the file is the first that is not empty, counted from 1
  pub first : ℕ
  pub nodes : ℕ
  pub lines : List ScheduleLine

-- the number of a line, or where there is none, another one
abbrev pub number_or : ℕ → Option ScheduleLine → ℕ
number_or other None = other
number_or other (Some line) = line.number

-- which line of the file is the last
abbrev pub last_number : Plan → ℕ
last_number plan = number_or plan.first (slice_get plan.lines (length plan.lines - 1))

-- the texts spell the actions, one by one, and have their numbers
abbrev pub SpellEach : ℕ → List NumberedText → List ScheduleLine → Type 0
SpellEach n [] [] = Unit {0}
SpellEach n [] (line ∷ lines) = ⊥
SpellEach n (text ∷ texts) [] = ⊥
SpellEach n (text ∷ texts) (line ∷ lines) =
    (text.number ≡ line.number) × Spells n text.text line.action × SpellEach n texts lines

-- the bytes are the spelling of the schedule
pub record IsScheduleOf (bytes : List ℕ) (plan : Plan) : Type 0 where
  pub first : NumberedText
  pub others : List NumberedText
  pub lines : lines_of bytes ≡ first ∷ others
  pub first_number : plan.first ≡ first.number
  pub nodes_line : IsNodesLine first.text plan.nodes
  pub spelled : SpellEach plan.nodes others plan.lines

-- nothing is wrong with the line
abbrev pub IsFaultless : ℕ → NumberedText → Type 0
IsFaultless n line = (fault : ScheduleFault) → ¬ (HasFault n line.text fault)

-- the line stands in the list after others with which nothing is wrong
pub record ComesNext (n : ℕ) (lines : List NumberedText) (line : NumberedText) : Type 0 where
  pub before : List NumberedText
  pub after : List NumberedText
  pub parts : lines ≡ before ++ line ∷ after
  pub faultless : All (IsFaultless n) before

-- the line comes after a right first line of n nodes, and after others with which nothing is wrong
pub record LineIsReached (bytes : List ℕ) (n : ℕ) (line : NumberedText) : Type 0 where
  pub first : NumberedText
  pub others : List NumberedText
  pub lines : lines_of bytes ≡ first ∷ others
  pub nodes_line : IsNodesLine first.text n
  pub next : ComesNext n others line

-- the line of this number is the first faulty one, and this is the lowest of its faults
pub data IsFirstFault (bytes : List ℕ) (number : ℕ) (fault : ScheduleFault) : Type 0 where
  no_line : lines_of bytes ≡ [] → number ≡ 1 → fault ≡ NodesLine → IsFirstFault bytes number fault
  first_line : (first : NumberedText) (others : List NumberedText) → lines_of bytes ≡ first ∷ others
      → number ≡ first.number → IsLowestFault (HasFirstFault first.text) fault
      → IsFirstFault bytes number fault
  later_line : (n : ℕ) (line : NumberedText) → LineIsReached bytes n line
      → number ≡ line.number → IsLowestFault (HasFault n line.text) fault
      → IsFirstFault bytes number fault

-- a line that was reached has this number
abbrev pub IsNumberReached : List ℕ → ℕ → Type 0
IsNumberReached bytes number =
    (n : ℕ) × (line : NumberedText) × (number ≡ line.number) × LineIsReached bytes n line

-- why the bytes were not read as a schedule
abbrev pub IsParseRefusal : List ℕ → ReplayFault → Type 0
IsParseRefusal bytes fault = WhyUnread (IsFirstFault bytes fault.line) (IsNumberReached bytes fault.line) fault.cause

-- where a faulty line is told, the bytes are no schedule's
abbrev pub IsNoSchedule : List ℕ → ReplayCause → Type 0
IsNoSchedule bytes (Schedule fault) = (plan : Plan) → ¬ (IsScheduleOf bytes plan)
IsNoSchedule bytes (World fault) = Unit {0}
