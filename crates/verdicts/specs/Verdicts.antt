-- The verdict on transcripts.
--
-- Their lines are taken in this order: first the lines `learn`, of one transcript after another, and then all others.
use Rattle.std.specs.Prelude.{◌≡◌, ◌≢◌, ℕ, ◌+◌, ◌<◌, List, [], length, take, slice_get, Some, All, AllPairs, Any}
use Rattle.sessions.specs.declared.submission.Submission.{Submission}
use Rattle.sessions.specs.declared.command.Command.{Command}
use Rattle.verdicts.specs.Explaining.{HasLearnt, HasTold, IsAmong, IsExplained, name_of, reach}
use Rattle.verdicts.specs.RequestIndex.{IsAmbiguous}
use Rattle.verdicts.specs.declared.lines.LearnLine.{LearnLine}
use Rattle.verdicts.specs.declared.lines.Name.{Name}
use Rattle.verdicts.specs.declared.lines.Name.TheVariants.{NoOp, Request}
use Rattle.verdicts.specs.declared.lines.Place.{Place}
use Rattle.verdicts.specs.declared.lines.Told.{Told}
use Rattle.verdicts.specs.declared.lines.Told.TheVariants.{Reply, Answer}
use Rattle.verdicts.specs.declared.lines.ToldLine.{ToldLine}
use Rattle.verdicts.specs.declared.lines.Question.{Question}
use Rattle.verdicts.specs.declared.verdict.Verdict.{Verdict}
use Rattle.verdicts.specs.declared.verdict.Verdict.TheVariants.{Explained, Contradicted, UnlearntSlot, TwoOperations}

-- ---- contradictions
-- no list explains the lines up to the one at this place, and one explains those before
pub data IsFirstContradiction (requests : List Submission) (questions : List Question) (size : ℕ) (learns : List LearnLine)
    (told : List ToldLine) (place : Place) : Type 0 where
  at_learn : (k : ℕ) (line : LearnLine) → slice_get learns k ≡ Some line → place ≡ line.place
      → IsExplained requests questions size (take k learns) [] → ¬ (IsExplained requests questions size (take (k + 1) learns) [])
      → IsFirstContradiction requests questions size learns told place
  at_told : (k : ℕ) (line : ToldLine) → slice_get told k ≡ Some line → place ≡ line.place
      → IsExplained requests questions size learns (take k told) → ¬ (IsExplained requests questions size learns (take (k + 1) told))
      → IsFirstContradiction requests questions size learns told place

-- ---- what can't be decided
-- what is told rests on the slot: an answer behind it, or a reply, which names no position
abbrev pub RestsOn : ℕ → Told → Type 0
RestsOn slot (Answer node position text) = slot < position
RestsOn slot (Reply client number code) = Unit {0}
RestsOn slot _ = ⊥

-- a list of so many slots that begins with these commands
pub record BeginsWith (size : ℕ) (commands l : List Command) : Type 0 where
  pub slots : length l ≡ size
  pub begins : take (length commands) l ≡ commands

-- a line rests on the slot behind the commands, and each list that begins with them explains the lines before it
pub record AreOpen (questions : List Question) (size : ℕ) (told : List ToldLine) (commands : List Command) : Type 0 where
  pub below : length commands < size
  pub before : ℕ
  pub line : ToldLine
  pub there : slice_get told before ≡ Some line
  pub rests : RestsOn (length commands) line.told
  pub explained : (l : List Command) → BeginsWith size commands l
      → All (λ (earlier : ToldLine). HasTold questions l earlier.told) (take before told)

-- ---- choices among the operations of requests
-- requests of the name have different operations
abbrev pub IsOfSeveral : List Submission → Name → Type 0
IsOfSeveral requests NoOp = ⊥
IsOfSeveral requests (Request client number) = IsAmbiguous requests client number

-- a choice: at each slot from 0 on a no-op or a request, of the name that a line tells of the slot. It goes on until no line tells of
-- the next slot, or the name there is that of several operations
pub record IsChosen (requests : List Submission) (learns : List LearnLine) (commands : List Command) : Type 0 where
  pub among : All (IsAmong requests) commands
  pub learnt : (slot : ℕ) → slot < length commands → Any (λ (line : LearnLine). (line.slot ≡ slot) × HasLearnt commands line) learns
  pub ends : All (λ (line : LearnLine). line.slot ≡ length commands → IsOfSeveral requests line.name) learns

-- the commands alone don't explain the lines: no list that begins with them has what one tells, or they are open
pub data AreNotEnough (questions : List Question) (size : ℕ) (told : List ToldLine) (commands : List Command) : Type 0 where
  are_contradicted : Any (λ (line : ToldLine). (l : List Command) → BeginsWith size commands l → ¬ (HasTold questions l line.told)) told
      → AreNotEnough questions size told commands
  are_open : AreOpen questions size told commands → AreNotEnough questions size told commands

-- ---- a slot that is needed
-- no line tells what was learnt at the slot, and one does of each below it; and some choice, which ends there, is open
pub record IsNeeded (requests : List Submission) (questions : List Question) (size : ℕ) (learns : List LearnLine)
    (told : List ToldLine) (slot : ℕ) : Type 0 where
  pub unlearnt : All (λ (line : LearnLine). line.slot ≢ slot) learns
  pub first : (lower : ℕ) → lower < slot → Any (λ (line : LearnLine). line.slot ≡ lower) learns
  pub commands : List Command
  pub chosen : IsChosen requests learns commands
  pub ends_there : length commands ≡ slot
  pub open_there : AreOpen questions size told commands

-- ---- too many choices
-- those of the choices with which the list begins are open
abbrev pub IsInReach : List Question → ℕ → List ToldLine → List (List Command) → List Command → Type 0
IsInReach questions size told choices l =
    All (λ (commands : List Command). take (length commands) l ≡ commands → AreOpen questions size told commands) choices

-- the request was learnt, and is submitted with two operations
pub record HasTwoOperations (requests : List Submission) (learns : List LearnLine) (client number : ℕ) : Type 0 where
  pub learnt : Any (λ (line : LearnLine). line.name ≡ Request client number) learns
  pub ambiguous : IsAmbiguous requests client number

-- more than 65,536 choices, no two alike, none of which explains the lines; and a further one in their reach, which has a request of
-- this client and number
pub record AreTooMany (requests : List Submission) (questions : List Question) (size : ℕ) (learns : List LearnLine)
    (told : List ToldLine) (client number : ℕ) : Type 0 where
  pub tried : List (List Command)
  pub count : 65536 < length tried
  pub unlike : AllPairs (λ (a b : List Command). a ≢ b) tried
  pub chosen : All (IsChosen requests learns) tried
  pub failed : All (AreNotEnough questions size told) tried
  pub further : List Command
  pub further_chosen : IsChosen requests learns further
  pub has_request : Any (λ (c : Command). name_of c ≡ Request client number) further
  pub untried : All (λ (commands : List Command). commands ≢ further) tried
  pub in_reach : IsInReach questions size told tried further

-- ---- the verdict
-- some list explains all lines `learn`
abbrev pub AreLearnsExplained : List Submission → List Question → List LearnLine → List ToldLine → Type 0
AreLearnsExplained requests questions learns told = IsExplained requests questions (reach learns told) learns []

abbrev pub IsVerdict : List Submission → List Question → List LearnLine → List ToldLine → Verdict → Type 0
IsVerdict requests questions learns told Explained = IsExplained requests questions (reach learns told) learns told
IsVerdict requests questions learns told (Contradicted place why) =
    IsFirstContradiction requests questions (reach learns told) learns told place
IsVerdict requests questions learns told (UnlearntSlot slot) =
    AreLearnsExplained requests questions learns told × IsNeeded requests questions (reach learns told) learns told slot
IsVerdict requests questions learns told (TwoOperations client number) =
    AreLearnsExplained requests questions learns told × HasTwoOperations requests learns client number
    × AreTooMany requests questions (reach learns told) learns told client number
