-- Which names lines `learn` give the slots.
use Rattle.std.specs.Prelude.{◌≡◌, ◌≢◌, ℕ, List, length, take, slice_get, All, Contains, Option, Some, None}
use Rattle.sessions.specs.declared.submission.Submission.{Submission}
use Rattle.sessions.specs.declared.command.Command.{Command}
use Rattle.verdicts.specs.Explaining.{IsAmong, IsList, HasLearnt, name_of}
use Rattle.verdicts.specs.RequestIndex.{IsAmbiguous}
use Rattle.verdicts.specs.declared.lines.LearnLine.{LearnLine}
use Rattle.verdicts.specs.declared.lines.Name.{Name}
use Rattle.verdicts.specs.declared.lines.Name.TheVariants as name
use Rattle.verdicts.specs.declared.placement.Named.{Named}
use Rattle.verdicts.specs.declared.placement.Named.TheVariants.{Only, Nobody, Several}
use Rattle.verdicts.specs.declared.placement.Placed.{Placed}
use Rattle.verdicts.specs.declared.placement.Placed.TheVariants.{Names, Ends}
use Rattle.verdicts.specs.declared.verdict.Verdict.{Verdict}
use Rattle.verdicts.specs.declared.verdict.Verdict.TheVariants.{Contradicted}

-- ---- commands by name
-- of no-ops and these requests, this one alone has the name
pub record IsOnly (requests : List Submission) (wanted : Name) (c : Command) : Type 0 where
  pub among : IsAmong requests c
  pub named : name_of c ≡ wanted
  pub only : (d : Command) → IsAmong requests d → name_of d ≡ wanted → d ≡ c

abbrev pub IsNamed : List Submission → Name → Named → Type 0
IsNamed requests wanted (Only c) = IsOnly requests wanted c
IsNamed requests wanted Nobody = (d : Command) → IsAmong requests d → name_of d ≢ wanted
IsNamed requests wanted (Several client number) =
    (wanted ≡ name.Request client number) × IsAmbiguous requests client number

-- a no-op or one of the requests has the name
pub record IsSubmitted (requests : List Submission) (wanted : Name) : Type 0 where
  pub command : Command
  pub among : IsAmong requests command
  pub named : name_of command ≡ wanted

-- ---- slots
abbrev pub SlotIsSubmitted : List Submission → Option Name → Type 0
SlotIsSubmitted requests None = Unit {0}
SlotIsSubmitted requests (Some wanted) = IsSubmitted requests wanted

-- one of the lines tells this name of the slot
pub record IsTold (learns : List LearnLine) (slot : ℕ) (wanted : Name) : Type 0 where
  pub line : LearnLine
  pub there : Contains learns line
  pub of_slot : line.slot ≡ slot
  pub of_name : line.name ≡ wanted

-- each slot has the name that the lines tell of it, if any does, and each name is a no-op's or a request's
pub record AreNames (requests : List Submission) (size : ℕ) (learns : List LearnLine) (names : List (Option Name)) : Type 0 where
  pub count : length names ≡ size
  pub submitted : All (SlotIsSubmitted requests) names
  pub learnt : All (λ (line : LearnLine). slice_get names line.slot ≡ Some (Some line.name)) learns
  pub told : (slot : ℕ) (wanted : Name) → slice_get names slot ≡ Some (Some wanted) → IsTold learns slot wanted

-- a line that comes after these brings the verdict: no list explains it too
abbrev pub IsEnd : List Submission → ℕ → List LearnLine → LearnLine → Verdict → Type 0
IsEnd requests size learns line (Contradicted place why) = (place ≡ line.place)
    × ((l : List Command) → IsList requests size l → All (HasLearnt l) learns → HasLearnt l line → ⊥)
IsEnd requests size learns line _ = ⊥

-- the verdict stands whatever else is told
pub record IsEarly (requests : List Submission) (size : ℕ) (learns : List LearnLine) (verdict : Verdict) : Type 0 where
  pub before : ℕ
  pub line : LearnLine
  pub there : slice_get learns before ≡ Some line
  pub list : List Command
  pub is_list : IsList requests size list
  pub learnt : All (HasLearnt list) (take before learns)
  pub ends : IsEnd requests size (take before learns) line verdict

abbrev pub IsPlaced : List Submission → ℕ → List LearnLine → Placed → Type 0
IsPlaced requests size learns (Names names) = AreNames requests size learns names.items
IsPlaced requests size learns (Ends verdict) = IsEarly requests size learns verdict
