-- How far the lines after the first were read.
use Rattle.std.specs.Prelude.{◌≡◌, ℕ, List, ◌∷◌, ◌++◌}
use Rattle.schedule.specs.Causes.{WhyUnread}
use Rattle.schedule.specs.Codes.{IsLowestFault}
use Rattle.schedule.specs.Lines.{NumberedText, lines_of}
use Rattle.schedule.specs.Schedules.{ComesNext, SpellEach}
use Rattle.schedule.specs.Spelling.{Spells}
use Rattle.schedule.specs.Table.{HasFault, IsNodesLine}
use Rattle.schedule.specs.declared.replay_fault.ReplayCause.{ReplayCause}
use Rattle.schedule.specs.declared.replay_fault.ReplayFault.{ReplayFault}
use Rattle.schedule.specs.declared.schedule.ScheduleLine.{ScheduleLine}

-- the first lines of the list were read as these, and the others are left
pub record LinesAreRead (n : ℕ) (lines left : List NumberedText) (read : List ScheduleLine)
    : Type 0 where
  pub before : List NumberedText
  pub parts : lines ≡ before ++ left
  pub spelled : SpellEach n before read

-- why a line's text was not read
abbrev pub IsUnreadFor : ℕ → List ℕ → ReplayCause → Type 0
IsUnreadFor n text = WhyUnread (IsLowestFault (HasFault n text)) (Unit {0})

-- which line was not read, and why
pub record IsLineRefusal (n : ℕ) (line : NumberedText) (fault : ReplayFault) : Type 0 where
  pub number : fault.line ≡ line.number
  pub why : IsUnreadFor n line.text fault.cause

-- why the lines were not read
abbrev pub IsLaterRefusal : ℕ → List NumberedText → ReplayFault → Type 0
IsLaterRefusal n lines fault =
    (line : NumberedText) × ComesNext n lines line × IsLineRefusal n line fault

-- ---- line by line
-- a schedule of which the first line was read: which line of the file that was, how many nodes it says, and the lines that are left
pub record Unread : Type 0 where
  pub first : ℕ
  pub nodes : ℕ
  pub left : List NumberedText

-- of these bytes the first line was read, and all others are left
pub record IsBegun (bytes : List ℕ) (unread : Unread) : Type 0 where
  pub line : NumberedText
  pub lines : lines_of bytes ≡ line ∷ unread.left
  pub number : unread.first ≡ line.number
  pub nodes_line : IsNodesLine line.text unread.nodes

-- the next line is no longer left
pub record IsPassed (old : Unread) (line : NumberedText) (new : Unread) : Type 0 where
  pub next : old.left ≡ line ∷ new.left
  pub first : new.first ≡ old.first
  pub nodes : new.nodes ≡ old.nodes

-- it was read as this one
pub record IsReadAs (old : Unread) (line : ScheduleLine) (new : Unread) : Type 0 where
  pub text : NumberedText
  pub passed : IsPassed old text new
  pub number : text.number ≡ line.number
  pub spelled : Spells old.nodes text.text line.action

-- it was not read
pub record IsNextRefusal (old : Unread) (fault : ReplayFault) (new : Unread) : Type 0 where
  pub text : NumberedText
  pub passed : IsPassed old text new
  pub refusal : IsLineRefusal old.nodes text fault
