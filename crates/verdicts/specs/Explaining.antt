-- Which lists of commands explain what transcripts tell.
--
-- A transcript doesn't say which query an answer answers. It is the answer to some `query` line for its node.
use Rattle.std.specs.Prelude.{◌≡◌, ℕ, ◌+◌, ◌≤◌, max, List, [], ◌∷◌, length, take, slice_get, Contains, All, Some}
use Rattle.std.specs.Option.{option_map}
use Rattle.sessions.specs.declared.submission.Submission.{Submission}
use Rattle.sessions.specs.Meaning.{RepliesAt, Answers}
use Rattle.sessions.specs.declared.command.Command.{Command}
use Rattle.sessions.specs.declared.command.Command.TheVariants as command
use Rattle.verdicts.specs.declared.lines.LearnLine.{LearnLine}
use Rattle.verdicts.specs.declared.lines.Name.{Name}
use Rattle.verdicts.specs.declared.lines.Name.TheVariants.{NoOp, Request}
use Rattle.verdicts.specs.declared.lines.Told.{Told}
use Rattle.verdicts.specs.declared.lines.Told.TheVariants.{Reply, Answer, Restore, Other, Foreign}
use Rattle.verdicts.specs.declared.lines.ToldLine.{ToldLine}
use Rattle.verdicts.specs.declared.lines.Question.{Question}

-- ---- how far the lines reach
-- the position that a line tells: behind the slot that was learnt, of an answer, or of a restored text
abbrev pub position_of : Told → ℕ
position_of (Answer node position text) = position
position_of (Restore position) = position
position_of _ = 0

abbrev pub greatest : {X : Type 0} → (X → ℕ) → List X → ℕ
greatest f [] = 0
greatest f (x ∷ xs) = max (f x) (greatest f xs)

-- the greatest position that lines tell
abbrev pub reach : List LearnLine → List ToldLine → ℕ
reach learns told =
    max (greatest (λ (learn : LearnLine). learn.slot + 1) learns) (greatest (λ (line : ToldLine). position_of line.told) told)

-- ---- lists
-- a no-op, or one of the requests
abbrev pub IsAmong : List Submission → Command → Type 0
IsAmong requests command.NoOp = Unit {0}
IsAmong requests (command.Request r) = Contains requests r

-- a list has so many slots, and at each a no-op or one of the requests
pub record IsList (requests : List Submission) (size : ℕ) (l : List Command) : Type 0 where
  pub slots : length l ≡ size
  pub among : All (IsAmong requests) l

-- ---- what it explains
abbrev pub name_of : Command → Name
name_of command.NoOp = NoOp
name_of (command.Request r) = Request r.client r.number

-- the command at the slot has this name
abbrev pub HasLearnt : List Command → LearnLine → Type 0
HasLearnt l learn = option_map name_of (slice_get l learn.slot) ≡ Some learn.name

-- some slot has the request, and its reply there has this code
pub record HasReply (l : List Command) (client number code : ℕ) : Type 0 where
  pub slot : ℕ
  pub request : Submission
  pub of_client : request.client ≡ client
  pub of_number : request.number ≡ number
  pub replies : RepliesAt l slot request code

-- after these commands the text answers one of the questions, which goes to the node
pub record AnswersOne (questions : List Question) (l : List Command) (node : ℕ) (text : List ℕ) : Type 0 where
  pub question : Question
  pub asked : Contains questions question
  pub of_node : question.node ≡ node
  pub answers : Answers l question.query text

abbrev pub HasAnswer : List Question → List Command → ℕ → ℕ → List ℕ → Type 0
HasAnswer questions l node position text = (position ≤ length l) × AnswersOne questions (take position l) node text

abbrev pub HasTold : List Question → List Command → Told → Type 0
HasTold questions l (Reply client number code) = HasReply l client number code
HasTold questions l (Answer node position text) = HasAnswer questions l node position text.items
HasTold questions l (Restore position) = Unit {0}
HasTold questions l Other = Unit {0}
HasTold questions l Foreign = ⊥

pub record Explains (requests : List Submission) (questions : List Question) (size : ℕ) (learns : List LearnLine) (told : List ToldLine)
    (l : List Command) : Type 0 where
  pub is_list : IsList requests size l
  pub learnt : All (HasLearnt l) learns
  pub others : All (λ (line : ToldLine). HasTold questions l line.told) told

-- some list explains these lines
pub record IsExplained (requests : List Submission) (questions : List Question) (size : ℕ) (learns : List LearnLine)
    (told : List ToldLine) : Type 0 where
  pub list : List Command
  pub explains : Explains requests questions size learns told list
