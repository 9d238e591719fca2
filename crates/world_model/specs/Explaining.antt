-- One list of commands explains everything that any node told.
use Rattle.std.specs.Prelude.{◌≡◌, ℕ, ◌+◌, ◌<◌, ◌≤◌, length, take, List, Some, Contains, slice_get}
use Rattle.synod.specs.declared.slot.TheConstants.{SLOTS}
use Rattle.sessions.specs.declared.submission.Submission.{Submission}
use Rattle.sessions.specs.Meaning.{RepliesAt, Answers}
use Rattle.sessions.specs.SessionReplies.{outcome_code}
use Rattle.sessions.specs.declared.command.Command.{Command}
use Rattle.world_model.specs.declared.lists.Submitted.{Submitted}
use Rattle.world_model.specs.declared.lists.LearntEntry.{LearntEntry}
use Rattle.world_model.specs.declared.lists.Replied.{Replied}
use Rattle.world_model.specs.declared.lists.Answered.{Answered}
use Rattle.world_model.specs.Submissions.{IsGrounded}

-- a reply is that of the list to such a request, at the place below the position
pub record ExplainsReply (l : List Command) (p : Replied) : Type 0 where
  pub place : ℕ
  pub below : p.position ≡ place + 1
  pub request : Submission
  pub of_client : request.client ≡ p.client
  pub of_number : request.number ≡ p.number
  pub replies : RepliesAt l place request (outcome_code p.reply)

-- an answer is that of the list's first entries, as many as its position says
pub record ExplainsAnswer (l : List Command) (a : Answered) : Type 0 where
  pub within : a.position ≤ length l
  pub answers : Answers (take a.position l) a.query a.text

-- the list explains what was learnt, replied and answered, and each of its commands is a no-op or was submitted
pub record Explains (l : List Command) (submitted : List Submitted) (learnt : List LearntEntry) (replies : List Replied)
    (answers : List Answered) : Type 0 where
  pub fits : length l ≤ SLOTS
  pub grounded : (i : ℕ) (c : Command) → slice_get l i ≡ Some c → IsGrounded submitted c
  pub entered : (t : LearntEntry) → Contains learnt t → slice_get l t.slot ≡ Some t.command
  pub replied : (p : Replied) → Contains replies p → ExplainsReply l p
  pub answered : (a : Answered) → Contains answers a → ExplainsAnswer l a

-- some list explains them
pub record IsExplained (submitted : List Submitted) (learnt : List LearntEntry) (replies : List Replied)
    (answers : List Answered) : Type 0 where
  pub log : List Command
  pub explains : Explains log submitted learnt replies answers

-- ---- what has to be known for that
-- whatever was learnt was learnt at a slot of the log
abbrev pub LearntInLog : List LearntEntry → Type 0
LearntInLog learnt = (t : LearntEntry) → Contains learnt t → t.slot < SLOTS

-- no two nodes learnt different commands for one slot
abbrev pub LearntAgree : List LearntEntry → Type 0
LearntAgree learnt = (t u : LearntEntry) → Contains learnt t → Contains learnt u → t.slot ≡ u.slot → t.command ≡ u.command

-- whatever was learnt is a no-op, or was submitted
abbrev pub LearntGrounded : List Submitted → List LearntEntry → Type 0
LearntGrounded submitted learnt = (t : LearntEntry) → Contains learnt t → IsGrounded submitted t.command
