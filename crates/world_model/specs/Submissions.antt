-- What nodes took of clients, and which commands that makes.
use Rattle.std.specs.Prelude.{◌≡◌, ⊤, List, Contains}
use Rattle.store.specs.Operations.{OpIsValid}
use Rattle.sessions.specs.declared.submission.Submission.{Submission}
use Rattle.sessions.specs.declared.command.Command.{Command}
use Rattle.sessions.specs.declared.command.Command.TheVariants.{NoOp, Request}
use Rattle.world_model.specs.declared.lists.Submitted.{Submitted}

-- the command that a node took
abbrev pub command_of : Submitted → Command
command_of s = Request s.submission

-- a node took the request, operation included
pub record IsSubmitted (submitted : List Submitted) (r : Submission) : Type 0 where
  pub entry : Submitted
  pub taken : Contains submitted entry
  pub carries : entry.submission ≡ r

-- the command is a no-op, or was submitted
abbrev pub IsGrounded : List Submitted → Command → Type 0
IsGrounded submitted NoOp = ⊤
IsGrounded submitted (Request r) = IsSubmitted submitted r

-- what the requests bring that nodes took is valid: the sequence of a Put, and the coordinates of an Append
pub record BringValid (submitted : List Submitted) : Type 0 where
  pub each : (s : Submitted) → Contains submitted s → OpIsValid s.submission.op
