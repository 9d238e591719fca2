-- The records of stable storage: which bytes are one of its form, with the fields of frames among seven nodes, and
-- nothing after them.
use Rattle.std.specs.Prelude.{◌≡◌, ℕ, ◌<◌, ◌≤◌, ◌^◌, List, [], ◌∷◌, ◌++◌, Option, Some, None, IfSome, Ok}
use Rattle.byteorder.specs.Endian.{big_bytes}
use Rattle.synod.specs.declared.ballot.Ballot.{Ballot}
use Rattle.synod.specs.declared.slot.TheConstants.{SLOTS}
use Rattle.sessions.specs.declared.command.Command.{Command}
use Rattle.tpoint.specs.Ids.{IsId}
use Rattle.fields.specs.Reading.{◌>>=◌}
use Rattle.fields.specs.Spelling.{id_bytes}
use Rattle.wire.specs.Reading.{Read, ballot_at, command_at}
use Rattle.wire.specs.Spelling.{ballot_bytes, BallotFits, command_bytes, CommandFits}

-- the record of a promise: the ballot
pub record IsBallotRecord (bytes : List ℕ) (b : Ballot) : Type 0 where
  pub fits : BallotFits 7 b
  pub spelled : bytes ≡ ballot_bytes b

-- the record of a round: the round in eight bytes
pub record IsRoundRecord (bytes : List ℕ) (round : ℕ) : Type 0 where
  pub begun : 1 ≤ round
  pub fits : round < 2 ^ 64
  pub spelled : bytes ≡ big_bytes 8 round

-- the record of a vote: the ballot and the command; the slot stands in the record's key
pub record IsVoteRecord (bytes : List ℕ) (b : Ballot) (c : Command) : Type 0 where
  pub ballot : BallotFits 7 b
  pub command : CommandFits c
  pub spelled : bytes ≡ ballot_bytes b ++ command_bytes c

-- the bytes begin as the record of a vote for a put, up to the id of what is put
pub record PutBegins (bytes : List ℕ) : Type 0 where
  pub ballot : Ballot
  pub client : ℕ
  pub number : ℕ
  pub id : List ℕ
  pub rest : List ℕ
  pub ballot_fits : BallotFits 7 ballot
  pub begun : 1 ≤ number
  pub number_fits : number < 2 ^ 64
  pub is_id : IsId id
  pub spelled : bytes ≡ (ballot_bytes ballot ++ (1 ∷ client ∷ (big_bytes 8 number ++ 1 ∷ id_bytes id))) ++ rest

-- a ballot and a command, read from left to right
unfoldable pub choice_at : List ℕ → Read (Ballot × Command)
choice_at bytes = do
  ballot ← ballot_at 7 bytes
  command ← command_at ballot.1
  Ok ((ballot.0, command.0), command.1)

-- ---- checkpoints
-- what the record of a checkpoint holds: a position of the log, what was promised then, and the text of a database
pub record Checkpointed : Type 0 where
  pub position : ℕ
  pub promise : Option Ballot
  pub text : List ℕ

-- `00` where nothing is promised; else `01` and the ballot
abbrev pub promise_bytes : Option Ballot → List ℕ
promise_bytes None = 0 ∷ []
promise_bytes (Some b) = 1 ∷ ballot_bytes b

-- the position in four bytes, the promise, and the text up to the end
abbrev pub checkpoint_bytes : Checkpointed → List ℕ
checkpoint_bytes c = big_bytes 4 c.position ++ (promise_bytes c.promise ++ c.text)

-- the record of a checkpoint: behind its position and its promise come any bytes
pub record IsCheckpointRecord (bytes : List ℕ) (c : Checkpointed) : Type 0 where
  pub begun : 1 ≤ c.position
  pub in_log : c.position ≤ SLOTS
  pub promise : IfSome c.promise (BallotFits 7)
  pub spelled : bytes ≡ checkpoint_bytes c
