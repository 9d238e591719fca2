-- How ballots, slots and commands are spelled by fields, and which values they may have. All numbers are big-endian.
use Rattle.std.specs.Prelude.{ℕ, ◌<◌, ◌≤◌, ◌^◌, List, [], ◌∷◌, ◌++◌}
use Rattle.byteorder.specs.Endian.{big_bytes}
use Rattle.synod.specs.declared.ballot.Ballot.{Ballot}
use Rattle.synod.specs.declared.slot.TheConstants.{SLOTS}
use Rattle.tpoint.specs.Ids.{IsId}
use Rattle.fields.specs.Spelling.{id_bytes, triple_bytes, TripleFits, sequence_bytes, SequenceFits}
use Rattle.store.specs.declared.op.Op.{Op}
use Rattle.store.specs.declared.op.Op.TheVariants.{Put, Append, Remove}
use Rattle.sessions.specs.declared.submission.Submission.{Submission}
use Rattle.sessions.specs.declared.request.TheConstants.{MOST_PUT_POINTS}
use Rattle.sessions.specs.declared.command.Command.{Command}
use Rattle.sessions.specs.declared.command.Command.TheVariants.{NoOp, Request}

-- ---- ballots, among so many nodes
-- the round in eight bytes, the node in one
abbrev pub ballot_bytes : Ballot → List ℕ
ballot_bytes b = big_bytes 8 b.round ++ b.node ∷ []

-- the round has its eight bytes, and is at least 1, as every ballot's is
pub record BallotFits (nodes : ℕ) (b : Ballot) : Type 0 where
  pub round : b.round < 2 ^ 64
  pub node : b.node < nodes

-- ---- slots
abbrev pub slot_bytes : ℕ → List ℕ
slot_bytes slot = big_bytes 4 slot

abbrev pub SlotFits : ℕ → Type 0
SlotFits slot = slot < SLOTS

-- ---- operations
-- `01` puts, `02` appends, `03` removes
abbrev pub op_bytes : Op → List ℕ
op_bytes (Put id seq) = 1 ∷ (id_bytes id ++ sequence_bytes seq)
op_bytes (Append a) = 2 ∷ (id_bytes a.id ++ triple_bytes a.point)
op_bytes (Remove id) = 3 ∷ id_bytes id

abbrev pub OpFits : Op → Type 0
OpFits (Put id seq) = IsId id × SequenceFits MOST_PUT_POINTS seq
OpFits (Append a) = IsId a.id × TripleFits a.point
OpFits (Remove id) = IsId id

-- ---- commands
-- the client in one byte, the number in eight, the operation
abbrev pub request_bytes : Submission → List ℕ
request_bytes r = r.client ∷ (big_bytes 8 r.number ++ op_bytes r.op)

pub record RequestFits (r : Submission) : Type 0 where
  pub client : r.client < 2 ^ 8
  pub begun : 1 ≤ r.number
  pub number : r.number < 2 ^ 64
  pub op : OpFits r.op

-- `00` is a no-op, and after `01` comes a request
abbrev pub command_bytes : Command → List ℕ
command_bytes NoOp = 0 ∷ []
command_bytes (Request r) = 1 ∷ request_bytes r

abbrev pub CommandFits : Command → Type 0
CommandFits NoOp = Unit {0}
CommandFits (Request r) = RequestFits r
