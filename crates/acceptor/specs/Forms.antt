-- Which bytes are a record: exactly a spelling, each field with a value that its type has.
use Rattle.std.specs.Prelude.{◌≡◌, ℕ, ◌≤◌, List, Some, IfSome}
use Rattle.synod.specs.declared.ballot.Ballot.{Ballot}
use Rattle.synod.specs.declared.slot.TheConstants.{SLOTS}
use Rattle.synod.specs.declared.vote.Vote.{Vote}
use Rattle.sessions.specs.Machines.{MachineState}
use Rattle.sessions.specs.Snapshots.{MachineFits, snapshot_bytes}
use Rattle.sessions.specs.declared.command.Command.{Command}
use Rattle.stable.specs.Records.{Records}
use Rattle.stable.specs.declared.key.Key.{Key}
use Rattle.stable.specs.declared.key.Key.TheVariants as key
use Rattle.wire.specs.Spelling as wire
pub use Rattle.wire.specs.Spelling.{CommandFits}
use Rattle.wire.specs.RecordForms.{Checkpointed, checkpoint_bytes}
use Rattle.acceptor.specs.Spelling.{ballot_bytes, vote_bytes}

-- the ballot may stand in a record, which serves the largest membership
abbrev pub BallotFitsRecord : Ballot → Type 0
BallotFitsRecord b = wire.BallotFits 7 b

pub record VoteFitsRecord (v : Vote Command) : Type 0 where
  pub ballot : BallotFitsRecord v.ballot
  pub command : CommandFits v.command

-- the bytes are the snapshot text of a machine
abbrev pub IsSnapshotText : List ℕ → Type 0
IsSnapshotText bytes = (m : MachineState) × MachineFits m × (snapshot_bytes m ≡ bytes)

pub record CheckpointFits (c : Checkpointed) : Type 0 where
  pub begun : 1 ≤ c.position
  pub in_log : c.position ≤ SLOTS
  pub promise : IfSome c.promise BallotFitsRecord
  pub text : IsSnapshotText c.text

-- the bytes are what a record under the key may be; a round is the proposer's, and is not read here
abbrev pub IsOfItsForm : Key → List ℕ → Type 0
IsOfItsForm key.Checkpoint bytes = (c : Checkpointed) × CheckpointFits c × (bytes ≡ checkpoint_bytes c)
IsOfItsForm key.Promise bytes = (b : Ballot) × BallotFitsRecord b × (bytes ≡ ballot_bytes b)
IsOfItsForm key.Round bytes = Unit {0}
IsOfItsForm (key.Vote slot) bytes = (v : Vote Command) × VoteFitsRecord v × (bytes ≡ vote_bytes v)

abbrev pub AreOfTheirForm : Records → Type 0
AreOfTheirForm records = (k : Key) → IfSome (records k) (IsOfItsForm k)

-- a record that is not of its form
abbrev pub HasDamagedRecord : Records → Type 0
HasDamagedRecord records = (k : Key) × (bytes : List ℕ) × (records k ≡ Some bytes) × ¬ IsOfItsForm k bytes
