-- How an acceptor is made of its records, one after the other.
use Rattle.std.specs.Prelude.{◌≡◌, ℕ, List, [], ◌∷◌, length, Option, Some, None, MatchOption, ◌==◌, if◌then◌else◌, nat_lt}
use Rattle.std.specs.List.{list_any}
use Rattle.synod.specs.Ballots.{rank}
use Rattle.synod.specs.declared.ballot.Ballot.{Ballot}
use Rattle.sessions.specs.Machines.{MachineState}
use Rattle.sessions.specs.Sessions.{session_of}
use Rattle.sessions.specs.Snapshots.{IsSnapshot, snapshot_bytes}
use Rattle.sessions.specs.Standing.{StandsFor}
use Rattle.sessions.specs.declared.command.Command.{Command}
use Rattle.stable.specs.Records.{Records}
use Rattle.stable.specs.Records as stable
use Rattle.stable.specs.declared.key.Key.{Key}
use Rattle.stable.specs.declared.key.Key.TheVariants as key
use Rattle.wire.specs.RecordForms.{Checkpointed, checkpoint_bytes}
use Rattle.acceptor.specs.Forms.{CheckpointFits}
use Rattle.acceptor.specs.declared.records.Found.{Found}

-- the greater of a promise and a ballot
abbrev pub raised : Option Ballot → Ballot → Option Ballot
raised None b = Some b
raised (Some p) b = if nat_lt (rank p) (rank b) then Some b else Some p

-- the records that were seen before, and what the key was found to hold
abbrev pub with_seen : Records → Key → Option (List ℕ) → Records
with_seen seen key found q = if stable.rank q == stable.rank key then found else seen q

-- the records under these keys alone
abbrev pub records_at : Records → List Key → Records
records_at records keys q =
    if list_any (λ k. stable.rank q == stable.rank k) keys then records q else None

-- ---- with which commands a node begins
-- those of a checkpoint: as many as its position says, whose snapshot text it holds
pub record IsCheckpointOf (base : List Command) (bytes : List ℕ) : Type 0 where
  pub checkpoint : Checkpointed
  pub fits : CheckpointFits checkpoint
  pub spelled : bytes ≡ checkpoint_bytes checkpoint
  pub length_ : length base ≡ checkpoint.position
  pub text : IsSnapshot base checkpoint.text

-- the lists of commands with which a node may begin that has these records: those of its checkpoint, or the empty one without
abbrev pub IsBaseOf : Records → List Command → Type 0
IsBaseOf records base = MatchOption (records key.Checkpoint) (base ≡ []) (IsCheckpointOf base)

-- the machine stands for each of them
pub record MachineBeginsWith (records : Records) (m : MachineState) : Type 0 where
  pub stands : (base : List Command) → IsBaseOf records base → StandsFor m base

-- the machine of a checkpoint's text, whether any list of commands has that text or none; where there is no text, it has executed nothing
abbrev pub IsMachineOf : List ℕ → MachineState → Type 0
IsMachineOf [] m = (m.features ≡ []) × ((client : ℕ) → session_of m.sessions client ≡ None)
IsMachineOf (b ∷ bs) m = snapshot_bytes m ≡ b ∷ bs

-- what was found under key Checkpoint
abbrev pub checkpoint_found : Found → Checkpointed
checkpoint_found f = record { position = f.position; promise = f.promise; text = f.text.items }
