-- Reading from left to right: a value and the bytes after it, or the first fault that is met.
--
-- Each number is read whole and then tested by itself, before the next one is read. A test that compares with an
-- earlier part is made at the last number of the later one.
use Rattle.std.specs.Prelude.{◌≡◌, ℕ, ◌+◌, ◌-◌, ◌%◌, ◌<◌, ◌≤◌, ◌==◌}
use Rattle.std.specs.Prelude.{List, Result, Ok, Err, nat_le, if◌then◌else◌}
use Rattle.std.proofs.Common.{arith}
use Rattle.std.proofs.Math.Nat.{mod-lt}
use Rattle.fields.specs.Reading.{◌>>=◌, number_at, byte_at, id_at, triple_at, sequence_at}
use Rattle.fields.specs.declared.fault.FieldFault.{FieldFault}
use Rattle.synod.specs.declared.ballot.Ballot.{Ballot}
use Rattle.synod.specs.declared.slot.TheConstants.{SLOTS}
use Rattle.store.specs.declared.op.Op.{Op}
use Rattle.store.specs.declared.op.Op.TheVariants.{Put, Append, Remove}
use Rattle.sessions.specs.declared.submission.Submission.{Submission}
use Rattle.sessions.specs.declared.request.TheConstants.{MOST_PUT_POINTS}
use Rattle.sessions.specs.declared.command.Command.{Command}
use Rattle.sessions.specs.declared.command.Command.TheVariants.{NoOp, Request}
use Rattle.wire.specs.Faults.{widened}
use Rattle.wire.specs.declared.frames.fault.WireFault.{WireFault}
use Rattle.wire.specs.declared.frames.fault.WireFault.TheVariants.{Field, Memory}

-- what a function returned, seen by view, is what reading gives, unless memory ran out
abbrev pub Fails : {Y : Type 0} → WireFault → Result Y WireFault → Type 0
Fails Memory read = Unit {0}
Fails e read = read ≡ Err e

abbrev pub Gives : {X Y : Type 0} → (X → Y) → Result X WireFault → Result Y WireFault → Type 0
Gives view (Ok x) read = read ≡ Ok (view x)
Gives view (Err e) read = Fails e read

-- memory may be wanted: what stands there is no value, or brings what memory is taken for
abbrev pub ReadMayWant : {Y : Type 0} → (Y → Type 0) → Result Y WireFault → Type 0
ReadMayWant brings (Ok y) = brings y
ReadMayWant brings (Err e) = Unit {0}

-- a value and the bytes after it, or a fault
abbrev pub Read : Type 0 → Type 0
Read A = Result (A × List ℕ) WireFault

-- a field, read among frames: its value, or its fault as a frame's
abbrev pub wide : {A : Type 0} → Result A FieldFault → Result A WireFault
wide (Ok x) = Ok x
wide (Err e) = Err (widened e)

-- ---- ballots, among so many nodes
pub from_one : (round : ℕ) → 1 ≤ round - 1 + 1
from_one round = omega arith

pub of_seven : (node : ℕ) → node % 7 < 7
of_seven node = mod-lt node (omega arith)

-- the ballot of a round and a node, where the round is at least 1 and the node below 7
unfoldable pub ballot_of : ℕ → ℕ → Ballot
ballot_of round node =
    record { round = round - 1 + 1; node = node % 7; begun = from_one round; of_a_node = of_seven node }

unfoldable pub ballot_at : ℕ → List ℕ → Read Ballot
ballot_at nodes bytes = do
  round ← wide (number_at 8 bytes)
  if round.0 == 0 then Err Field else do
    node ← wide (byte_at round.1)
    if nat_le nodes node.0 then Err Field else Ok (ballot_of round.0 node.0, node.1)

-- ---- slots
unfoldable pub slot_at : List ℕ → Read ℕ
slot_at bytes = do
  slot ← wide (number_at 4 bytes)
  if nat_le SLOTS slot.0 then Err Field else Ok slot

-- ---- operations
unfoldable pub put_at : List ℕ → Read Op
put_at bytes = do
  id ← wide (id_at bytes)
  seq ← wide (sequence_at MOST_PUT_POINTS id.1)
  Ok (Put id.0 seq.0, seq.1)

unfoldable pub append_at : List ℕ → Read Op
append_at bytes = do
  id ← wide (id_at bytes)
  point ← wide (triple_at id.1)
  Ok (Append (record { id = id.0; point = point.0 }), point.1)

unfoldable pub remove_at : List ℕ → Read Op
remove_at bytes = do
  id ← wide (id_at bytes)
  Ok (Remove id.0, id.1)

unfoldable pub op_at : List ℕ → Read Op
op_at bytes = do
  byte ← wide (byte_at bytes)
  if byte.0 == 1 then put_at byte.1 else
      (if byte.0 == 2 then append_at byte.1 else
      (if byte.0 == 3 then remove_at byte.1 else Err Field))

-- ---- commands
-- the number of a request
unfoldable pub request_number_at : List ℕ → Read ℕ
request_number_at bytes = do
  number ← wide (number_at 8 bytes)
  if number.0 == 0 then Err Field else Ok number

unfoldable pub request_at : List ℕ → Read Submission
request_at bytes = do
  client ← wide (byte_at bytes)
  number ← request_number_at client.1
  op ← op_at number.1
  Ok (record { client = client.0; number = number.0; op = op.0 }, op.1)

unfoldable pub asked_at : List ℕ → Read Command
asked_at bytes = do
  request ← request_at bytes
  Ok (Request request.0, request.1)

unfoldable pub command_at : List ℕ → Read Command
command_at bytes = do
  byte ← wide (byte_at bytes)
  if byte.0 == 0 then Ok (NoOp, byte.1) else
      (if byte.0 == 1 then asked_at byte.1 else Err Field)
