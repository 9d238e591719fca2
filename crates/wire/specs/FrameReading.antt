-- The envelope that bytes spell, or their first fault in reading order. Only their number is tested before all.
use Rattle.std.specs.Prelude.{Bool, ℕ, zero, suc, ◌+◌, ◌-◌, ◌/◌, ◌%◌, min, not, ◌==◌, ◌&&◌, ◌||◌, if◌then◌else◌, nat_lt, nat_le}
use Rattle.std.specs.Prelude.{List, [], ◌∷◌, length, Option, Some, None, Result, Ok, Err}
use Rattle.std.specs.List.{list_any}
use Rattle.synod.specs.Ballots.{rank}
use Rattle.synod.specs.declared.ballot.Ballot.{Ballot}
use Rattle.synod.specs.declared.vote.Vote.{Vote}
use Rattle.sessions.specs.declared.command.Command.{Command}
use Rattle.wire.specs.Kinds.{BodyField, a_ballot, a_slot, a_command, a_vote, a_refusal, a_promise, a_position, a_part_number, a_part}
use Rattle.wire.specs.Kinds.{Value, Values, version_of, byte_of, fields_of, kinds, message_with}
use Rattle.synod.specs.declared.slot.TheConstants.{SLOTS}
use Rattle.sessions.specs.declared.snapshot.TheConstants.{LONGEST_SNAPSHOT}
use Rattle.wire.specs.Parts.{Piece, is_total, offset_of}
use Rattle.wire.specs.Promises.{Promised, Refused}
use Rattle.wire.specs.declared.frames.part.TheConstants.{PART}
use Rattle.fields.specs.Reading.{◌>>=◌, number_at, byte_at, bytes_at}
use Rattle.wire.specs.Reading.{Read, wide, ballot_at, slot_at, command_at}
use Rattle.wire.specs.declared.frames.envelope.Envelope.{Envelope}
use Rattle.wire.specs.declared.frames.envelope.TheConstants.{MAGIC, LONGEST_FRAME}
use Rattle.wire.specs.declared.frames.fault.WireFault.{WireFault}
use Rattle.wire.specs.declared.frames.fault.WireFault.TheVariants.{Short, Magic, Version, Field, Trailing, Long, Memory}
use Rattle.wire.specs.declared.frames.fault.WireFault.TheVariants as fault
use Rattle.wire.specs.declared.frames.kind.Kind.{Kind}
use Rattle.wire.specs.declared.frames.kind.Kind.TheVariants as kind
use Rattle.wire.specs.declared.frames.message.Message.{Message}
use Rattle.wire.specs.declared.frames.promise.TheConstants.{MOST_ENTRIES}

-- ---- the head
-- frames may have this version: a kind has it
abbrev pub is_version : ℕ → Bool
is_version version = list_any (λ k. version == version_of k) kinds

-- the first two bytes, which are tested together, and the version that follows
unfoldable pub version_at : List ℕ → Read ℕ
version_at bytes = do
  magic ← wide (number_at 2 bytes)
  if not (magic.0 == MAGIC) then Err Magic else do
    version ← wide (byte_at magic.1)
    if not (is_version version.0) then Err Version else Ok version

-- the kind of this version with this byte, if it is among these
abbrev pub found_among : List Kind → ℕ → ℕ → Option Kind
found_among [] version byte = None
found_among (k ∷ ks) version byte =
    if version == version_of k && byte == byte_of k then Some k else found_among ks version byte

abbrev pub known : Option Kind → List ℕ → Read Kind
known None rest = Err fault.Kind
known (Some k) rest = Ok (k, rest)

unfoldable pub kind_at : ℕ → List ℕ → Read Kind
kind_at version bytes = do
  byte ← wide (byte_at bytes)
  known (found_among kinds version byte.0) byte.1

-- a node among so many
unfoldable pub node_at : ℕ → List ℕ → Read ℕ
node_at nodes bytes = do
  node ← wide (byte_at bytes)
  if nat_le nodes node.0 then Err Field else Ok node

-- who sends and who receives
unfoldable pub ends_at : ℕ → List ℕ → Read (ℕ × ℕ)
ends_at nodes bytes = do
  from ← node_at nodes bytes
  to ← node_at nodes from.1
  Ok ((from.0, to.0), to.1)

pub record Head : Type 0 where
  pub kind : Kind
  pub from : ℕ
  pub to : ℕ

unfoldable pub head_at : ℕ → List ℕ → Read Head
head_at nodes bytes = do
  version ← version_at bytes
  kind ← kind_at version.0 version.1
  ends ← ends_at nodes kind.1
  Ok (record { kind = kind.0; from = ends.0.0; to = ends.0.1 }, ends.1)

-- ---- what promises tell
-- the first slot and the last
unfoldable pub range_at : List ℕ → Read (ℕ × ℕ)
range_at bytes = do
  first ← slot_at bytes
  last ← slot_at first.1
  if nat_lt last.0 first.0 then Err Field else Ok ((first.0, last.0), last.1)

-- how many entries follow
unfoldable pub few_at : List ℕ → Read ℕ
few_at bytes = do
  count ← wide (byte_at bytes)
  if nat_lt MOST_ENTRIES count.0 then Err Field else Ok count

-- a slot from one to another
unfoldable pub slot_within : ℕ → ℕ → List ℕ → Read ℕ
slot_within from last bytes = do
  slot ← slot_at bytes
  if nat_lt slot.0 from || nat_lt last slot.0 then Err Field else Ok slot

-- a ballot that is not above another
unfoldable pub ballot_up_to : ℕ → Ballot → List ℕ → Read Ballot
ballot_up_to nodes limit bytes = do
  ballot ← ballot_at nodes bytes
  if nat_lt (rank limit) (rank ballot.0) then Err Field else Ok ballot

-- a vote that a promise of this ballot may tell, at a slot from one to another
unfoldable pub entry_at : ℕ → Ballot → ℕ → ℕ → List ℕ → Read (Vote Command)
entry_at nodes limit from last bytes = do
  slot ← slot_within from last bytes
  ballot ← ballot_up_to nodes limit slot.1
  command ← command_at ballot.1
  Ok (record { slot = slot.0; ballot = ballot.0; command = command.0 }, command.1)

-- so many of them, slots ascending
unfoldable pub entries_at : ℕ → Ballot → ℕ → ℕ → ℕ → List ℕ → Read (List (Vote Command))
entries_at nodes limit last zero from bytes = Ok ([], bytes)
entries_at nodes limit last (suc count) from bytes = do
  entry ← entry_at nodes limit from last bytes
  others ← entries_at nodes limit last count (entry.0.slot + 1) entry.1
  Ok (entry.0 ∷ others.0, others.1)

-- their number, and they themselves
unfoldable pub told_at : ℕ → Ballot → ℕ × ℕ → List ℕ → Read (List (Vote Command))
told_at nodes limit range bytes = do
  count ← few_at bytes
  entries_at nodes limit range.1 count.0 range.0 count.1

unfoldable pub promise_at : ℕ → List ℕ → Read Promised
promise_at nodes bytes = do
  ballot ← ballot_at nodes bytes
  range ← range_at ballot.1
  told ← told_at nodes ballot.0 range.0 range.1
  Ok (record { ballot = ballot.0; first = range.0.0; last = range.0.1; entries = told.0 }, told.1)

-- ---- refusals and votes
-- a ballot that is above another
unfoldable pub ballot_above : ℕ → Ballot → List ℕ → Read Ballot
ballot_above nodes refused bytes = do
  ballot ← ballot_at nodes bytes
  if nat_le (rank ballot.0) (rank refused) then Err Field else Ok ballot

unfoldable pub nack_at : ℕ → List ℕ → Read Refused
nack_at nodes bytes = do
  ballot ← ballot_at nodes bytes
  promised ← ballot_above nodes ballot.0 ballot.1
  Ok (record { ballot = ballot.0; promised = promised.0 }, promised.1)

unfoldable pub vote_at : ℕ → List ℕ → Read (Vote Command)
vote_at nodes bytes = do
  ballot ← ballot_at nodes bytes
  slot ← slot_at ballot.1
  command ← command_at slot.1
  Ok (record { slot = slot.0; ballot = ballot.0; command = command.0 }, command.1)

-- ---- what carries a snapshot
-- the position of a checkpoint
unfoldable pub position_at : List ℕ → Read ℕ
position_at bytes = do
  position ← wide (number_at 4 bytes)
  if position.0 == 0 || nat_lt SLOTS position.0 then Err Field else Ok position

-- a part of a text of at most so many bytes, by the place at which it begins
unfoldable pub part_below : ℕ → List ℕ → Read ℕ
part_below total bytes = do
  offset ← wide (number_at 4 bytes)
  if not (offset.0 % PART == 0) || nat_le total offset.0 then Err Field else Ok (offset.0 / PART, offset.1)

-- how many bytes a whole text has
unfoldable pub total_at : List ℕ → Read ℕ
total_at bytes = do
  total ← wide (number_at 4 bytes)
  if not (is_total total.0) then Err Field else Ok total

-- how many bytes this part of it has, and they themselves
unfoldable pub part_bytes_at : ℕ → ℕ → List ℕ → Read (List ℕ)
part_bytes_at total number bytes = do
  count ← wide (number_at 2 bytes)
  if not (count.0 == min PART (total - offset_of number)) then Err Field else wide (bytes_at count.0 count.1)

unfoldable pub piece_at : List ℕ → Read Piece
piece_at bytes = do
  position ← position_at bytes
  total ← total_at position.1
  number ← part_below total.0 total.1
  text ← part_bytes_at total.0 number.0 number.1
  Ok (record { position = position.0; total = total.0; number = number.0; bytes = text.0 }, text.1)

-- ---- bodies
abbrev pub field_at : ℕ → (field : BodyField) → List ℕ → Read (Value field)
field_at nodes a_ballot bytes = ballot_at nodes bytes
field_at nodes a_slot bytes = slot_at bytes
field_at nodes a_command bytes = command_at bytes
field_at nodes a_vote bytes = vote_at nodes bytes
field_at nodes a_refusal bytes = nack_at nodes bytes
field_at nodes a_promise bytes = promise_at nodes bytes
field_at nodes a_position bytes = position_at bytes
field_at nodes a_part_number bytes = part_below LONGEST_SNAPSHOT bytes
field_at nodes a_part bytes = piece_at bytes

-- the fields one after the other, and what their values make
abbrev pub fields_at : {A : Type 0} → ℕ → (fields : List BodyField) → (Values fields → A) → List ℕ → Read A
fields_at nodes [] make bytes = Ok (make tt, bytes)
fields_at nodes (field ∷ []) make bytes = do
  value ← field_at nodes field bytes
  Ok (make value.0, value.1)
fields_at nodes (field ∷ next ∷ others) make bytes = do
  value ← field_at nodes field bytes
  fields_at nodes (next ∷ others) (λ values. make (value.0, values)) value.1

-- a body by the fields that the table has for the kind. One kind is named, so that each of the others is taken by itself.
unfoldable pub message_at : Kind → ℕ → List ℕ → Read Message
message_at kind.Promise nodes bytes = fields_at nodes (fields_of kind.Promise) (message_with kind.Promise) bytes
message_at k nodes bytes = fields_at nodes (fields_of k) (message_with k) bytes

-- ---- frames
-- what a frame begins with
unfoldable pub envelope_at : ℕ → List ℕ → Read Envelope
envelope_at nodes bytes = do
  head ← head_at nodes bytes
  message ← message_at head.0.kind nodes head.1
  Ok (record { from = head.0.from; to = head.0.to; message = message.0 }, message.1)

-- a frame, and nothing after it
unfoldable pub frame_in : ℕ → List ℕ → Result Envelope WireFault
frame_in nodes bytes = if nat_lt LONGEST_FRAME (length bytes) then Err Long else do
  envelope ← envelope_at nodes bytes
  if length envelope.1 == 0 then Ok envelope.0 else Err Trailing
