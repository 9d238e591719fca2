-- The table of kinds: each has a version, a byte, and the fields of its body. Reading and spelling both take them from here, so a
-- kind more, with fields that are there, is a row more in each of the tables below.
use Rattle.std.specs.Prelude.{ℕ, List, [], ◌∷◌}
use Rattle.synod.specs.declared.ballot.Ballot.{Ballot}
use Rattle.synod.specs.declared.vote.Vote.{Vote}
use Rattle.sessions.specs.declared.command.Command.{Command}
use Rattle.wire.specs.Parts.{Piece}
use Rattle.wire.specs.Promises.{Promised, Refused}
use Rattle.wire.specs.declared.frames.kind.Kind.{Kind}
use Rattle.wire.specs.declared.frames.kind.Kind.TheVariants as kind
use Rattle.wire.specs.declared.frames.message.Message.{Message}
use Rattle.wire.specs.declared.frames.message.Message.TheVariants.{Prepare, Promise, Nack, Accept, Accepted, Ask, Decided, SnapAsk, SnapPart, Behind}

-- ---- fields
-- what stands in a body. Parts of which one is tested by another are one field.
pub data BodyField : Type 0 where
  a_ballot : BodyField
  a_slot : BodyField
  a_command : BodyField
  -- a ballot, a slot and a command
  a_vote : BodyField
  -- a ballot, and one above it that is promised
  a_refusal : BodyField
  -- a ballot, the first slot and the last, and votes at these
  a_promise : BodyField
  -- the position of a checkpoint
  a_position : BodyField
  -- which part of a text, by the place at which it begins
  a_part_number : BodyField
  -- a position, the length of a text, which part of it, and the part's bytes
  a_part : BodyField

-- what a field says; those that are not named say a number
abbrev pub Value : BodyField → Type 0
Value a_ballot = Ballot
Value a_command = Command
Value a_vote = Vote Command
Value a_refusal = Refused
Value a_promise = Promised
Value a_part = Piece
Value _ = ℕ

-- a value for each field
abbrev pub Values : List BodyField → Type 0
Values [] = Unit {0}
Values (field ∷ []) = Value field
Values (field ∷ next ∷ others) = Value field × Values (next ∷ others)

-- ---- the table
pub record Row : Type 0 where
  pub version : ℕ
  pub byte : ℕ
  pub fields : List BodyField

abbrev pub row : Kind → Row
row kind.Prepare = record { version = 1; byte = 1; fields = a_ballot ∷ a_slot ∷ [] }
row kind.Promise = record { version = 1; byte = 2; fields = a_promise ∷ [] }
row kind.Nack = record { version = 1; byte = 3; fields = a_refusal ∷ [] }
row kind.Accept = record { version = 1; byte = 4; fields = a_vote ∷ [] }
row kind.Accepted = record { version = 1; byte = 5; fields = a_vote ∷ [] }
row kind.Ask = record { version = 1; byte = 6; fields = a_slot ∷ [] }
row kind.Decided = record { version = 1; byte = 7; fields = a_slot ∷ a_command ∷ [] }
row kind.SnapAsk = record { version = 2; byte = 8; fields = a_position ∷ a_part_number ∷ [] }
row kind.SnapPart = record { version = 2; byte = 9; fields = a_part ∷ [] }
row kind.Behind = record { version = 2; byte = 10; fields = a_position ∷ [] }

abbrev pub kinds : List Kind
kinds = kind.Prepare ∷ kind.Promise ∷ kind.Nack ∷ kind.Accept ∷ kind.Accepted ∷ kind.Ask ∷ kind.Decided ∷ kind.SnapAsk
    ∷ kind.SnapPart ∷ kind.Behind ∷ []

abbrev pub version_of : Kind → ℕ
version_of k = (row k).version

abbrev pub byte_of : Kind → ℕ
byte_of k = (row k).byte

abbrev pub fields_of : Kind → List BodyField
fields_of k = (row k).fields

-- ---- messages
-- a kind, and a value for each of its fields
abbrev pub Body : Type 0
Body = (k : Kind) × Values (fields_of k)

-- what a message is
abbrev pub body_of : Message → Body
body_of (Prepare ballot first) = (kind.Prepare, (ballot, first))
body_of (Promise p) = (kind.Promise, p)
body_of (Nack n) = (kind.Nack, n)
body_of (Accept v) = (kind.Accept, v)
body_of (Accepted v) = (kind.Accepted, v)
body_of (Ask slot) = (kind.Ask, slot)
body_of (Decided slot command) = (kind.Decided, (slot, command))
body_of (SnapAsk position number) = (kind.SnapAsk, (position, number))
body_of (SnapPart p) = (kind.SnapPart, p)
body_of (Behind floor) = (kind.Behind, floor)

abbrev pub kind_of : Message → Kind
kind_of m = (body_of m).0

abbrev pub values_of : (m : Message) → Values (fields_of (kind_of m))
values_of m = (body_of m).1

-- the message of a kind with these values
abbrev pub message_with : (k : Kind) → Values (fields_of k) → Message
message_with kind.Prepare values = Prepare values.0 values.1
message_with kind.Promise p = Promise p
message_with kind.Nack n = Nack n
message_with kind.Accept v = Accept v
message_with kind.Accepted v = Accepted v
message_with kind.Ask slot = Ask slot
message_with kind.Decided values = Decided values.0 values.1
message_with kind.SnapAsk values = SnapAsk values.0 values.1
message_with kind.SnapPart p = SnapPart p
message_with kind.Behind floor = Behind floor
