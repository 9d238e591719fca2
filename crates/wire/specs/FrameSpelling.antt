-- How a message between two nodes is spelled, and which messages may be sent among so many nodes.
use Rattle.std.specs.Prelude.{◌≡◌, ℕ, ◌<◌, List, [], ◌∷◌, ◌++◌, length}
use Rattle.std.specs.List.{flat_map, AllByRecursion}
use Rattle.byteorder.specs.Endian.{big_bytes}
use Rattle.synod.specs.declared.vote.Vote.{Vote}
use Rattle.sessions.specs.declared.command.Command.{Command}
use Rattle.wire.specs.Spelling.{ballot_bytes, BallotFits, slot_bytes, SlotFits, command_bytes, CommandFits}
use Rattle.wire.specs.Kinds.{BodyField, a_ballot, a_slot, a_command, a_vote, a_refusal, a_promise, a_position, a_part_number, a_part}
use Rattle.wire.specs.Kinds.{Value, Values, version_of, byte_of, fields_of, kind_of, values_of}
use Rattle.wire.specs.Parts.{Piece, IsPiece, IsPosition, IsPartNumber, offset_of}
use Rattle.wire.specs.Promises.{Promised, IsPromise, Refused, IsRefusal}
use Rattle.wire.specs.declared.frames.envelope.Envelope.{Envelope}
use Rattle.wire.specs.declared.frames.envelope.TheConstants.{MAGIC}
use Rattle.wire.specs.declared.frames.kind.Kind.{Kind}
use Rattle.wire.specs.declared.frames.kind.Kind.TheVariants as kind
use Rattle.wire.specs.declared.frames.message.Message.{Message}
use Rattle.wire.specs.declared.frames.message.Message.TheVariants.{Promise}

-- ---- bodies
-- what is proposed or was voted for: the ballot, the slot, the command
abbrev pub vote_bytes : Vote Command → List ℕ
vote_bytes v = ballot_bytes v.ballot ++ (slot_bytes v.slot ++ command_bytes v.command)

-- a vote as a promise tells it: the slot, the ballot, the command
abbrev pub entry_bytes : Vote Command → List ℕ
entry_bytes v = slot_bytes v.slot ++ (ballot_bytes v.ballot ++ command_bytes v.command)

-- the ballot, the first slot, the last, how many entries follow in one byte, and the entries
abbrev pub promise_bytes : Promised → List ℕ
promise_bytes p = ballot_bytes p.ballot ++ ((slot_bytes p.first ++ slot_bytes p.last)
    ++ (length p.entries ∷ flat_map entry_bytes p.entries))

-- both ballots
abbrev pub refusal_bytes : Refused → List ℕ
refusal_bytes n = ballot_bytes n.ballot ++ ballot_bytes n.promised

-- a part by the place in the text at which it begins, in four bytes
abbrev pub offset_bytes : ℕ → List ℕ
offset_bytes number = big_bytes 4 (offset_of number)

-- the position, how many bytes the whole text has, the place in it, how many bytes follow in two bytes, and these
abbrev pub piece_bytes : Piece → List ℕ
piece_bytes p = big_bytes 4 p.position ++ (big_bytes 4 p.total ++ (offset_bytes p.number
    ++ (big_bytes 2 (length p.bytes) ++ p.bytes)))

abbrev pub field_bytes : (field : BodyField) → Value field → List ℕ
field_bytes a_ballot b = ballot_bytes b
field_bytes a_slot slot = slot_bytes slot
field_bytes a_command c = command_bytes c
field_bytes a_vote v = vote_bytes v
field_bytes a_refusal n = refusal_bytes n
field_bytes a_promise p = promise_bytes p
field_bytes a_position position = big_bytes 4 position
field_bytes a_part_number number = offset_bytes number
field_bytes a_part p = piece_bytes p

-- one field behind the other
abbrev pub fields_bytes : (fields : List BodyField) → Values fields → List ℕ
fields_bytes [] values = []
fields_bytes (field ∷ []) value = field_bytes field value
fields_bytes (field ∷ next ∷ others) values = field_bytes field values.0 ++ fields_bytes (next ∷ others) values.1

-- the fields that the table has for its kind. One message is named, so that each of the others is taken by itself.
abbrev pub body_bytes : Message → List ℕ
body_bytes (Promise p) = fields_bytes (fields_of kind.Promise) p
body_bytes m = fields_bytes (fields_of (kind_of m)) (values_of m)

-- ---- envelopes
-- two bytes that begin each frame, the version, the kind, who sends, who receives
abbrev pub head_bytes : Kind → ℕ → ℕ → List ℕ
head_bytes k from to = big_bytes 2 MAGIC ++ (version_of k ∷ byte_of k ∷ from ∷ to ∷ [])

-- and the body
abbrev pub spelling : Envelope → List ℕ
spelling e = head_bytes (kind_of e.message) e.from e.to ++ body_bytes e.message

-- ---- what may be sent among so many nodes
pub record VoteFits (nodes : ℕ) (v : Vote Command) : Type 0 where
  pub slot : SlotFits v.slot
  pub ballot : BallotFits nodes v.ballot
  pub command : CommandFits v.command

pub record PromiseFits (nodes : ℕ) (p : Promised) : Type 0 where
  pub ballot : BallotFits nodes p.ballot
  pub first : SlotFits p.first
  pub last : SlotFits p.last
  pub promise : IsPromise p
  pub entries : AllByRecursion (VoteFits nodes) p.entries

pub record NackFits (nodes : ℕ) (n : Refused) : Type 0 where
  pub ballot : BallotFits nodes n.ballot
  pub promised : BallotFits nodes n.promised
  pub refusal : IsRefusal n

abbrev pub FieldFits : ℕ → (field : BodyField) → Value field → Type 0
FieldFits nodes a_ballot b = BallotFits nodes b
FieldFits nodes a_slot slot = SlotFits slot
FieldFits nodes a_command c = CommandFits c
FieldFits nodes a_vote v = VoteFits nodes v
FieldFits nodes a_refusal n = NackFits nodes n
FieldFits nodes a_promise p = PromiseFits nodes p
FieldFits nodes a_position position = IsPosition position
FieldFits nodes a_part_number number = IsPartNumber number
FieldFits nodes a_part p = IsPiece p

abbrev pub FieldsFit : ℕ → (fields : List BodyField) → Values fields → Type 0
FieldsFit nodes [] values = Unit {0}
FieldsFit nodes (field ∷ []) value = FieldFits nodes field value
FieldsFit nodes (field ∷ next ∷ others) values = FieldFits nodes field values.0 × FieldsFit nodes (next ∷ others) values.1

-- one message is named here as well
abbrev pub MessageFits : ℕ → Message → Type 0
MessageFits nodes (Promise p) = FieldsFit nodes (fields_of kind.Promise) p
MessageFits nodes m = FieldsFit nodes (fields_of (kind_of m)) (values_of m)

pub record Fits (nodes : ℕ) (e : Envelope) : Type 0 where
  pub from : e.from < nodes
  pub to : e.to < nodes
  pub message : MessageFits nodes e.message

-- the bytes are the frame of this envelope, which may be sent among so many nodes
pub record IsFrame (nodes : ℕ) (bytes : List ℕ) (e : Envelope) : Type 0 where
  pub fits : Fits nodes e
  pub spelled : bytes ≡ spelling e
