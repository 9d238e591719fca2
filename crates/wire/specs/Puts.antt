-- What is read into memory that is asked for: the points of a sequence, a command that lies apart, the votes that a promise tells, and
-- the bytes of a part.
use Rattle.std.specs.Prelude.{◌≡◌, ◌⊎◌, ⊤, ℕ, ◌<◌, ◌≤◌, Bool, true, false, List, [], ◌∷◌, ◌++◌, length, MatchBool, IsOk, IsOkAnd}
use Rattle.std.specs.List.{list_any}
use Rattle.fields.specs.Reading.{byte_at, id_at}
use Rattle.synod.specs.declared.vote.Vote.{Vote}
use Rattle.store.specs.declared.op.Op.{Op}
use Rattle.store.specs.declared.op.Op.TheVariants.{Put, Append, Remove}
use Rattle.sessions.specs.declared.command.Command.{Command}
use Rattle.sessions.specs.declared.command.Command.TheVariants.{NoOp, Request}
use Rattle.wire.specs.Reading.{ballot_at, request_number_at}
use Rattle.wire.specs.FrameSpelling.{head_bytes}
use Rattle.wire.specs.Kinds.{BodyField, a_command, a_vote, a_promise, a_part, Value, Values, fields_of, kind_of, values_of}
use Rattle.wire.specs.declared.frames.envelope.TheConstants.{LONGEST_FRAME}
use Rattle.wire.specs.declared.frames.kind.Kind.{Kind}
use Rattle.wire.specs.declared.frames.kind.Kind.TheVariants as kind
use Rattle.wire.specs.declared.frames.message.Message.{Message}
use Rattle.wire.specs.declared.frames.message.Message.TheVariants.{Promise}

abbrev pub IsPut : Op → Type 0
IsPut (Put id seq) = ⊤
IsPut (Append a) = ⊥
IsPut (Remove id) = ⊥

abbrev pub CommandPuts : Command → Type 0
CommandPuts NoOp = ⊥
CommandPuts (Request r) = IsPut r.op

-- at least one vote is told
abbrev pub SomeTold : List (Vote Command) → Type 0
SomeTold [] = ⊥
SomeTold (v ∷ vs) = ⊤

-- ---- bodies
-- the field brings a command, votes, or a part of a text
abbrev pub brings_content : BodyField → Bool
brings_content a_command = true
brings_content a_vote = true
brings_content a_promise = true
brings_content a_part = true
brings_content _ = false

-- memory is taken for the value of a field that brings content: for a promise only where it tells votes
abbrev pub FieldTakes : (field : BodyField) → Value field → Type 0
FieldTakes a_promise p = SomeTold p.entries
FieldTakes _ value = ⊤

-- it is taken for one of the fields
abbrev pub FieldsTake : (fields : List BodyField) → Values fields → Type 0
FieldsTake [] values = ⊥
FieldsTake (field ∷ []) value = MatchBool (brings_content field) (FieldTakes field value) ⊥
FieldsTake (field ∷ next ∷ others) values = MatchBool (brings_content field)
    (FieldTakes field values.0 ⊎ FieldsTake (next ∷ others) values.1)
    (FieldsTake (next ∷ others) values.1)

-- one message is named, so that each of the others is taken by itself
abbrev pub TakesMemory : Message → Type 0
TakesMemory (Promise p) = FieldsTake (fields_of kind.Promise) p
TakesMemory m = FieldsTake (fields_of (kind_of m)) (values_of m)

-- ---- bytes for which memory may be asked, whatever follows them
-- messages of this kind bring a command, tell votes, or bring a part of a text
abbrev pub BringsContent : Kind → Type 0
BringsContent k = MatchBool (list_any brings_content (fields_of k)) ⊤ ⊥

-- the bytes are not too many for a frame, and begin as one of such a kind, from one node to another
pub record FrameWithContentBegins (nodes : ℕ) (bytes : List ℕ) : Type 0 where
  pub kind : Kind
  pub from : ℕ
  pub to : ℕ
  pub body : List ℕ
  pub not_long : length bytes ≤ LONGEST_FRAME
  pub brings : BringsContent kind
  pub from_node : from < nodes
  pub to_node : to < nodes
  pub begun : bytes ≡ head_bytes kind from to ++ body

-- an operation begins as a put: its byte says so, and an id follows
abbrev pub OpBeginsAsPut : List ℕ → Type 0
OpBeginsAsPut bytes = IsOkAnd (byte_at bytes) (λ byte. (byte.0 ≡ 1) × IsOk (id_at byte.1))

-- a request does: its client and its number come first
abbrev pub RequestBeginsAsPut : List ℕ → Type 0
RequestBeginsAsPut bytes =
    IsOkAnd (byte_at bytes) (λ client. IsOkAnd (request_number_at client.1) (λ number. OpBeginsAsPut number.1))

-- a command does: it is a request
abbrev pub CommandBeginsAsPut : List ℕ → Type 0
CommandBeginsAsPut bytes = IsOkAnd (byte_at bytes) (λ byte. (byte.0 ≡ 1) × RequestBeginsAsPut byte.1)

-- a ballot comes first, and then a command that does
abbrev pub ChoiceBeginsAsPut : List ℕ → Type 0
ChoiceBeginsAsPut bytes = IsOkAnd (ballot_at 7 bytes) (λ ballot. CommandBeginsAsPut ballot.1)
