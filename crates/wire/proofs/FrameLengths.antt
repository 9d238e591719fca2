-- No frame of an envelope that may be sent is too long.
use Rattle.std.proofs.Common.{ℕ, ◌*◌, ◌≤◌, List, [], ◌∷◌, length, ap, ◌∙◌, subst, sym, arith}
use Rattle.std.specs.List.{flat_map, AllByRecursion}
use Rattle.std.proofs.lemmas.Bool.{leb-true}
use Rattle.std.proofs.lemmas.List.{length-append}
use Rattle.std.proofs.lemmas.List.Concat.{flat_map-cons}
use Rattle.store.specs.declared.op.Op.{Op}
use Rattle.store.specs.declared.op.Op.TheVariants.{Put, Append, Remove}
use Rattle.synod.specs.declared.vote.Vote.{Vote}
use Rattle.sessions.specs.declared.command.Command.{Command}
use Rattle.sessions.specs.declared.command.Command.TheVariants.{NoOp, Request}
use Rattle.wire.specs.Spelling.{op_bytes, OpFits, command_bytes, CommandFits}
use Rattle.wire.specs.Kinds.{BodyField, a_ballot, a_slot, a_command, a_vote, a_refusal, a_promise, a_position, a_part_number, a_part}
use Rattle.wire.specs.Kinds.{Value, Values, fields_of, kind_of, values_of}
use Rattle.wire.specs.FrameSpelling.{entry_bytes, VoteFits, field_bytes, fields_bytes, body_bytes, FieldFits, FieldsFit, MessageFits}
use Rattle.wire.specs.FrameSpelling.{spelling, Fits, IsFrame}
use Rattle.wire.specs.declared.frames.envelope.Envelope.{Envelope}
use Rattle.wire.specs.declared.frames.envelope.TheConstants.{LONGEST_FRAME}
use Rattle.wire.specs.declared.frames.kind.Kind.{Kind}
use Rattle.wire.specs.declared.frames.kind.Kind.TheVariants as kind
use Rattle.wire.specs.declared.frames.message.Message.{Message}
use Rattle.wire.specs.declared.frames.message.Message.TheVariants.{Promise}
use Rattle.fields.proofs.LengthLemmas.{put_len, append_len}
use Rattle.wire.proofs.KindLaws.{most, most_in_all, row_holds}
use Rattle.wire.proofs.PartLaws.{piece_most}

-- an operation: a Put of the longest id and the most instants is the largest
op_most : (op : Op) → OpFits op → length (op_bytes op) ≤ 12357
op_most (Put id seq) f = let l = put_len id seq in omega (arith, f.0.not_too_long, f.1.not_too_many, l)
op_most (Append a) f = let l = append_len a.id a.point in omega (arith, f.0.not_too_long, l)
op_most (Remove id) f = omega (arith, f.not_too_long)

command_most : (c : Command) → CommandFits c → length (command_bytes c) ≤ 12367
command_most NoOp f = omega arith
command_most (Request r) f =
    let most = op_most r.op f.op in
    omega (arith, most)

-- a vote that a promise tells, and several
entry_most : (nodes : ℕ) (v : Vote Command) → VoteFits nodes v → length (entry_bytes v) ≤ 12380
entry_most nodes v f =
    let most = command_most v.command f.command in
    omega (arith, most)

entries_most : (nodes : ℕ) (vs : List (Vote Command)) → AllByRecursion (VoteFits nodes) vs
    → length (flat_map entry_bytes vs) ≤ 12380 * length vs
entries_most nodes [] f = omega arith
entries_most nodes (v ∷ vs) f =
    let l = ap length (flat_map-cons entry_bytes v vs) ∙ length-append (entry_bytes v) (flat_map entry_bytes vs) in
    let one = entry_most nodes v f.0 in
    let rest = entries_most nodes vs f.1 in
    omega (arith, l, one, rest)

-- a field, and all of a body
field_most : (nodes : ℕ) (field : BodyField) (value : Value field) → FieldFits nodes field value → length (field_bytes field value) ≤ most field
field_most nodes a_ballot b f = omega arith
field_most nodes a_slot slot f = omega arith
field_most nodes a_command c f = command_most c f
field_most nodes a_vote v f =
    let most = command_most v.command f.command in
    omega (arith, most)
field_most nodes a_refusal n f = omega arith
field_most nodes a_promise p f =
    let most = entries_most nodes p.entries f.entries in
    omega (arith, most, f.promise.few)
field_most nodes a_position position f = omega arith
field_most nodes a_part_number number f = omega arith
field_most nodes a_part p f =
    let most = piece_most p f in
    omega (arith, most)

fields_most : (nodes : ℕ) (fields : List BodyField) (values : Values fields) → FieldsFit nodes fields values
    → length (fields_bytes fields values) ≤ most_in_all fields
fields_most nodes [] values f = omega arith
fields_most nodes (field ∷ []) value f = let one = field_most nodes field value f in omega (arith, one)
fields_most nodes (field ∷ next ∷ others) values f =
    let one = field_most nodes field values.0 f.0 in
    let rest = fields_most nodes (next ∷ others) values.1 f.1 in
    let l = length-append (field_bytes field values.0) (fields_bytes (next ∷ others) values.1) in
    omega (arith, one, rest, l)

of_kind : (nodes : ℕ) (k : Kind) (values : Values (fields_of k)) → FieldsFit nodes (fields_of k) values
    → length (fields_bytes (fields_of k) values) ≤ 49538
of_kind nodes k values f =
    let most = fields_most nodes (fields_of k) values f in
    let short = leb-true _ _ (row_holds k).short in
    omega (arith, most, short)

body_most : (nodes : ℕ) (m : Message) → MessageFits nodes m → length (body_bytes m) ≤ 49538
body_most nodes (Promise p) f = of_kind nodes kind.Promise p f
body_most nodes m f = of_kind nodes (kind_of m) (values_of m) f

spelling_most : (nodes : ℕ) (e : Envelope) → Fits nodes e → length (spelling e) ≤ LONGEST_FRAME
spelling_most nodes e f =
    let most = body_most nodes e.message f.message in
    omega (arith, most)

-- so a frame is never too long
pub frame_most : (nodes : ℕ) (bytes : List ℕ) (e : Envelope) → IsFrame nodes bytes e → length bytes ≤ LONGEST_FRAME
frame_most nodes bytes e frame =
    subst (λ (b : List ℕ). length b ≤ LONGEST_FRAME) (sym frame.spelled) (spelling_most nodes e frame.fits)
