-- Bodies, by their fields: what is read was spelled so, and what is spelled so is read, whatever follows.
use Rattle.std.proofs.Common.{◌≡◌, ℕ, ◌≤◌, List, [], ◌∷◌, ◌++◌, Ok, refl, ap, subst, ◌∙◌, append_assoc}
use Rattle.wire.specs.declared.frames.kind.Kind.{Kind}
use Rattle.wire.specs.declared.frames.kind.Kind.TheVariants as kind
use Rattle.wire.specs.declared.frames.message.Message.{Message}
use Rattle.wire.specs.declared.frames.message.Message.TheVariants.{Promise}
use Rattle.wire.specs.Kinds.{BodyField, a_ballot, a_slot, a_command, a_vote, a_refusal, a_promise, a_position, a_part_number, a_part}
use Rattle.wire.specs.Kinds.{Value, Values, fields_of, kind_of, values_of, message_with}
use Rattle.wire.specs.FrameSpelling.{field_bytes, fields_bytes, body_bytes, FieldFits, FieldsFit, MessageFits}
use Rattle.wire.specs.FrameReading.{field_at, fields_at, message_at}
use Rattle.fields.proofs.FieldLemmas.{IsBytes, bind_ok, ok_is, Takes, Takes-then, Took}
use Rattle.wire.proofs.BallotLaws.{ballot_takes, ballot_again, slot_takes, slot_again}
use Rattle.wire.proofs.CommandLaws.{command_takes, command_again}
use Rattle.wire.proofs.PartLaws.{position_takes, position_again, part_number_takes, part_number_again, piece_takes, piece_again}
use Rattle.wire.proofs.PromiseLaws.{vote_takes, vote_again, nack_takes, nack_again, promise_takes, promise_again}

-- ---- two laws a field
field_takes : (nodes : ℕ) → nodes ≤ 7 → (field : BodyField) (bytes : List ℕ) (x : Value field × List ℕ) → IsBytes bytes
    → field_at nodes field bytes ≡ Ok x → Took (field_bytes field) (FieldFits nodes field) bytes x
field_takes nodes few a_ballot bytes x fits e = ballot_takes nodes few bytes x fits e
field_takes nodes few a_slot bytes x fits e = slot_takes bytes x fits e
field_takes nodes few a_command bytes x fits e = command_takes bytes x fits e
field_takes nodes few a_vote bytes x fits e = vote_takes nodes few bytes x fits e
field_takes nodes few a_refusal bytes x fits e = nack_takes nodes few bytes x fits e
field_takes nodes few a_promise bytes x fits e = promise_takes nodes few bytes x fits e
field_takes nodes few a_position bytes x fits e = position_takes bytes x fits e
field_takes nodes few a_part_number bytes x fits e = part_number_takes bytes x fits e
field_takes nodes few a_part bytes x fits e = piece_takes bytes x fits e

field_again : (nodes : ℕ) (field : BodyField) (value : Value field) (rest : List ℕ) → FieldFits nodes field value
    → field_at nodes field (field_bytes field value ++ rest) ≡ Ok (value, rest)
field_again nodes a_ballot b rest fits = ballot_again nodes b rest fits
field_again nodes a_slot slot rest fits = slot_again slot rest fits
field_again nodes a_command c rest fits = command_again c rest fits
field_again nodes a_vote v rest fits = vote_again nodes v rest fits
field_again nodes a_refusal n rest fits = nack_again nodes n rest fits
field_again nodes a_promise p rest fits = promise_again nodes p rest fits
field_again nodes a_position position rest fits = position_again position rest fits
field_again nodes a_part_number number rest fits = part_number_again number rest fits
field_again nodes a_part p rest fits = piece_again p rest fits

-- ---- all fields of a body
record TookFields {A : Type 0} (nodes : ℕ) (fields : List BodyField) (make : Values fields → A) (bytes : List ℕ) (x : A × List ℕ) : Type 0 where
  pub values : Values fields
  pub made : make values ≡ x.0
  pub takes : Takes bytes (fields_bytes fields values) x.1
  pub fits : FieldsFit nodes fields values

fields_take : {A : Type 0} (nodes : ℕ) → nodes ≤ 7 → (fields : List BodyField) (make : Values fields → A) (bytes : List ℕ)
    (x : A × List ℕ) → IsBytes bytes → fields_at nodes fields make bytes ≡ Ok x → TookFields nodes fields make bytes x
fields_take {A} nodes few [] make bytes x fits e =
    let it : TookFields nodes [] make bytes (make tt, bytes) = record
    { values = tt; made = refl; takes = record { parts = refl; rest_fits = fits }; fits = tt } in
    subst (TookFields nodes [] make bytes) (ok_is _ _ e) it
fields_take {A} nodes few (field ∷ []) make bytes x fits e =
    let v = bind_ok (field_at nodes field bytes) _ x e in
    let t = field_takes nodes few field bytes v.0 fits v.1 in
    let it : TookFields nodes (field ∷ []) make bytes (make v.0.0, v.0.1) = record
    { values = v.0.0; made = refl; takes = t.takes; fits = t.fits } in
    subst (TookFields nodes (field ∷ []) make bytes) (ok_is _ _ v.2) it
fields_take {A} nodes few (field ∷ next ∷ others) make bytes x fits e =
    let v = bind_ok (field_at nodes field bytes) _ x e in
    let t = field_takes nodes few field bytes v.0 fits v.1 in
    let later = fields_take nodes few (next ∷ others) (λ values. make (v.0.0, values)) v.0.1 x t.takes.rest_fits v.2 in
    record {
      values = (v.0.0, later.values);
      made = later.made;
      takes = Takes-then bytes (field_bytes field v.0.0) v.0.1 (fields_bytes (next ∷ others) later.values) x.1 t.takes later.takes;
      fits = (t.fits, later.fits);
    }

fields_again : {A : Type 0} (nodes : ℕ) (fields : List BodyField) (make : Values fields → A) (values : Values fields) (rest : List ℕ)
    → FieldsFit nodes fields values → fields_at nodes fields make (fields_bytes fields values ++ rest) ≡ Ok (make values, rest)
fields_again nodes [] make values rest fits = refl
fields_again nodes (field ∷ []) make value rest fits = rw (field_again nodes field value rest fits) refl
fields_again nodes (field ∷ next ∷ others) make values rest fits =
    let behind = fields_bytes (next ∷ others) values.1 ++ rest in
    ap (fields_at nodes (field ∷ next ∷ others) make)
    (append_assoc (field_bytes field values.0) (fields_bytes (next ∷ others) values.1) rest)
    ∙ rw (field_again nodes field values.0 behind fits.0)
    (fields_again nodes (next ∷ others) (λ later. make (values.0, later)) values.1 rest fits.1)

-- ---- messages
pub record TookBody (nodes : ℕ) (k : Kind) (bytes : List ℕ) (x : Message × List ℕ) : Type 0 where
  pub takes : Takes bytes (body_bytes x.0) x.1
  pub fits : MessageFits nodes x.0
  pub kind : kind_of x.0 ≡ k

took : (nodes : ℕ) (k : Kind) (bytes : List ℕ) (x : Message × List ℕ) (t : TookFields nodes (fields_of k) (message_with k) bytes x)
    → TookBody nodes k bytes (message_with k t.values, x.1) → TookBody nodes k bytes x
took nodes k bytes x t it = subst (λ (m : Message). TookBody nodes k bytes (m, x.1)) t.made it

pub message_takes : (k : Kind) (nodes : ℕ) → nodes ≤ 7 → (bytes : List ℕ) (x : Message × List ℕ) → IsBytes bytes → message_at k nodes bytes
    ≡ Ok x → TookBody nodes k bytes x
unfolding message_at
message_takes kind.Promise nodes few bytes x fits e =
    let t = fields_take nodes few (fields_of kind.Promise) (message_with kind.Promise) bytes x fits e in
    took nodes kind.Promise bytes x t (record { takes = t.takes; fits = t.fits; kind = refl })
message_takes k nodes few bytes x fits e =
    let t = fields_take nodes few (fields_of k) (message_with k) bytes x fits e in
    took nodes k bytes x t (record { takes = t.takes; fits = t.fits; kind = refl })

pub message_again : (nodes : ℕ) (m : Message) (rest : List ℕ) → MessageFits nodes m → message_at (kind_of m) nodes (body_bytes m ++ rest)
    ≡ Ok (m, rest)
unfolding message_at
message_again nodes (Promise p) rest fits = fields_again nodes (fields_of kind.Promise) (message_with kind.Promise) p rest fits
message_again nodes m rest fits = fields_again nodes (fields_of (kind_of m)) (message_with (kind_of m)) (values_of m) rest fits
