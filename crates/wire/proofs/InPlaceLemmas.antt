-- What is read with no memory: its fault is never that memory ran out.
use Rattle.std.proofs.Common.{◌≡◌, ℕ, Bool, true, false, cond, ltb, ◌||◌, not, List, [], ◌∷◌, length, take, drop, Option, Some, None}
use Rattle.std.proofs.Common.{Result, Ok, Err, IsErrAnd, refl}
use Rattle.wire.specs.Faults.{widened}
use Rattle.std.specs.Prelude.{◌==◌}
use Rattle.std.specs.List.{list_any, list_all}
use Rattle.synod.specs.declared.ballot.Ballot.{Ballot}
use Rattle.tpoint.specs.Ids.{is_id_byte}
use Rattle.tpoint.specs.declared.id.TheConstants.{LONGEST_ID}
use Rattle.fields.specs.declared.fault.FieldFault.{FieldFault}
use Rattle.fields.specs.declared.fault.FieldFault.TheVariants as field
use Rattle.fields.specs.Reading.{◌>>=◌, Tells, number_at, byte_at, text_at, id_at, instant_at, coordinate_at, triple_at}
use Rattle.wire.specs.declared.frames.fault.WireFault.{WireFault}
use Rattle.wire.specs.declared.frames.fault.WireFault.TheVariants.{Magic, Version, Field, Memory}
use Rattle.wire.specs.declared.frames.kind.Kind.{Kind}
use Rattle.wire.specs.declared.frames.kind.Kind.TheVariants as kind
use Rattle.wire.specs.Kinds.{BodyField, a_ballot, a_slot, a_command, a_vote, a_refusal, a_promise, a_position, a_part_number, a_part}
use Rattle.wire.specs.Kinds.{Values, kinds, fields_of, message_with}
use Rattle.wire.specs.Puts.{brings_content}
use Rattle.wire.specs.Reading.{wide, ballot_at, slot_at, append_at, remove_at, request_number_at}
use Rattle.wire.specs.FrameReading.{version_at, known, found_among, kind_at, node_at, ends_at, head_at, ballot_above, nack_at}
use Rattle.wire.specs.FrameReading.{position_at, part_below, field_at, fields_at, message_at}
use Rattle.sessions.specs.declared.snapshot.TheConstants.{LONGEST_SNAPSHOT}
use Rattle.wire.proofs.WideLemmas.{neither}

-- reading doesn't fail by this fault
abbrev pub Never : {A F : Type 0} → F → Result A F → Type 0
Never d r = ¬ (r ≡ Err d)

-- ---- the tools
two_steps : {A B F : Type 0} (d : F) (first : Result A F) (then : A → Result B F) → Never d first → ((x : A) → Never d (then x))
    → Never d (first >>= then)
two_steps d (Ok x) then one each = each x
two_steps d (Err e) then one each = λ h. one cc

tested : {A F : Type 0} (d e : F) (b : Bool) (r : Result A F) → ¬ (e ≡ d) → Never d r → Never d (cond b (Err e) r)
tested d e true r other one = λ h. other cc
tested d e false r other one = one

done : {A F : Type 0} (d : F) (x : A) → Never d (Ok x)
done d x = λ h. cc

wide_never : {A : Type 0} (r : Result A FieldFault) → Never field.Memory r → Never Memory (wide r)
wide_never (Ok x) one = λ h. cc
wide_never (Err field.Short) one = λ h. cc
wide_never (Err field.Field) one = λ h. cc
wide_never (Err field.Memory) one = absurd (one refl)

-- ---- fields
number_never : (n : ℕ) (bytes : List ℕ) → Never field.Memory (number_at n bytes)
number_never n bytes = tested field.Memory field.Short _ _ (λ e. cc) (done field.Memory _)

byte_never : (bytes : List ℕ) → Never field.Memory (byte_at bytes)
byte_never [] = λ h. cc
byte_never (b ∷ bytes) = λ h. cc

text_never : (len : ℕ) (bytes : List ℕ) → Never field.Memory (text_at len bytes)
text_never len bytes =
    tested field.Memory field.Field (not (list_all is_id_byte (take len bytes))) _ (λ e. cc)
    (tested field.Memory field.Short (ltb (length bytes) len) _ (λ e. cc) (done field.Memory (take len bytes, drop len bytes)))

pub id_never : (bytes : List ℕ) → Never field.Memory (id_at bytes)
unfolding id_at
id_never bytes =
    two_steps field.Memory (byte_at bytes) _ (byte_never bytes)
    (λ len. tested field.Memory field.Field (len.0 == 0 || ltb LONGEST_ID len.0) _ (λ e. cc) (text_never len.0 len.1))

instant_never : (bytes : List ℕ) → Never field.Memory (instant_at bytes)
unfolding instant_at
instant_never bytes =
    two_steps field.Memory (number_at 8 bytes) _ (number_never 8 bytes)
    (λ t. tested field.Memory field.Field _ _ (λ e. cc) (done field.Memory _))

coordinate_never : (bytes : List ℕ) → Never field.Memory (coordinate_at bytes)
unfolding coordinate_at
coordinate_never bytes =
    two_steps field.Memory (number_at 8 bytes) _ (number_never 8 bytes)
    (λ bits. tested field.Memory field.Field _ _ (λ e. cc) (done field.Memory _))

triple_never : (bytes : List ℕ) → Never field.Memory (triple_at bytes)
unfolding triple_at
triple_never bytes =
    two_steps field.Memory (instant_at bytes) _ (instant_never bytes)
    (λ t. two_steps field.Memory (coordinate_at t.1) _ (coordinate_never t.1)
    (λ x. two_steps field.Memory (coordinate_at x.1) _ (coordinate_never x.1) (λ y. done field.Memory _)))

pub wide_byte : (bytes : List ℕ) → Never Memory (wide (byte_at bytes))
wide_byte bytes = wide_never (byte_at bytes) (byte_never bytes)

wide_number : (n : ℕ) (bytes : List ℕ) → Never Memory (wide (number_at n bytes))
wide_number n bytes = wide_never (number_at n bytes) (number_never n bytes)

-- ---- ballots, slots and operations
pub ballot_never : (nodes : ℕ) (bytes : List ℕ) → Never Memory (ballot_at nodes bytes)
unfolding ballot_at
ballot_never nodes bytes =
    two_steps Memory (wide (number_at 8 bytes)) _ (wide_number 8 bytes)
    (λ round. tested Memory Field _ _ (λ e. cc)
    (two_steps Memory (wide (byte_at round.1)) _ (wide_byte round.1) (λ node. tested Memory Field _ _ (λ e. cc) (done Memory _))))

pub slot_never : (bytes : List ℕ) → Never Memory (slot_at bytes)
unfolding slot_at
slot_never bytes =
    two_steps Memory (wide (number_at 4 bytes)) _ (wide_number 4 bytes) (λ slot. tested Memory Field _ _ (λ e. cc) (done Memory _))

pub request_number_never : (bytes : List ℕ) → Never Memory (request_number_at bytes)
unfolding request_number_at
request_number_never bytes =
    two_steps Memory (wide (number_at 8 bytes)) _ (wide_number 8 bytes) (λ number. tested Memory Field _ _ (λ e. cc) (done Memory _))

pub append_never : (bytes : List ℕ) → Never Memory (append_at bytes)
unfolding append_at
append_never bytes =
    two_steps Memory (wide (id_at bytes)) _ (wide_never (id_at bytes) (id_never bytes))
    (λ id. two_steps Memory (wide (triple_at id.1)) _ (wide_never (triple_at id.1) (triple_never id.1)) (λ point. done Memory _))

pub remove_never : (bytes : List ℕ) → Never Memory (remove_at bytes)
unfolding remove_at
remove_never bytes =
    two_steps Memory (wide (id_at bytes)) _ (wide_never (id_at bytes) (id_never bytes)) (λ id. done Memory _)

-- ---- heads
version_never : (bytes : List ℕ) → Never Memory (version_at bytes)
unfolding version_at
version_never bytes =
    two_steps Memory (wide (number_at 2 bytes)) _ (wide_number 2 bytes)
    (λ magic. tested Memory Magic _ _ (λ e. cc)
    (two_steps Memory (wide (byte_at magic.1)) _ (wide_byte magic.1) (λ version. tested Memory Version _ _ (λ e. cc) (done Memory _))))

known_never : (found : Option Kind) (rest : List ℕ) → Never Memory (known found rest)
known_never None rest = λ h. cc
known_never (Some k) rest = λ h. cc

kind_never : (version : ℕ) (bytes : List ℕ) → Never Memory (kind_at version bytes)
unfolding kind_at
kind_never version bytes =
    two_steps Memory (wide (byte_at bytes)) _ (wide_byte bytes)
    (λ byte. known_never (found_among kinds version byte.0) byte.1)

node_never : (nodes : ℕ) (bytes : List ℕ) → Never Memory (node_at nodes bytes)
unfolding node_at
node_never nodes bytes =
    two_steps Memory (wide (byte_at bytes)) _ (wide_byte bytes) (λ node. tested Memory Field _ _ (λ e. cc) (done Memory _))

ends_never : (nodes : ℕ) (bytes : List ℕ) → Never Memory (ends_at nodes bytes)
unfolding ends_at
ends_never nodes bytes =
    two_steps Memory (node_at nodes bytes) _ (node_never nodes bytes)
    (λ from. two_steps Memory (node_at nodes from.1) _ (node_never nodes from.1) (λ to. done Memory _))

pub head_never : (nodes : ℕ) (bytes : List ℕ) → Never Memory (head_at nodes bytes)
unfolding head_at
head_never nodes bytes =
    two_steps Memory (version_at bytes) _ (version_never bytes)
    (λ version. two_steps Memory (kind_at version.0 version.1) _ (kind_never version.0 version.1)
    (λ kind. two_steps Memory (ends_at nodes kind.1) _ (ends_never nodes kind.1) (λ ends. done Memory _)))

-- ---- bodies
above_never : (nodes : ℕ) (refused : Ballot) (bytes : List ℕ) → Never Memory (ballot_above nodes refused bytes)
unfolding ballot_above
above_never nodes refused bytes =
    two_steps Memory (ballot_at nodes bytes) _ (ballot_never nodes bytes) (λ ballot. tested Memory Field _ _ (λ e. cc) (done Memory _))

pub nack_never : (nodes : ℕ) (bytes : List ℕ) → Never Memory (nack_at nodes bytes)
unfolding nack_at
nack_never nodes bytes =
    two_steps Memory (ballot_at nodes bytes) _ (ballot_never nodes bytes)
    (λ ballot. two_steps Memory (ballot_above nodes ballot.0 ballot.1) _ (above_never nodes ballot.0 ballot.1) (λ promised. done Memory _))

pub position_never : (bytes : List ℕ) → Never Memory (position_at bytes)
unfolding position_at
position_never bytes =
    two_steps Memory (wide (number_at 4 bytes)) _ (wide_number 4 bytes) (λ position. tested Memory Field _ _ (λ e. cc) (done Memory _))

below_never : (total : ℕ) (bytes : List ℕ) → Never Memory (part_below total bytes)
unfolding part_below
below_never total bytes =
    two_steps Memory (wide (number_at 4 bytes)) _ (wide_number 4 bytes) (λ offset. tested Memory Field _ _ (λ e. cc) (done Memory _))

-- a field that brings no content, and a body of such fields
field_never : (nodes : ℕ) (field : BodyField) (bytes : List ℕ) → brings_content field ≡ false → Never Memory (field_at nodes field bytes)
field_never nodes a_ballot bytes none = ballot_never nodes bytes
field_never nodes a_slot bytes none = slot_never bytes
field_never nodes a_command bytes none = absurd cc
field_never nodes a_vote bytes none = absurd cc
field_never nodes a_refusal bytes none = nack_never nodes bytes
field_never nodes a_promise bytes none = absurd cc
field_never nodes a_position bytes none = position_never bytes
field_never nodes a_part_number bytes none = below_never LONGEST_SNAPSHOT bytes
field_never nodes a_part bytes none = absurd cc

fields_never : {A : Type 0} (nodes : ℕ) (fields : List BodyField) (make : Values fields → A) (bytes : List ℕ)
    → list_any brings_content fields ≡ false → Never Memory (fields_at nodes fields make bytes)
fields_never nodes [] make bytes none = done Memory (make tt, bytes)
fields_never nodes (field ∷ []) make bytes none =
    two_steps Memory (field_at nodes field bytes) _ (field_never nodes field bytes (neither _ _ none).0) (λ value. done Memory _)
fields_never nodes (field ∷ next ∷ others) make bytes none =
    let n = neither (brings_content field) (list_any brings_content (next ∷ others)) none in
    two_steps Memory (field_at nodes field bytes) _ (field_never nodes field bytes n.0)
    (λ value. fields_never nodes (next ∷ others) (λ values. make (value.0, values)) value.1 n.1)

pub message_never : (k : Kind) → list_any brings_content (fields_of k) ≡ false → (nodes : ℕ) (bytes : List ℕ)
    → Never Memory (message_at k nodes bytes)
unfolding message_at
message_never kind.Promise none nodes bytes = absurd cc
message_never k none nodes bytes = fields_never nodes (fields_of k) (message_with k) bytes none

-- ---- what is returned
-- a fault that a field without memory hands on
pub hands_on_field : {A B : Type 0} (read : Result A FieldFault) (e : FieldFault) (r : Result B WireFault) → Never field.Memory read
    → read ≡ Err e → IsErrAnd r (λ d. d ≡ widened e) → r ≡ Err Memory → ⊥
hands_on_field read field.Memory r one fails given wanted = one fails
hands_on_field read field.Short (Err d) one fails given wanted = cc
hands_on_field read field.Field (Err d) one fails given wanted = cc
hands_on_field read field.Short (Ok x) one fails given wanted = given
hands_on_field read field.Field (Ok x) one fails given wanted = given

-- a fault that a step without memory hands on
pub hands_on : {A B : Type 0} (read : Result A WireFault) (e : WireFault) (r : Result B WireFault) → Never Memory read → read ≡ Err e
    → IsErrAnd r (λ d. d ≡ e) → r ≡ Err Memory → ⊥
hands_on read e (Err d) one fails given wanted = one cc
hands_on read e (Ok x) one fails given wanted = given

-- nor does what is returned of it tell so
pub tells_other : {X Y : Type 0} (view : X → Y) (r : Result X WireFault) (read : Result Y WireFault) → Never Memory read
    → Tells view r read → r ≡ Err Memory → ⊥
tells_other view (Ok x) read one told wanted = cc
tells_other view (Err e) read one told wanted = one cc
