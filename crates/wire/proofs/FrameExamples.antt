-- The frames that were worked out by hand: what they are read as, and how they are spelled.
use Rattle.std.proofs.Common.{◌≡◌, ℕ, List, [], ◌∷◌, Ok, Err, refl}
use Rattle.store.specs.declared.op.Op.TheVariants.{Remove}
use Rattle.sessions.specs.declared.command.Command.{Command}
use Rattle.sessions.specs.declared.command.Command.TheVariants.{Request}
use Rattle.wire.specs.declared.frames.envelope.Envelope.{Envelope}
use Rattle.wire.specs.declared.frames.fault.WireFault.TheVariants.{Short, Magic, Version, Field, Trailing}
use Rattle.wire.specs.declared.frames.fault.WireFault.TheVariants as fault
use Rattle.wire.specs.declared.frames.message.Message.TheVariants.{Prepare, Promise, Nack, Accept, Ask, Decided, SnapAsk, SnapPart, Behind}
use Rattle.wire.specs.FrameSpelling.{spelling}
use Rattle.fields.specs.Reading.{id_at}
use Rattle.wire.specs.Reading.{ballot_of, ballot_at, slot_at, command_at, asked_at, request_at, request_number_at, op_at, remove_at}
use Rattle.wire.specs.FrameReading.{version_at, kind_at, node_at, ends_at, head_at, range_at, few_at, entries_at, told_at, promise_at}
use Rattle.wire.specs.FrameReading.{ballot_above, nack_at, vote_at, message_at, envelope_at, frame_in}
use Rattle.wire.specs.FrameReading.{position_at, part_below, total_at, part_bytes_at, piece_at}

-- an envelope, its bytes, and what three nodes read in them
record Vector (e : Envelope) (bytes : List ℕ) : Type 0 where
  pub spelled : spelling e ≡ bytes
  pub read : frame_in 3 bytes ≡ Ok e

prepare_vector : Vector (record { from = 0; to = 1; message = Prepare (ballot_of 1 0) 0 })
    (0x4D ∷ 0x50 ∷ 1 ∷ 1 ∷ 0 ∷ 1 ∷ 0 ∷ 0 ∷ 0 ∷ 0 ∷ 0 ∷ 0 ∷ 0 ∷ 1 ∷ 0 ∷ 0 ∷ 0 ∷ 0 ∷ 0 ∷ [])
unfolding frame_in envelope_at head_at version_at kind_at ends_at node_at message_at ballot_at ballot_of slot_at
prepare_vector = record { spelled = refl; read = refl }

promise_vector : Vector (record {
  from = 0;
  to = 0;
  message = Promise
      (record { ballot = ballot_of 1 0; first = 0; last = 65535; entries = [] });
})
    (0x4D ∷ 0x50 ∷ 1 ∷ 2 ∷ 0 ∷ 0 ∷ 0 ∷ 0 ∷ 0 ∷ 0 ∷ 0 ∷ 0 ∷ 0 ∷ 1 ∷ 0 ∷ 0 ∷ 0 ∷ 0 ∷ 0 ∷ 0 ∷ 0 ∷ 0xFF ∷ 0xFF ∷ 0 ∷ [])
unfolding frame_in envelope_at head_at version_at kind_at ends_at node_at message_at promise_at range_at told_at few_at entries_at ballot_at
    ballot_of slot_at
promise_vector = record { spelled = refl; read = refl }

nack_vector : Vector (record { from = 0; to = 0; message = Nack (record { ballot = ballot_of 1 0; promised = ballot_of 1 2 }) })
    (0x4D ∷ 0x50 ∷ 1 ∷ 3 ∷ 0 ∷ 0 ∷ 0 ∷ 0 ∷ 0 ∷ 0 ∷ 0 ∷ 0 ∷ 0 ∷ 1 ∷ 0 ∷ 0 ∷ 0 ∷ 0 ∷ 0 ∷ 0 ∷ 0 ∷ 0 ∷ 1 ∷ 2 ∷ [])
unfolding frame_in envelope_at head_at version_at kind_at ends_at node_at message_at nack_at ballot_above ballot_at ballot_of slot_at
nack_vector = record { spelled = refl; read = refl }

-- request 7:1 removes `bus-7`
removal : Command
removal = Request (record { client = 7; number = 1; op = Remove (0x62 ∷ 0x75 ∷ 0x73 ∷ 0x2D ∷ 0x37 ∷ []) })

accept_vector : Vector (record { from = 0; to = 1; message = Accept (record { slot = 0; ballot = ballot_of 1 0; command = removal }) })
    (0x4D ∷ 0x50 ∷ 1 ∷ 4 ∷ 0 ∷ 1 ∷ 0 ∷ 0 ∷ 0 ∷ 0 ∷ 0 ∷ 0 ∷ 0 ∷ 1 ∷ 0 ∷ 0 ∷ 0 ∷ 0 ∷ 0
    ∷ 1 ∷ 7 ∷ 0 ∷ 0 ∷ 0 ∷ 0 ∷ 0 ∷ 0 ∷ 0 ∷ 1 ∷ 3 ∷ 5 ∷ 0x62 ∷ 0x75 ∷ 0x73 ∷ 0x2D ∷ 0x37 ∷ [])
unfolding removal frame_in envelope_at head_at version_at kind_at ends_at node_at message_at vote_at ballot_at ballot_of slot_at command_at
    asked_at request_at request_number_at op_at remove_at id_at
accept_vector = record { spelled = refl; read = refl }

ask_vector : Vector (record { from = 0; to = 1; message = Ask 0 }) (0x4D ∷ 0x50 ∷ 1 ∷ 6 ∷ 0 ∷ 1 ∷ 0 ∷ 0 ∷ 0 ∷ 0 ∷ [])
unfolding frame_in envelope_at head_at version_at kind_at ends_at node_at message_at slot_at
ask_vector = record { spelled = refl; read = refl }

decided_vector : Vector (record { from = 1; to = 0; message = Decided 0 removal })
    (0x4D ∷ 0x50 ∷ 1 ∷ 7 ∷ 1 ∷ 0 ∷ 0 ∷ 0 ∷ 0 ∷ 0 ∷ 1 ∷ 7 ∷ 0 ∷ 0 ∷ 0 ∷ 0 ∷ 0 ∷ 0 ∷ 0 ∷ 1 ∷ 3 ∷ 5 ∷ 0x62 ∷ 0x75 ∷ 0x73 ∷ 0x2D ∷ 0x37 ∷ [])
unfolding removal frame_in envelope_at head_at version_at kind_at ends_at node_at message_at slot_at command_at asked_at
    request_at request_number_at op_at remove_at id_at
decided_vector = record { spelled = refl; read = refl }

snap_ask_vector : Vector (record { from = 2; to = 0; message = SnapAsk 1 0 })
    (0x4D ∷ 0x50 ∷ 2 ∷ 8 ∷ 2 ∷ 0 ∷ 0 ∷ 0 ∷ 0 ∷ 1 ∷ 0 ∷ 0 ∷ 0 ∷ 0 ∷ [])
unfolding frame_in envelope_at head_at version_at kind_at ends_at node_at message_at position_at part_below
snap_ask_vector = record { spelled = refl; read = refl }

-- the whole text of an empty database
snap_part_vector : Vector (record {
  from = 0;
  to = 2;
  message = SnapPart
      (record { position = 1; total = 4; number = 0; bytes = 0 ∷ 0 ∷ 0 ∷ 0 ∷ [] });
})
    (0x4D ∷ 0x50 ∷ 2 ∷ 9 ∷ 0 ∷ 2 ∷ 0 ∷ 0 ∷ 0 ∷ 1 ∷ 0 ∷ 0 ∷ 0 ∷ 4 ∷ 0 ∷ 0 ∷ 0 ∷ 0 ∷ 0 ∷ 4 ∷ 0 ∷ 0 ∷ 0 ∷ 0 ∷ [])
unfolding frame_in envelope_at head_at version_at kind_at ends_at node_at message_at piece_at position_at total_at part_below part_bytes_at
snap_part_vector = record { spelled = refl; read = refl }

behind_vector : Vector (record { from = 0; to = 2; message = Behind 1 }) (0x4D ∷ 0x50 ∷ 2 ∷ 0xA ∷ 0 ∷ 2 ∷ 0 ∷ 0 ∷ 0 ∷ 1 ∷ [])
unfolding frame_in envelope_at head_at version_at kind_at ends_at node_at message_at position_at
behind_vector = record { spelled = refl; read = refl }

-- ---- faults
nothing_is_short : frame_in 3 [] ≡ Err Short
unfolding frame_in envelope_at head_at version_at
nothing_is_short = refl

other_magic : frame_in 3 (0x4D ∷ 0x51 ∷ []) ≡ Err Magic
unfolding frame_in envelope_at head_at version_at
other_magic = refl

other_version : frame_in 3 (0x4D ∷ 0x50 ∷ 3 ∷ []) ≡ Err Version
unfolding frame_in envelope_at head_at version_at
other_version = refl

other_kind : frame_in 3 (0x4D ∷ 0x50 ∷ 1 ∷ 8 ∷ []) ≡ Err fault.Kind
unfolding frame_in envelope_at head_at version_at kind_at
other_kind = refl

-- a kind that has the other version
asked_of_version_1 : frame_in 3 (0x4D ∷ 0x50 ∷ 2 ∷ 6 ∷ []) ≡ Err fault.Kind
unfolding frame_in envelope_at head_at version_at kind_at
asked_of_version_1 = refl

eleventh_kind : frame_in 3 (0x4D ∷ 0x50 ∷ 2 ∷ 0xB ∷ []) ≡ Err fault.Kind
unfolding frame_in envelope_at head_at version_at kind_at
eleventh_kind = refl

fourth_node : frame_in 3 (0x4D ∷ 0x50 ∷ 1 ∷ 6 ∷ 3 ∷ []) ≡ Err Field
unfolding frame_in envelope_at head_at version_at kind_at ends_at node_at
fourth_node = refl

one_more : frame_in 3 (0x4D ∷ 0x50 ∷ 1 ∷ 6 ∷ 0 ∷ 1 ∷ 0 ∷ 0 ∷ 0 ∷ 0 ∷ 0 ∷ []) ≡ Err Trailing
unfolding frame_in envelope_at head_at version_at kind_at ends_at node_at message_at slot_at
one_more = refl
