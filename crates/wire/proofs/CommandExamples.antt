-- The definitions on worked bytes, both ways.
use Rattle.std.proofs.Common.{◌≡◌, ℕ, List, [], ◌∷◌, ◌++◌, Ok, Err, refl}
use Rattle.std.specs.Prelude.{pos}
use Rattle.tpoint.specs.Moving.{Sequence}
use Rattle.tpoint.specs.declared.interp.Interp.TheVariants.{Linear}
use Rattle.store.specs.declared.op.Op.TheVariants.{Put, Remove}
use Rattle.sessions.specs.declared.command.Command.{Command}
use Rattle.sessions.specs.declared.command.Command.TheVariants.{Request}
use Rattle.fields.specs.Spelling.{triple_bytes}
use Rattle.fields.specs.Reading.{id_at, instant_at, coordinate_at, triple_at, triple_from, triples_at, interp_at, count_at, sequence_at}
use Rattle.wire.specs.declared.frames.fault.WireFault.TheVariants.{Field}
use Rattle.wire.specs.Spelling.{op_bytes, command_bytes}
use Rattle.wire.specs.Reading.{ballot_at, put_at, remove_at, op_at, request_number_at, request_at, asked_at, command_at}

-- `bus-7`
abbrev bus : List ℕ
bus = 98 ∷ 117 ∷ 115 ∷ 45 ∷ 55 ∷ []

-- the request 7:1 to remove it, in 17 bytes
abbrev removal : Command
removal = Request (record { client = 7; number = 1; op = Remove bus })

abbrev removal_bytes : List ℕ
removal_bytes = 1 ∷ 7 ∷ 0 ∷ 0 ∷ 0 ∷ 0 ∷ 0 ∷ 0 ∷ 0 ∷ 1 ∷ 3 ∷ 5 ∷ 98 ∷ 117 ∷ 115 ∷ 45 ∷ 55 ∷ []

removal_spelled : command_bytes removal ≡ removal_bytes
removal_spelled = refl

removal_read : command_at (removal_bytes ++ 9 ∷ []) ≡ Ok (removal, 9 ∷ [])
unfolding command_at asked_at request_at request_number_at op_at remove_at id_at
removal_read = refl

-- a request's number is at least 1
number_0 : command_at (1 ∷ 7 ∷ 0 ∷ 0 ∷ 0 ∷ 0 ∷ 0 ∷ 0 ∷ 0 ∷ 0 ∷ []) ≡ Err Field
unfolding command_at asked_at request_at request_number_at
number_0 = refl

-- a ballot's round is tested before its node is read
round_0 : ballot_at 3 (0 ∷ 0 ∷ 0 ∷ 0 ∷ 0 ∷ 0 ∷ 0 ∷ 0 ∷ []) ≡ Err Field
unfolding ballot_at
round_0 = refl

-- Linear, (0, 0) at 1577836800000 ms and (10, 5) three seconds later, in 58 bytes
abbrev way : Sequence
way = record {
  interp = Linear;
  points = record { t = 1577836800000; x = pos 0; y = pos 0 } ∷ record { t = 1577836803000; x = pos 10; y = pos 5 } ∷ [];
}

way_spelled : op_bytes (Put bus way) ≡
    1 ∷ 5 ∷ 98 ∷ 117 ∷ 115 ∷ 45 ∷ 55 ∷ 3 ∷ 0 ∷ 2
    ∷ 0 ∷ 0 ∷ 1 ∷ 111 ∷ 94 ∷ 102 ∷ 232 ∷ 0 ∷ 0 ∷ 0 ∷ 0 ∷ 0 ∷ 0 ∷ 0 ∷ 0 ∷ 0 ∷ 0 ∷ 0 ∷ 0 ∷ 0 ∷ 0 ∷ 0 ∷ 0 ∷ 0
    ∷ 0 ∷ 0 ∷ 1 ∷ 111 ∷ 94 ∷ 102 ∷ 243 ∷ 184 ∷ 0 ∷ 0 ∷ 0 ∷ 0 ∷ 0 ∷ 0 ∷ 0 ∷ 10 ∷ 0 ∷ 0 ∷ 0 ∷ 0 ∷ 0 ∷ 0 ∷ 0 ∷ 5 ∷ []
unfolding triple_bytes
way_spelled = refl

way_read : op_at (op_bytes (Put bus way)) ≡ Ok (Put bus way, [])
unfolding op_at put_at id_at sequence_at interp_at count_at triples_at triple_from triple_at instant_at coordinate_at triple_bytes
way_read = refl
