-- The definitions on worked bytes, both ways.
use Rattle.std.proofs.Common.{◌≡◌, ℕ, List, [], ◌∷◌, ◌++◌, Ok, Err, refl}
use Rattle.std.specs.Prelude.{pos, negsuc}
use Rattle.tpoint.specs.Moving.{Sequence}
use Rattle.tpoint.specs.declared.interp.Interp.TheVariants.{Linear}
use Rattle.fields.specs.declared.fault.FieldFault.TheVariants.{Short, Field}
use Rattle.fields.specs.Spelling.{id_bytes, triple_bytes, sequence_bytes}
use Rattle.fields.specs.Reading.{id_at, instant_at, coordinate_at, triple_at, triple_from, triples_at, interp_at, count_at, sequence_at}

-- `bus-7`
abbrev bus : List ℕ
bus = 98 ∷ 117 ∷ 115 ∷ 45 ∷ 55 ∷ []

bus_spelled : id_bytes bus ≡ 5 ∷ 98 ∷ 117 ∷ 115 ∷ 45 ∷ 55 ∷ []
bus_spelled = refl

bus_read : id_at (id_bytes bus ++ 9 ∷ []) ≡ Ok (bus, 9 ∷ [])
unfolding id_at
bus_read = refl

-- a byte that is none of an id's comes before the end of the bytes
blank_first : id_at (5 ∷ 98 ∷ 32 ∷ []) ≡ Err Field
unfolding id_at
blank_first = refl

end_first : id_at (5 ∷ 98 ∷ 117 ∷ []) ≡ Err Short
unfolding id_at
end_first = refl

-- Linear, (0, 0) at 1577836800000 ms and (10, 5) three seconds later, in 51 bytes
abbrev way : Sequence
way = record {
  interp = Linear;
  points = record { t = 1577836800000; x = pos 0; y = pos 0 } ∷ record { t = 1577836803000; x = pos 10; y = pos 5 } ∷ [];
}

way_spelled : sequence_bytes way ≡
    3 ∷ 0 ∷ 2
    ∷ 0 ∷ 0 ∷ 1 ∷ 111 ∷ 94 ∷ 102 ∷ 232 ∷ 0 ∷ 0 ∷ 0 ∷ 0 ∷ 0 ∷ 0 ∷ 0 ∷ 0 ∷ 0 ∷ 0 ∷ 0 ∷ 0 ∷ 0 ∷ 0 ∷ 0 ∷ 0 ∷ 0
    ∷ 0 ∷ 0 ∷ 1 ∷ 111 ∷ 94 ∷ 102 ∷ 243 ∷ 184 ∷ 0 ∷ 0 ∷ 0 ∷ 0 ∷ 0 ∷ 0 ∷ 0 ∷ 10 ∷ 0 ∷ 0 ∷ 0 ∷ 0 ∷ 0 ∷ 0 ∷ 0 ∷ 5 ∷ []
unfolding triple_bytes
way_spelled = refl

way_read : sequence_at 2 (sequence_bytes way) ≡ Ok (way, [])
unfolding sequence_at interp_at count_at triples_at triple_from triple_at instant_at coordinate_at triple_bytes
way_read = refl

-- more points than the reader takes: the count is refused, before any triple is read
way_too_long : sequence_at 1 (3 ∷ 0 ∷ 2 ∷ []) ≡ Err Field
unfolding sequence_at interp_at count_at
way_too_long = refl

-- a coordinate below 0 is spelled as two's complement
below_0 : coordinate_at (255 ∷ 255 ∷ 255 ∷ 255 ∷ 255 ∷ 255 ∷ 255 ∷ 246 ∷ []) ≡ Ok (negsuc 9, [])
unfolding coordinate_at
below_0 = refl
