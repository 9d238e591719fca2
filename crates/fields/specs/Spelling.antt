-- How fields are spelled, and which values they may have. All numbers are big-endian.
use Rattle.std.specs.Prelude.{ℕ, pos, ◌+◌, ◌≤◌, List, [], ◌∷◌, ◌++◌, length}
use Rattle.std.specs.List.{flat_map}
use Rattle.std.specs.Int.{cast_unsigned, w64}
use Rattle.byteorder.specs.Endian.{big_bytes}
use Rattle.tpoint.specs.Instants.{IsInstant}
use Rattle.tpoint.specs.Moving.{Sequence, InBounds}
use Rattle.tpoint.specs.declared.interp.Interp.{Interp}
use Rattle.tpoint.specs.declared.interp.Interp.TheVariants.{Discrete, Step, Linear}
use Rattle.tpoint.specs.declared.point.Point.{Point}

-- ---- ids
-- the length in one byte, then the text
abbrev pub id_bytes : List ℕ → List ℕ
id_bytes id = length id ∷ id

-- ---- triples
-- the instant and the coordinates in eight bytes each, negative ones as two's complement
unfoldable pub triple_bytes : Point → List ℕ
triple_bytes p =
    big_bytes 8 p.t ++ big_bytes 8 (cast_unsigned w64 p.x) ++ big_bytes 8 (cast_unsigned w64 p.y)

pub record TripleFits (p : Point) : Type 0 where
  pub instant : IsInstant (pos p.t)
  pub in_bounds : InBounds p

-- each triple fits and is not before the first instant given, and each later than the one before it
abbrev pub TriplesFit : ℕ → List Point → Type 0
TriplesFit from [] = Unit {0}
TriplesFit from (p ∷ ps) = TripleFits p × (from ≤ p.t) × TriplesFit (p.t + 1) ps

-- ---- sequences
abbrev pub interp_byte : Interp → ℕ
interp_byte Discrete = 1
interp_byte Step = 2
interp_byte Linear = 3

-- the interpolation, the count in two bytes, the triples
abbrev pub sequence_bytes : Sequence → List ℕ
sequence_bytes s =
    interp_byte s.interp ∷ (big_bytes 2 (length s.points) ++ flat_map triple_bytes s.points)

-- at most so many points, which ascend
pub record SequenceFits (most : ℕ) (s : Sequence) : Type 0 where
  pub not_empty : 1 ≤ length s.points
  pub not_too_many : length s.points ≤ most
  pub triples : TriplesFit 0 s.points
