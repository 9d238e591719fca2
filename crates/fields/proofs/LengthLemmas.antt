-- How many bytes fields take.
use Rattle.std.proofs.Common.{◌≡◌, ℕ, ◌+◌, ◌*◌, List, [], ◌∷◌, ◌++◌, length, refl, ap, ◌∙◌, arith}
use Rattle.std.specs.List.{flat_map}
use Rattle.std.proofs.lemmas.List.{length-append}
use Rattle.std.proofs.lemmas.List.Concat.{flat_map-cons}
use Rattle.tpoint.specs.Moving.{Sequence}
use Rattle.tpoint.specs.declared.point.Point.{Point}
use Rattle.fields.specs.Spelling.{triple_bytes, sequence_bytes}

pub triple_len : (p : Point) → length (triple_bytes p) ≡ 24
unfolding triple_bytes
triple_len p = refl

pub triples_len : (ps : List Point) → length (flat_map triple_bytes ps) ≡ 24 * length ps
triples_len [] = refl
triples_len (p ∷ ps) =
    ap length (flat_map-cons triple_bytes p ps) ∙ length-append (triple_bytes p) (flat_map triple_bytes ps)
    ∙ (let rest = triples_len ps in let one = triple_len p in omega arith)

pub sequence_len : (s : Sequence) → length (sequence_bytes s) ≡ 3 + 24 * length s.points
sequence_len s = let rest = triples_len s.points in omega arith

-- an id's text, and what stands behind it
pub append_len : (id : List ℕ) (p : Point) → length (id ++ triple_bytes p) ≡ length id + 24
append_len id p = length-append id (triple_bytes p) ∙ (let one = triple_len p in omega arith)

pub put_len : (id : List ℕ) (s : Sequence) → length (id ++ sequence_bytes s) ≡ length id + (3 + 24 * length s.points)
put_len id s = length-append id (sequence_bytes s) ∙ (let one = sequence_len s in omega arith)
