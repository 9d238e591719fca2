-- The canonical document stands for its feature.
use Rattle.std.proofs.Common.{◌≡◌, ℕ, ℤ, pos, negsuc, ◌<◌, suc, List, [], ◌∷◌, refl, inl, arith, Some}
use Rattle.std.proofs.lemmas.Int.{ints}
use Rattle.serde_json.specs.Data.{Data}
use Rattle.serde_json.specs.Find.{as_i64, of_integer}
use Rattle.tpoint.specs.declared.point.Point.{Point}
use Rattle.tpoint.specs.Ids.{IsId}
use Rattle.tpoint.specs.Moving.{IsValid, InBounds}
use Rattle.tpoint.specs.Places.{EachAt}
use Rattle.tpoint.specs.Coordinates.{InRange}
use Rattle.mfjson.specs.declared.feature.Feature.{Feature}
use Rattle.mfjson.specs.Pairs.{Pairwise}
use Rattle.mfjson.specs.Document.{WritesWhen, WritesWhere, SaysWhen, SaysWhere, IsFeatureValue, canonical}
use Rattle.tpoint.specs.Interps.{interp_name}

-- ---- what is written says the same
says_when : (ds : List Data) (ps : List Point) → Pairwise WritesWhen ds ps → Pairwise SaysWhen ds ps
says_when [] [] w = tt
says_when [] (p ∷ ps) w = absurd w
says_when (d ∷ ds) [] w = absurd w
says_when (d ∷ ds) (p ∷ ps) w =
    (record { text = w.0.text; is_text = w.0.is_text; read = inl w.0.is_datetime }, says_when ds ps w.1)

small : (n : ℕ) → n < 9223372036854775808 → as_i64 (of_integer (pos n)) ≡ Some (pos n)
small n h = grind arith

read_back : (z : ℤ) → InRange z → as_i64 (of_integer z) ≡ Some z
read_back (pos n) h = small n (let top = h.greatest in omega (arith, ints))
read_back (negsuc n) h = refl

says_where : (ds : List Data) (ps : List Point) → Pairwise WritesWhere ds ps → ((k : ℕ) → EachAt ps InBounds k) →
    Pairwise SaysWhere ds ps
says_where [] [] w all = tt
says_where [] (p ∷ ps) w all = absurd w
says_where (d ∷ ds) [] w all = absurd w
says_where (d ∷ ds) (p ∷ ps) w all =
    let in_bounds : InBounds p = all 0 p refl in (
      record {
        x = of_integer p.x;
        y = of_integer p.y;
        pair = w.0;
        x_is = read_back p.x in_bounds.x_fits;
        y_is = read_back p.y in_bounds.y_fits;
      },
      says_where ds ps w.1 (λ k. all (suc k)),
    )

pub canonical_stands : (f : Feature) (times places : List Data) → Pairwise WritesWhen times f.seq.points →
    Pairwise WritesWhere places f.seq.points → IsId f.id → IsValid f.seq →
    IsFeatureValue (canonical f.id (interp_name f.seq.interp) times places) f
canonical_stands f times places when where_to id valid =
    record {
      geometry = _;
      three_members = refl;
      kind = refl;
      id = refl;
      temporal_geometry = refl;
      is_geometry = record {
        times = times;
        places = places;
        four_members = refl;
        kind = refl;
        datetimes = refl;
        coordinates = refl;
        interpolation = refl;
        when = says_when times f.seq.points when;
        where_to = says_where places f.seq.points where_to valid.in_range;
      };
      id_is = id;
      seq_is = valid;
    }
