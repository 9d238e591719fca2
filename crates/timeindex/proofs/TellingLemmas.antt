-- Where an entry overlaps, an id is told.
use Rattle.std.proofs.Common.{◌≡◌, ℕ, zero, suc, ◌<◌, List, [], ◌∷◌, Bool, true, false, cond, length, get_or, map, filter, ◌∙◌, sym, ap}
use Rattle.std.proofs.Common.{arith}
use Rattle.tpoint.specs.Extents.{Span}
use Rattle.timeindex.specs.Entries.{Entry, id_of, overlaps, ids_overlapping}

-- of the first entry, and of those behind it
first_is_told : (b : Bool) (x : Entry) (rest : List Entry) → map id_of (cond b (x ∷ rest) rest) ≡ [] → b ≡ true → ⊥
first_is_told true x rest none over = absurd (cc none)
first_is_told false x rest none over = absurd (cc over)

none_behind : (b : Bool) (x : Entry) (rest : List Entry) → map id_of (cond b (x ∷ rest) rest) ≡ [] → map id_of rest ≡ []
none_behind true x rest none = absurd (cc none)
none_behind false x rest none = none

pub one_is_told : (p : Span) (e d : Entry) (es : List Entry) (i : ℕ) → i < length es → e ≡ get_or es i d → overlaps p e ≡ true
    → ids_overlapping es p ≡ [] → ⊥
one_is_told p e d [] i within is over none = absurd (omega (arith, within))
one_is_told p e d (x ∷ es) zero within is over none =
    first_is_told (overlaps p x) x (filter (overlaps p) es) none (sym (ap (overlaps p) is) ∙ over)
one_is_told p e d (x ∷ es) (suc i) within is over none =
    one_is_told p e d es i (omega (arith, within)) is over (none_behind (overlaps p x) x (filter (overlaps p) es) none)
