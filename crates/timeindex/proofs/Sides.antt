-- The sides of a period, by its whole instants.
use Rattle.std.proofs.Common.{◌≡◌, ℕ, zero, suc, ◌+◌, ◌-◌, ◌≤◌, Bool, true, false, ◌&&◌, nat_le, nat_lt, if◌then◌else◌, refl, arith}
use Rattle.std.proofs.lemmas.Bool.Decides.{nat_tests}
use Rattle.tpoint.specs.Extents.{Span, HasInstant, first_whole, last_whole}
use Rattle.timeindex.specs.Entries.{Entry, overlaps}

by_the_last : (first end : ℕ) (end_in : Bool) → (end_in ≡ false → 1 ≤ end)
    → nat_le first (if end_in then end else end - 1) ≡ (if end_in then nat_le first end else nat_lt first end)
by_the_last first end true later = refl
by_the_last first end false later = grind (arith, nat_tests, later refl)

from_the_first : (begin last : ℕ) (begin_in : Bool)
    → nat_le (if begin_in then begin else begin + 1) last ≡ (if begin_in then nat_le begin last else nat_lt begin last)
from_the_first begin last true = refl
from_the_first begin last false = grind (arith, nat_tests)

-- a period whose end isn't in it doesn't end at zero
ends_later : (p : Span) → HasInstant p → p.end_in ≡ false → 1 ≤ p.end
ends_later p has not_in = by p.end refl
  where
    by : (end : ℕ) → p.end ≡ end → 1 ≤ p.end
    by zero is =
        let same : p.begin ≡ p.end = omega (arith, is, has.ordered) in
        let both = has.one_instant same in
        let inside = both.1 in
        cc
    by (suc n) is = omega (arith, is)

pub overlaps_by_whole : (p : Span) (e : Entry) → HasInstant p
    → (nat_le e.first (last_whole p) && nat_le (first_whole p) e.last) ≡ overlaps p e
overlaps_by_whole p e has = λ i. by_the_last e.first p.end p.end_in (ends_later p has) i && from_the_first p.begin e.last p.begin_in i
