-- What windows hold.
use Rattle.std.proofs.Common.{◌≡◌, ℤ, pos, ◌-ℤ◌, ◌↔◌, Bool, IsTrue, Option, is_some, Some, None, refl, subst, arith}
use Rattle.std.proofs.lemmas.Int.{ints}
use Rattle.tpoint.proofs.Fractions.{≤ᶠ_trans}
use Rattle.tpoint.specs.Fraction.{Fraction, ◌≤ᶠ◌, whole}
use Rattle.tpoint.specs.Ways.{way}
use Rattle.predicates.specs.declared.bounds.Bound.{Bound}
use Rattle.predicates.specs.declared.windows.Window.{Window}
use Rattle.tpoint.specs.Extents.{Before}
use Rattle.predicates.specs.Bounds.{parameter}
use Rattle.predicates.specs.Windows.{InLeg, InWindow, IsWindowOf, IsInner}
use Rattle.predicates.proofs.BoundLemmas.{between_ends}
use Rattle.predicates.proofs.Margins.{rises, falls}

-- there is a parameter in a window
pub some_parameter : (w : Window) → (u : Fraction) × InWindow u w
some_parameter w =
    let f = between_ends w.low.counts w.high.counts (parameter w.low) (parameter w.high) w.inhabited in
    (f.0, record { from = f.1; to = f.2 })

-- a window is there exactly where some parameter has the property
pub is_some_of : (P : Fraction → Type 0) (o : Option Window) → IsWindowOf o P → IsTrue (is_some o) ↔ ((u : Fraction) × P u)
is_some_of P None none = (λ e. absurd (cc), λ h. absurd (none h.0 h.1))
is_some_of P (Some w) is = (λ _. let p = some_parameter w in (p.0, (is p.0).0 p.1), λ _. refl)

-- a property that holds of the same parameters has the same window
pub same_window : (P Q : Fraction → Type 0) (o : Option Window) → ((u : Fraction) → P u ↔ Q u) → IsWindowOf o P → IsWindowOf o Q
same_window P Q None same none = λ u q. none u ((same u).1 q)
same_window P Q (Some w) same is = λ u. (λ h. (same u).0 ((is u).0 h), λ q. (is u).1 ((same u).1 q))

-- the same of a part of a window
pub same_part : (w : Window) (P Q : Fraction → Type 0) (o : Option Window) → IsWindowOf o (λ u. InWindow u w × P u) →
    ((u : Fraction) → P u ↔ Q u) → IsWindowOf o (λ u. InWindow u w × Q u)
same_part w P Q o is same =
    same_window (λ u. InWindow u w × P u) (λ u. InWindow u w × Q u) o
    (λ u. (λ h. (h.0, (same u).0 h.1), λ h. (h.0, (same u).1 h.1)))
    is

-- a window lies in its leg
in_leg : (b : Bound) → (whole (pos 0) ≤ᶠ parameter b) × (parameter b ≤ᶠ whole (pos 1))
in_leg b = (record { cross = omega (arith, ints) }, record { cross = omega (arith, ints, b.at_most_one) })

pub within_leg : (w : Window) (u : Fraction) → InWindow u w → InLeg u
within_leg w u h =
    record { from = ≤ᶠ_trans (in_leg w.low).0 h.from.not_after; to = ≤ᶠ_trans h.to.not_after (in_leg w.high).1 }

-- ---- the part of a window on the inner side, where a margin changes its side
pub from_crossing : (counts : Bool) (w : Window) (b : Bound) (from to : ℤ) (o : Option Window) → b.counts ≡ counts →
    pos b.num ≡ pos 0 -ℤ from → pos b.den ≡ to -ℤ from → IsWindowOf o (λ u. InWindow u w × Before b.counts (parameter b) u) →
    IsWindowOf o (λ u. InWindow u w × IsInner counts (way from to u))
from_crossing counts w b from to o same e f is =
    same_part w (λ u. Before b.counts (parameter b) u) (λ u. IsInner counts (way from to u)) o is
    (λ u. subst (λ (s : Bool). Before b.counts (parameter b) u ↔ IsInner s (way from to u)) same
    (rises b.counts (parameter b) u from to e f))

pub until_crossing : (counts : Bool) (w : Window) (b : Bound) (from to : ℤ) (o : Option Window) → b.counts ≡ counts → pos b.num ≡ from →
    pos b.den ≡ from -ℤ to → IsWindowOf o (λ u. InWindow u w × Before b.counts u (parameter b)) →
    IsWindowOf o (λ u. InWindow u w × IsInner counts (way from to u))
until_crossing counts w b from to o same e f is =
    same_part w (λ u. Before b.counts u (parameter b)) (λ u. IsInner counts (way from to u)) o is
    (λ u. subst (λ (s : Bool). Before b.counts u (parameter b) ↔ IsInner s (way from to u)) same
    (falls b.counts (parameter b) u from to e f))
