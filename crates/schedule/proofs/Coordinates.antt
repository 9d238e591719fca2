-- Which words write a coordinate, and which ones together are a period or a rectangle.
use Rattle.std.proofs.Common.{◌≡◌, ℕ, ◌<◌, ◌≤◌, ◌^◌, suc, ℤ, pos, negsuc, List, ◌∷◌, Option, Some, None, MatchOption, arith, subst, refl}
use Rattle.std.proofs.Common.{sym, ◌∙◌, ◌↔◌, IsSome, IfSome}
use Rattle.std.specs.Fmt.{decimal}
use Rattle.std.proofs.lemmas.Fmt.{signed_decimal_injective}
use Rattle.std.proofs.lemmas.Int.{ints}
use Rattle.std.specs.Int.Signed.{mag}
use Rattle.std.proofs.Common.{to_z, of_z}
use mir.Syntax.{w64}
use Rattle.tpoint.specs.Coordinates.{InRange}
use Rattle.tpoint.specs.Extents.{Span, HasInstant, Area, IsArea}
use Rattle.schedule.specs.Extents.{IsBegin, IsEnd, IsPeriod, IsRect}
use Rattle.schedule.specs.Numbers.{WritesNumber, IsCoordinate, IsSize}
use Rattle.schedule.specs.declared.forms.TheConstants.{SIZES}
use Rattle.schedule.proofs.OneMark.{one_begin, one_end}
use Rattle.schedule.proofs.Decimals.{no_minus, writes_one}

below_limit : (n : ℕ) → InRange (negsuc n) → suc n < 10000000001
below_limit n fits = omega (arith, ints, fits.least)

-- behind a minus sign stands the text of a number that isn't 0
pub minus_writes : (digits : List ℕ) (value : ℤ) → IsCoordinate (45 ∷ digits) value
    → (size : ℕ) × (1 ≤ size) × WritesNumber 0 SIZES digits size
minus_writes digits (pos n) c = absurd (no_minus n digits (omega (arith, ints, c.in_range.greatest)) c.text)
minus_writes digits (negsuc n) c =
    let text : digits ≡ decimal (suc n) = let e = c.text in cc in
    (suc n, omega arith, record { from = omega arith; below = below_limit n c.in_range; text = text })

-- and no zero
pub not_zero : (digits : List ℕ) (size value : ℤ) → IsSize SIZES digits size → of_z w64 size ≡ 0
    → ¬ (IsCoordinate (45 ∷ digits) value)
not_zero digits size value is zero c =
    let m = minus_writes digits value c in
    let wide : WritesNumber 0 (2 ^ 64) digits is.value =
    record { from = omega arith; below = omega (arith, is.writes.below); text = is.writes.text } in
    let same : m.0 ≡ is.value = writes_one digits 0 SIZES is.value m.0 (omega arith) wide m.2 in
    omega (arith, ints, is.is, is.writes.below, zero, same, m.1)

same_span : (a b : Span) → a.begin ≡ b.begin → a.end ≡ b.end → a.begin_in ≡ b.begin_in → a.end_in ≡ b.end_in → a ≡ b
same_span a b p q r s = λ i. record { begin = p i; end = q i; begin_in = r i; end_in = s i }

-- a begin and an end are a period where it has an instant
pub period_made : (begin end : List ℕ) (at : Span) (made : Option Span) → IsBegin begin at.begin at.begin_in → IsEnd end at.end at.end_in
    → IsSome made ↔ HasInstant at → IfSome made (λ p. p ≡ at)
    → MatchOption made ((period : Span) → ¬ (IsPeriod begin end period)) (IsPeriod begin end)
period_made begin end at None begins ends valid value = λ period is.
    let from = one_begin begin _ _ _ _ is.begins begins in
    let to = one_end end _ _ _ _ is.ends ends in
    let none = valid.1 (subst HasInstant (same_span period at from.0 to.0 from.1 to.1) is.has_instant) in cc
period_made begin end at (Some made) begins ends valid value =
    rw value (record { begins = begins; ends = ends; has_instant = valid.0 refl })

-- a word writes one coordinate
small : (value : ℤ) → InRange value → mag value < 2 ^ 63
small (pos n) fits = omega (arith, ints, fits.greatest)
small (negsuc n) fits = omega (arith, ints, fits.least)

pub one_coordinate : (word : List ℕ) (a b : ℤ) → IsCoordinate word a → IsCoordinate word b → a ≡ b
one_coordinate word a b p q =
    signed_decimal_injective a b (small a p.in_range) (small b q.in_range) (sym p.text ∙ q.text)

same_area : (a b : Area) → a.x0 ≡ b.x0 → a.y0 ≡ b.y0 → a.x1 ≡ b.x1 → a.y1 ≡ b.y1 → a ≡ b
same_area a b p q r s = λ i. record { x0 = p i; y0 = q i; x1 = r i; y1 = s i }

-- words are one rectangle
pub one_rect : (x0 y0 x1 y1 : List ℕ) (a b : Area) → IsRect x0 y0 x1 y1 a → IsRect x0 y0 x1 y1 b → a ≡ b
one_rect x0 y0 x1 y1 a b p q =
    same_area a b (one_coordinate x0 _ _ p.left q.left) (one_coordinate y0 _ _ p.bottom q.bottom)
    (one_coordinate x1 _ _ p.right q.right) (one_coordinate y1 _ _ p.top q.top)

pub one_period : (begin end : List ℕ) (a b : Span) → IsPeriod begin end a → IsPeriod begin end b → a ≡ b
one_period begin end a b p q =
    let from = one_begin begin _ _ _ _ p.begins q.begins in
    let to = one_end end _ _ _ _ p.ends q.ends in
    same_span a b from.0 to.0 from.1 to.1

-- four coordinates are a rectangle where they are in order
in_bounds : (x0 y0 x1 y1 : List ℕ) (bounds : Area) (made : Option Area)
    → IsCoordinate x0 bounds.x0 → IsCoordinate y0 bounds.y0 → IsCoordinate x1 bounds.x1 → IsCoordinate y1 bounds.y1
    → IsSome made ↔ IsArea bounds → IfSome made (λ rect. rect ≡ bounds)
    → MatchOption made ((rect : Area) → ¬ (IsRect x0 y0 x1 y1 rect)) (IsRect x0 y0 x1 y1)
in_bounds x0 y0 x1 y1 bounds None a b c d valid value = λ rect is.
    let same : rect ≡ bounds = same_area rect bounds (one_coordinate x0 _ _ is.left a) (one_coordinate y0 _ _ is.bottom b)
    (one_coordinate x1 _ _ is.right c) (one_coordinate y1 _ _ is.top d) in
    let none = valid.1 (subst IsArea same is.in_order) in cc
in_bounds x0 y0 x1 y1 bounds (Some made) a b c d valid value =
    rw value (record { left = a; bottom = b; right = c; top = d; in_order = valid.0 refl })

abbrev pub kept : ℤ → ℤ
kept z = to_z w64 (of_z w64 z)

pub is_kept : (word : List ℕ) (value : ℤ) → IsCoordinate word value → kept value ≡ value
is_kept word value c = omega (arith, ints, c.in_range.least, c.in_range.greatest)

pub rect_made : (x0 y0 x1 y1 : List ℕ) (a b c d : ℤ) (made : Option Area)
    → IsCoordinate x0 a → IsCoordinate y0 b → IsCoordinate x1 c → IsCoordinate y1 d
    → IsSome made ↔ IsArea (record { x0 = kept a; y0 = kept b; x1 = kept c; y1 = kept d })
    → IfSome made (λ rect. rect ≡ record { x0 = kept a; y0 = kept b; x1 = kept c; y1 = kept d })
    → MatchOption made ((rect : Area) → ¬ (IsRect x0 y0 x1 y1 rect)) (IsRect x0 y0 x1 y1)
rect_made x0 y0 x1 y1 a b c d made p q r s valid value =
    let bounds : Area = record { x0 = kept a; y0 = kept b; x1 = kept c; y1 = kept d } in
    in_bounds x0 y0 x1 y1 bounds made (subst (IsCoordinate x0) (sym (is_kept x0 a p)) p)
    (subst (IsCoordinate y0) (sym (is_kept y0 b q)) q) (subst (IsCoordinate x1) (sym (is_kept x1 c r)) r)
    (subst (IsCoordinate y1) (sym (is_kept y1 d s)) s) valid value
