-- What `ever` and `always` answer. Both speak of every instant of the period, whole or fractional.
--
-- The values stand as a relation R between instants and positions: of a moving point, of a leg, of
-- one listed position.
use Rattle.tpoint.specs.Fraction.{Fraction}
use Rattle.tpoint.specs.Moving.{Position, Sequence, At}
use Rattle.tpoint.specs.Extents.{Span, LiesIn, Shares, Area, Inside}
use Rattle.predicates.specs.declared.questions.Tri.{Tri}
use Rattle.predicates.specs.declared.questions.Tri.TheVariants.{Yes, No, None}

-- some value of the period lies in the rectangle
pub record SomeInside (R : Fraction → Position → Type 0) (p : Span) (r : Area) : Type 0 where
  pub t : Fraction
  pub v : Position
  pub in_period : LiesIn t p
  pub value : R t v
  pub inside : Inside v r

-- every value of the period lies in the rectangle
pub record AllInside (R : Fraction → Position → Type 0) (p : Span) (r : Area) : Type 0 where
  pub inside : (t : Fraction) (v : Position) → LiesIn t p → R t v → Inside v r

abbrev pub EverOf : (Fraction → Position → Type 0) → Span → Area → Tri → Type 0
EverOf R p r Yes = SomeInside R p r
EverOf R p r No = Shares R p × ¬ SomeInside R p r
EverOf R p r None = ¬ Shares R p

abbrev pub AlwaysOf : (Fraction → Position → Type 0) → Span → Area → Tri → Type 0
AlwaysOf R p r Yes = Shares R p × AllInside R p r
AlwaysOf R p r No = Shares R p × ¬ AllInside R p r
AlwaysOf R p r None = ¬ Shares R p

-- the answers for a moving point
abbrev pub IsEver : Sequence → Span → Area → Tri → Type 0
IsEver s = EverOf (At s)

abbrev pub IsAlways : Sequence → Span → Area → Tri → Type 0
IsAlways s = AlwaysOf (At s)
