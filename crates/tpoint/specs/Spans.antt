-- From when to when a sequence is.
use Rattle.std.specs.Prelude.{ℕ, ◌-◌, List, length, slice_get}
use Rattle.std.specs.Option.{option_map_or}
use Rattle.tpoint.specs.Fraction.{Fraction}
use Rattle.tpoint.specs.Moving.{Position, Sequence, At}
use Rattle.tpoint.specs.Extents.{Span, closed, LiesIn}
use Rattle.tpoint.specs.declared.point.Point.{Point}

-- the instant listed at a place
abbrev pub instant_at : List Point → ℕ → ℕ
instant_at ps k = option_map_or (λ (p : Point). p.t) (slice_get ps k) 0

-- the period from the first instant to the last
abbrev pub span_of : List Point → Span
span_of ps = closed (instant_at ps 0) (instant_at ps (length ps - 1))

-- it has values in the period alone
pub record HasValuesIn (s : Sequence) (p : Span) : Type 0 where
  pub within : (t : Fraction) (v : Position) → At s t v → LiesIn t p
