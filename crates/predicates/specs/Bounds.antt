-- Ends that count or not.
use Rattle.std.specs.Prelude.{pos}
use Rattle.tpoint.specs.Fraction.{Fraction}
use Rattle.predicates.specs.declared.bounds.Bound.{Bound}

-- the parameter at which an end is
abbrev pub parameter : Bound → Fraction
parameter b = record { num = pos b.num; den = b.den; at_least_one = b.positive }
