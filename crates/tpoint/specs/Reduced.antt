-- Fractions in lowest terms, as the code gives them.
use Rattle.std.specs.Prelude.{◌≡◌, ◌≤◌, ℤ, pos, ◌≤ℤ◌, unsigned_abs, Option, MatchOption}
use Rattle.std.proofs.Common.{arith}
use Rattle.std.proofs.lemmas.Int.{ints}
use Rattle.tpoint.specs.Fraction.{Fraction}
use Rattle.tpoint.specs.Moving.{Position}
use Rattle.tpoint.specs.declared.frac.Frac.{Frac}

pub one_le_abs : (z : ℤ) → pos 1 ≤ℤ z → 1 ≤ unsigned_abs z
one_le_abs z h = omega (arith, ints)

-- the fraction that it is
abbrev pub fraction : Frac → Fraction
fraction f =
    record {
      num = f.num;
      den = unsigned_abs f.den;
      at_least_one = one_le_abs f.den f.positive;
    }

-- the position that two of them are
abbrev pub position : Frac × Frac → Position
position p = record { x = fraction p.0; y = fraction p.1 }

-- the value that is in the relation, or none where there is none
abbrev pub Finds : (Position → Type 0) → Option (Frac × Frac) → Type 0
Finds R value = MatchOption value ((v : Position) → ¬ R v) (λ p. R (position p))

-- it is this whole number
pub record IsWholeNumber (z : ℤ) (f : Frac) : Type 0 where
  pub num : f.num ≡ z
  pub den : f.den ≡ pos 1
