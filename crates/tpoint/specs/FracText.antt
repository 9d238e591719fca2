-- How a fraction is printed.
use Rattle.std.specs.Prelude.{ℕ, pos, List, ◌++◌, codes, if◌then◌else◌}
use Rattle.std.specs.Ordering.{int_eq}
use Rattle.std.specs.Fmt.{signed_decimal}
use Rattle.tpoint.specs.declared.frac.Frac.{Frac}

-- the upper number, and after a slash the lower one, which is left out where it is 1
abbrev pub frac_text : Frac → List ℕ
frac_text f = if int_eq f.den (pos 1) then signed_decimal f.num
    else signed_decimal f.num ++ codes "/" ++ signed_decimal f.den
