use Rattle.std.proofs.Common.{◌≡◌, pos, refl, arith}
use Rattle.std.proofs.lemmas.Int.{ints}
use Rattle.jiff_core.specs.Calendar.{days_from_civil}
use Rattle.mfjson.proofs.datetime.LastDay.new.Goals as goal

day_zero : days_from_civil (pos 1970) 1 1 ≡ pos 0
unfolding days_from_civil
day_zero = omega (arith, ints)

pub returns : goal.returns
returns c =
    record {
      year = 1970;
      month = 1;
      day = 1;
      date = ((omega (arith, ints), omega (arith, ints)), (omega arith, omega arith), (omega arith, omega arith));
      day_number = day_zero;
      spelling = refl;
    }
