use Rattle.std.proofs.Common.{arith}
use Rattle.jiff_core.proofs.SignedLemmas.{signed_arith}
use Rattle.mfjson.proofs.Years.{year_of as late_year}
use Rattle.mfjson.proofs.datetime.year_of.Goals as goal

pub returns-else-year-ge0-clause-is : goal.returns-else-year-ge0-clause-is
returns-else-year-ge0-clause-is c =
    let y = late_year c.args.date c.requires in
    let below = c.if-year-ge0.false in
    absurd (omega (arith, signed_arith))
