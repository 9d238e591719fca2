use Rattle.std.proofs.Common.{◌≡◌, pos, arith, inl, ◌/◌}
use Rattle.jiff_core.proofs.DateLemmas.{civil}
use Rattle.std.proofs.lemmas.Int.{ints}
use Rattle.jiff_core.specs.Calendar.{IsCivilDate, days_from_civil}
use Rattle.mfjson.proofs.SecondTexts.{datetime_made}
use Rattle.mfjson.proofs.OneText.{datetime_one, instant_of_one}
use Rattle.mfjson.proofs.datetime.datetime_text.Goals as goal

pub returns-clause-text : goal.returns-clause-text
returns-clause-text c =
    let date = c.date_of-date.result in
    let year : date.year ≡ pos c.year_of-year.result = c.year_of-year.ensures.is in
    let t_is : c.unsigned_abs-ms.result ≡ c.args.t = grind (arith, ints) in
    let is_civil : IsCivilDate (pos c.year_of-year.result) date.month date.day = rw year at (civil date) in
    let number : days_from_civil (pos c.year_of-year.result) date.month date.day ≡ pos (c.args.t / 1000 / 86400) =
    let counted = c.date_of-date.ensures in rw (year, t_is) at counted in
    datetime_made c.text_of.result c.args.t c.year_of-year.result date.month date.day is_civil number
    (rw (c.from-month.ensures, c.from-day.ensures, t_is) at c.text_of.ensures)

pub returns-clause-only : goal.returns-clause-only
returns-clause-only c text is = datetime_one text _ c.args.t is (returns-clause-text c)

pub returns-clause-of_no_other : goal.returns-clause-of_no_other
returns-clause-of_no_other c u is = instant_of_one _ u c.args.t is (inl (returns-clause-text c))
