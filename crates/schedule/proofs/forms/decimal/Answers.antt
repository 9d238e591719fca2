use Rattle.std.proofs.Common.{refl}
use Rattle.schedule.proofs.Decimals.{writes_plainly, writes_text, parsed_writes, small_writes}
use Rattle.schedule.proofs.forms.decimal.Goals as goal

pub returns-then-not-is_plain : goal.returns-then-not-is_plain
returns-then-not-is_plain c = λ value w. let plain = c.if-not-is_plain.ensures.1 (writes_plainly _ value w) in cc

pub returns-then-word-le-SMALL_DIGITS : goal.returns-then-word-le-SMALL_DIGITS
returns-then-word-le-SMALL_DIGITS c =
    small_writes _ _ c.small_decimal.ensures c.if-word-le-SMALL_DIGITS.true (c.if-not-is_plain.ensures.0 refl)

pub returns-in-Ok : goal.returns-in-Ok
returns-in-Ok c =
    let parses = rw c.in-Ok.ensures.cases.0 at c.parse.ensures.value.0 in
    rw c.ok.ensures.value (parsed_writes c.args.word.now c.parse.result parses (c.if-not-is_plain.ensures.0 refl))

pub returns-in-Err : goal.returns-in-Err
returns-in-Err c = λ value w. c.in-Err.ensures.cases.0 (writes_text _ value w)
