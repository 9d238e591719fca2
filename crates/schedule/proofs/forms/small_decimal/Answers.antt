use Rattle.std.proofs.Common.{refl, arith}
use Rattle.std.proofs.lemmas.Str.Parse.{digit_at}
use Rattle.std.proofs.lemmas.Grind.{common_steps}
use Rattle.schedule.proofs.Decimals.{digits_below, digit_more}
use Rattle.schedule.proofs.forms.small_decimal.Goals as goal

pub returns-then-not-is_ascii_digit : goal.returns-then-not-is_ascii_digit
returns-then-not-is_ascii_digit c = λ all.
    let digit = digit_at _ c.loop-byte.byte-index all c.loop-byte-test.true in
    grind (arith, common_steps, digit, c.is_ascii_digit.ensures.cases, c.if-not-is_ascii_digit.true)

pub overflow_mul-value : goal.overflow_mul-value
overflow_mul-value c =
    let below = digits_below _ _ _ c.loop-byte-test.true c.requires c.loop-byte.invariant.0 c.loop-byte.invariant.1 in omega arith

pub overflow_add-value : goal.overflow_add-value
overflow_add-value c =
    let below = digits_below _ _ _ c.loop-byte-test.true c.requires c.loop-byte.invariant.0 c.loop-byte.invariant.1 in
    let byte = c.type_inv.word c.loop-byte.byte-index in
    omega (arith, below, byte, c.from.ensures)

pub loop-byte-preserved : goal.loop-byte-preserved
loop-byte-preserved c =
    rw c.from.ensures (digit_more _ _ _ _ c.loop-byte-test.true refl c.if-not-is_ascii_digit.ensures.cases c.loop-byte.invariant.0
    c.loop-byte.invariant.1)
