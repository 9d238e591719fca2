use Rattle.std.proofs.Common.{◌≡◌, ◌<◌, refl, arith, length, take, take_all, subst}
use Rattle.std.proofs.lemmas.Grind.{common_steps}
use Rattle.std.specs.Str.Parse.{AllDigits}
use Rattle.mfjson.proofs.SmallNumbers.{digits_below, digit_more, small}
use Rattle.mfjson.proofs.tokens.small_number.Goals as goal

pub overflow_mul-n : goal.overflow_mul-n
overflow_mul-n c =
    let below = digits_below _ _ _ c.loop-byte-test.true c.requires c.loop-byte.invariant.0 c.loop-byte.invariant.1 in omega arith

pub overflow_add-n : goal.overflow_add-n
overflow_add-n c =
    let below = digits_below _ _ _ c.loop-byte-test.true c.requires c.loop-byte.invariant.0 c.loop-byte.invariant.1 in
    let byte = c.type_inv.digits c.loop-byte.byte-index in
    omega (arith, below, byte, c.from.ensures)

pub loop-byte-preserved : goal.loop-byte-preserved
loop-byte-preserved c =
    rw c.from.ensures (digit_more _ _ _ _ c.loop-byte-test.true refl c.if-not-is_ascii_digit.ensures.cases c.loop-byte.invariant.0
    c.loop-byte.invariant.1)

pub returns : goal.returns
returns c =
    let digits = c.args.digits.now in
    let whole : take c.loop-byte.byte-index digits ≡ digits = take_all _ digits (omega arith) in
    let some : 0 < length digits = grind (arith, common_steps) in
    let s = small digits c.loop-byte.n some c.requires (subst (AllDigits 10) whole c.loop-byte.invariant.0)
    (rw whole at c.loop-byte.invariant.1) in
    (s.integer, s.value, s.below)
