use Rattle.std.proofs.Common.{◌≡◌, ◌<◌, ◌^◌, length, get_or, sym, ◌∙◌, arith, rules}
use Rattle.std.proofs.Math.Seq.{take-length}
use Rattle.std.specs.Char.{IsAsciiDigit}
use Rattle.mfjson.specs.Digits.{digits}
use Rattle.mfjson.proofs.DigitsLemmas.{number_step, number_exact, not_number, none_exact}
use Rattle.mfjson.proofs.datetime.number.Goals as goal

pub returns-then-not-is_ascii_digit-clause-exact : goal.returns-then-not-is_ascii_digit-clause-exact
returns-then-not-is_ascii_digit-clause-exact c n =
    let other : ¬ IsAsciiDigit (get_or c.args.text.now c.loop-byte.byte-index 0) = search rules in
    none_exact _ n (not_number c.args.text.now c.loop-byte.byte-index 0 (omega arith) other n)

pub loop-byte-preserved : goal.loop-byte-preserved
loop-byte-preserved c =
    let digit : IsAsciiDigit (get_or c.args.text.now c.loop-byte.byte-index 0) = search rules in
    rw c.from.ensures (number_step c.args.text.now c.loop-byte.byte-index c.loop-byte.n
    (omega arith) digit c.loop-byte.invariant.below c.loop-byte.invariant.read)

pub returns-clause-exact : goal.returns-clause-exact
returns-clause-exact c n =
    let all : c.loop-byte.byte-index ≡ length c.args.text.now = omega arith in
    let below : c.loop-byte.n < 10 ^ length c.args.text.now = rw all at c.loop-byte.invariant.below in
    let read : c.args.text.now ≡ digits (length c.args.text.now) c.loop-byte.n =
    let so_far = rw all at c.loop-byte.invariant.read in sym (take-length c.args.text.now) ∙ so_far in
    number_exact c.args.text.now c.loop-byte.n below read n
