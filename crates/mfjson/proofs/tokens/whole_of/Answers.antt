use Rattle.std.proofs.Common.{true, ap, sym, arith, drop, take_all, length-drop, subst}
use Rattle.fast_float.specs.Text.{scan}
use Rattle.mfjson.specs.Tokens.{IsSigned}
use Rattle.mfjson.proofs.WholeNumbers.{plain_answer, signed_answer}
use Rattle.mfjson.proofs.tokens.whole_of.Goals as goal

pub returns-then-not-has_minus : goal.returns-then-not-has_minus
returns-then-not-has_minus c =
    plain_answer c.args.text.now c.signed_of.result (sym c.if-not-has_minus.ensures.value) c.signed_of.ensures

pub returns-then-z-lt0 : goal.returns-then-z-lt0
returns-then-z-lt0 c =
    let text = c.args.text.now in
    let rest = ap scan (take_all _ (drop 1 text) (omega (arith, length-drop 1 text))) in
    signed_answer text _ (sym c.if-not-has_minus.ensures.value) c.if-z-lt0.true (subst (λ p. IsSigned true p c.in_ok-z.z) rest c.in_ok-z.ensures)
