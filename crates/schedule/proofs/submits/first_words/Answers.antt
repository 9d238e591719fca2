-- The four words behind `submit`, or fewer.
use Rattle.std.proofs.Common.{length, refl, ap, arith}
use Rattle.schedule.proofs.Told.{err_told}
use Rattle.schedule.proofs.submits.first_words.Goals as goal

pub returns-in_err-node : goal.returns-in_err-node
returns-in_err-node c =
    let short = c.in_err-node.ensures in err_told _ _ _ _ c.from_residual.ensures.1 (short.0, omega (arith, short.1))

pub returns-in_err-number : goal.returns-in_err-number
returns-in_err-number c =
    let short = c.in_err-number.ensures in
    let two = ap length c.in_ok-node.ensures in
    err_told _ _ _ _ c.from_residual-in_err-number.ensures.1 (short.0, omega (arith, short.1, two))

pub returns : goal.returns
returns c = rw (c.in_ok-node.ensures, c.in_ok-number.ensures) refl
