-- Two words or more are left, or fewer.
use Rattle.std.proofs.Common.{length, refl, ap, arith}
use Rattle.schedule.proofs.Told.{err_told}
use Rattle.schedule.proofs.words.Words.needed_pair.Goals as goal

pub returns-in_err-first : goal.returns-in_err-first
returns-in_err-first c =
    let short = c.in_err-first.ensures in
    let none = ap length short.1 in
    err_told _ _ _ _ c.from_residual.ensures.1 (short.0, omega (arith, none))

pub returns-in_err-second : goal.returns-in_err-second
returns-in_err-second c =
    let short = c.in_err-second.ensures in
    let none = ap length short.1 in
    let one = ap length c.in_ok-first.ensures in
    err_told _ _ _ _ c.from_residual-in_err-second.ensures.1 (short.0, omega (arith, none, one))

pub returns : goal.returns
returns c = rw (c.in_ok-first.ensures, c.in_ok-second.ensures) refl
