-- Four words are left, or another number of them.
use Rattle.std.proofs.Common.{length, refl, ap, arith}
use Rattle.schedule.proofs.Told.{err_told}
use Rattle.schedule.proofs.words.Words.only_rect.Goals as goal

pub returns-in_err-x0 : goal.returns-in_err-x0
returns-in_err-x0 c =
    let short = c.in_err-x0.ensures in
    let none = ap length short.1 in
    err_told _ _ _ _ c.from_residual.ensures.1 (short.0, λ four. omega (arith, none, four))

pub returns-in_err-y0 : goal.returns-in_err-y0
returns-in_err-y0 c =
    let short = c.in_err-y0.ensures in
    let none = ap length short.1 in
    let one = ap length c.in_ok-x0.ensures in
    err_told _ _ _ _ c.from_residual-in_err-y0.ensures.1 (short.0, λ four. omega (arith, none, one, four))

pub returns-in_err-x1 : goal.returns-in_err-x1
returns-in_err-x1 c =
    let short = c.in_err-x1.ensures in
    let one = ap length c.in_ok-x0.ensures in
    let two = ap length c.in_ok-y0.ensures in
    err_told _ _ _ _ c.from_residual-in_err-x1.ensures.1 (short.0, λ four. short.1 (omega (arith, one, two, four)))

pub returns : goal.returns
returns c = rw (c.in_ok-x0.ensures, c.in_ok-y0.ensures, c.in_ok-x1.ensures) refl
