use Rattle.std.proofs.Common.{ℤ}
use Rattle.schedule.specs.Numbers.{IsCoordinate}
use Rattle.schedule.proofs.Coordinates.{minus_writes, not_zero}
use Rattle.schedule.proofs.forms.coordinate.Goals as goal

pub returns-in_err-size-in-Some : goal.returns-in_err-size-in-Some
returns-in_err-size-in-Some c =
    let none : (value : ℤ) → ¬ (IsCoordinate c.args.word.now value) = λ value h.
    let m = minus_writes c.in-Some.digits.now value (rw c.in-Some.ensures at h) in
    c.in_err-size-in-Some.ensures m.0 m.2 in
    rw c.from_residual.ensures none

pub returns-then-size-eq0 : goal.returns-then-size-eq0
returns-then-size-eq0 c = λ value h.
    not_zero c.in-Some.digits.now c.in_ok-size-in-Some.size value c.in_ok-size-in-Some.ensures c.if-size-eq0.true
    (rw c.in-Some.ensures at h)
