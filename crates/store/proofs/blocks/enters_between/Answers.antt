use Rattle.std.proofs.Common.{◌≡◌, ℕ, ◌<◌, ◌≤◌, List, length, get_or, slice_get, Some, ap, subst, arith}
use Rattle.std.proofs.lemmas.Option.{slice_get-get_or}
use Rattle.tpoint.specs.declared.point.Point.{Point}
use Rattle.store.proofs.BlockLemmas.{legs_in_time, leg_inside_part}
use Rattle.store.proofs.EverLemmas.{not_ever}
use Rattle.store.proofs.blocks.enters_between.Goals as goal

-- no instant of the period is in the time of the legs
pub returns-in_default-clause-every : goal.returns-in_default-clause-every
returns-in_default-clause-every c = λ leg up below s.
    let ps = c.args.seq.now.points in
    let value = c.points-points.ensures.value in
    let size : length c.points-points.result.now ≡ length ps = ap length value in
    let qs = c.points-points.result.now in
    let last = c.min-last.result in
    let many = c.requires.a_leg in
    let a = get_or qs c.args.from c.index-points-from.result in
    let b = get_or qs last c.index-points-last.result in
    let e = subst (λ (l : List Point). slice_get l c.args.from ≡ Some a) value
    (slice_get-get_or qs c.args.from c.index-points-from.result (omega (arith, many, size))) in
    let f = subst (λ (l : List Point). slice_get l last ≡ Some b) value
    (slice_get-get_or qs last c.index-points-last.result (omega (arith, many, size, c.min-last.ensures))) in
    let order : (k : ℕ) → k ≤ c.args.to → k < length ps → k ≤ last = λ k h w. omega (arith, h, w, size, c.min-last.ensures) in
    let rise = c.points-points.ensures.valid.increasing in
    let time = legs_in_time ps c.args.from c.args.to last leg a b rise many order e f up below s.t s.v s.value in
    absurd (c.in_default.ensures s.t (s.in_period, time.0, time.1))

-- it is in the rectangle in a part of the period
pub returns-in-Yes-clause-some : goal.returns-in-Yes-clause-some
returns-in-Yes-clause-some c = λ _.
    let s = c.in-Yes.ensures in
    record { t = s.t; v = s.v; in_period = ((c.in-Some.ensures s.t).0 s.in_period).0; value = s.value; inside = s.inside }

-- in the time of the legs it isn't
pub returns-in-No-clause-every : goal.returns-in-No-clause-every
returns-in-No-clause-every c = λ leg up below s.
    let ps = c.args.seq.now.points in
    let value = c.points-points.ensures.value in
    let size : length c.points-points.result.now ≡ length ps = ap length value in
    let qs = c.points-points.result.now in
    let last = c.min-last.result in
    let many = c.requires.a_leg in
    let a = get_or qs c.args.from c.index-points-from.result in
    let b = get_or qs last c.index-points-last.result in
    let e = subst (λ (l : List Point). slice_get l c.args.from ≡ Some a) value
    (slice_get-get_or qs c.args.from c.index-points-from.result (omega (arith, many, size))) in
    let f = subst (λ (l : List Point). slice_get l last ≡ Some b) value
    (slice_get-get_or qs last c.index-points-last.result (omega (arith, many, size, c.min-last.ensures))) in
    let order : (k : ℕ) → k ≤ c.args.to → k < length ps → k ≤ last = λ k h w. omega (arith, h, w, size, c.min-last.ensures) in
    let rise = c.points-points.ensures.valid.increasing in
    let time = legs_in_time ps c.args.from c.args.to last leg a b rise many order e f up below s.t s.v s.value in
    let lies = (c.in-Some.ensures s.t).1 (s.in_period, time.0, time.1) in
    absurd (not_ever _ _ _ _ c.ever.ensures c.in-No.is
    (leg_inside_part c.args.seq.now leg c.args.period.now c.in-Some.part c.args.area.now c.requires.linear s lies))
