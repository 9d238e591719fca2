use Rattle.std.proofs.Common.{◌≤◌, ◌-ℤ◌, SFits, rules, refl}
use Rattle.std.proofs.lemmas.Int.{to_z-of_z}
use mir.Syntax.{w64}
use Rattle.tpoint.proofs.Ranges.{stays_in_range, difference_fits, apart_is, apart_fits, apart_small, after_positive}
use Rattle.tpoint.proofs.ValueLemmas.{leg_holds}
use Rattle.tpoint.proofs.values.on_leg.Goals as goal

pub overflow_sub-gone : goal.overflow_sub-gone
overflow_sub-gone c = apart_fits c.ms-2.result c.ms.result c.ms-2.ensures.in_range c.ms.ensures.in_range

pub overflow_sub-all : goal.overflow_sub-all
overflow_sub-all c = apart_fits c.ms-4.result c.ms-3.result c.ms-4.ensures.in_range c.ms-3.ensures.in_range

pub on_way-x-requires-clause-from_fits : goal.on_way-x-requires-clause-from_fits
on_way-x-requires-clause-from_fits c = stays_in_range c.args.a.now.x c.requires.a_fits.x_fits

pub on_way-x-requires-clause-to_fits : goal.on_way-x-requires-clause-to_fits
on_way-x-requires-clause-to_fits c = stays_in_range c.args.b.now.x c.requires.b_fits.x_fits

pub on_way-x-requires-clause-gone_small : goal.on_way-x-requires-clause-gone_small
on_way-x-requires-clause-gone_small c = apart_small c.ms-2.result c.ms.result c.ms-2.ensures.in_range c.ms.ensures.in_range

pub on_way-x-requires-clause-all_small : goal.on_way-x-requires-clause-all_small
on_way-x-requires-clause-all_small c = apart_small c.ms-4.result c.ms-3.result c.ms-4.ensures.in_range c.ms-3.ensures.in_range

pub on_way-x-requires-clause-positive : goal.on_way-x-requires-clause-positive
on_way-x-requires-clause-positive c =
    rw (apart_is c.ms-4.result c.ms-3.result c.ms-4.ensures.in_range c.ms-3.ensures.in_range, c.ms-3.ensures.value, c.ms-4.ensures.value)
    (after_positive c.args.a.now.t c.args.b.now.t c.requires.later)

pub on_way-y-requires-clause-from_fits : goal.on_way-y-requires-clause-from_fits
on_way-y-requires-clause-from_fits c = stays_in_range c.args.a.now.y c.requires.a_fits.y_fits

pub on_way-y-requires-clause-to_fits : goal.on_way-y-requires-clause-to_fits
on_way-y-requires-clause-to_fits c = stays_in_range c.args.b.now.y c.requires.b_fits.y_fits

pub on_way-y-requires-clause-gone_small : goal.on_way-y-requires-clause-gone_small
on_way-y-requires-clause-gone_small c = apart_small c.ms-2.result c.ms.result c.ms-2.ensures.in_range c.ms.ensures.in_range

pub on_way-y-requires-clause-all_small : goal.on_way-y-requires-clause-all_small
on_way-y-requires-clause-all_small c = apart_small c.ms-4.result c.ms-3.result c.ms-4.ensures.in_range c.ms-3.ensures.in_range

pub on_way-y-requires-clause-positive : goal.on_way-y-requires-clause-positive
on_way-y-requires-clause-positive c =
    rw (apart_is c.ms-4.result c.ms-3.result c.ms-4.ensures.in_range c.ms-3.ensures.in_range, c.ms-3.ensures.value, c.ms-4.ensures.value)
    (after_positive c.args.a.now.t c.args.b.now.t c.requires.later)

pub returns : goal.returns
returns c =
    let a = c.args.a.now in
    let b = c.args.b.now in
    let t = c.args.t in
    let ax : SFits w64 a.x = search rules in
    let ay : SFits w64 a.y = search rules in
    let bx : SFits w64 b.x = search rules in
    let by : SFits w64 b.y = search rules in
    let m1 : SFits w64 c.ms.result = search rules in
    let m2 : SFits w64 c.ms-2.result = search rules in
    let m3 : SFits w64 c.ms-3.result = search rules in
    let m4 : SFits w64 c.ms-4.result = search rules in
    let gone = c.ms.result -ℤ c.ms-2.result in
    let all = c.ms-3.result -ℤ c.ms-4.result in
    let g : SFits w64 (c.ms.result -ℤ c.ms-2.result) =
    difference_fits c.ms-2.result c.ms.result c.ms-2.ensures.in_range c.ms.ensures.in_range in
    let h : SFits w64 (c.ms-3.result -ℤ c.ms-4.result) =
    difference_fits c.ms-4.result c.ms-3.result c.ms-4.ensures.in_range c.ms-3.ensures.in_range in
    let from : a.t ≤ t = search rules in
    let to : t ≤ b.t = search rules in
    leg_holds a b t gone all c.on_way-x.result c.on_way-y.result from to
    (rw (c.ms.ensures.value, c.ms-2.ensures.value) refl) (rw (c.ms-3.ensures.value, c.ms-4.ensures.value) refl)
    (simp to_z-of_z at c.on_way-x.ensures) (simp to_z-of_z at c.on_way-y.ensures)
