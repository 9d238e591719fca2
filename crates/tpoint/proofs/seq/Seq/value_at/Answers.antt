use Rattle.std.proofs.Common.{inl, inr, arith}
use Rattle.std.proofs.lemmas.Bool.{cases_lt}
use Rattle.tpoint.proofs.ValueLemmas.{points_rise, points_in_range, missing}
use Rattle.tpoint.proofs.Searching.{none_passed, none_to_come}
use Rattle.tpoint.proofs.seq.Seq.value_at.Goals as goal

pub piece_value-value-requires-clause-in_range : goal.piece_value-value-requires-clause-in_range
piece_value-value-requires-clause-in_range c =
    points_in_range _ _ c.points-points.ensures.valid c.points-points.ensures.value

pub loop-i-init : goal.loop-i-init
loop-i-init c =
    let ps = c.points-points.result.now in
    let rise = points_rise _ _ c.points-points.ensures.valid c.points-points.ensures.value in
    let found = c.passed_at-passed in
    λ j less.
    none_passed c.interp-interp.result ps c.args.t found.result.count rise found.ensures.within found.ensures.passed j
    (omega (arith, c.saturating_sub-i.ensures))

-- the rest is to come
pub returns-clause-value : goal.returns-clause-value
returns-clause-value c =
    let interp = c.interp-interp.result in
    let ps = c.points-points.result.now in
    let found = c.passed_at-passed in
    missing c.args.self.now _ _ c.args.t c.interp-interp.ensures.value c.points-points.ensures.value
    (λ j h. elim (cases_lt j found.result.count) [
      | inl less ↦ c.loop-i.invariant j (omega arith)
      | inr over ↦ none_to_come interp ps c.args.t found.result.count found.ensures.to_come j over
    ])
