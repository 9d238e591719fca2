use Rattle.std.proofs.Common.{◌<◌, arith, rules, sym, ◌∙◌}
use Rattle.tpoint.proofs.PlaceLemmas.{stands_at}
use Rattle.tpoint.specs.Extents.{last_whole}
use Rattle.tpoint.proofs.ValueLemmas.{points_rise, points_in_range}
use Rattle.predicates.proofs.SequenceLemmas.{so_far_none, next_none, next_some, decided, told}
use Rattle.predicates.proofs.SequenceLemmas.{answered, before_place, begins_after, past_the_last, of_sequence}
use Rattle.predicates.proofs.Tests.{never}
use Rattle.predicates.proofs.sequences.answer.Goals as goal
use Rattle.predicates.proofs.sequences.answer.Goals.{in-None, in_default}

pub loop-i-init : goal.loop-i-init
loop-i-init c =
    let interp = c.interp-interp.result in
    let ps = c.points-points.result.now in
    let rise = points_rise _ _ c.points-points.ensures.valid c.points-points.ensures.value in
    let first = c.first_piece-i in
    let p = c.args.period.now in
    so_far_none c.args.question interp ps p c.args.area.now first.result
    (before_place interp ps p first.result rise first.ensures.within first.ensures.before)

-- the rest begins after the period
pub returns-then-lt : goal.returns-then-lt
returns-then-lt c =
    let interp = c.interp-interp.result in
    let ps = c.points-points.result.now in
    let rise = points_rise _ _ c.points-points.ensures.valid c.points-points.ensures.value in
    let i = c.loop-i.i in
    let point = c.index-points-i.result in
    let there = stands_at ps i point (omega arith) c.index-points-i.is in
    let after : last_whole c.args.period.now < point.t = search rules in
    of_sequence c.args.question c.args.seq.now interp ps _ _ _ c.interp-interp.ensures.value c.points-points.ensures.value
    (answered c.args.question interp ps _ _ i _ c.loop-i.invariant
    (λ j h. begins_after interp ps c.args.period.now i j point c.last_whole.ensures.has_instant rise there after h))

pub run_from-run-requires-clause-in_range : goal.run_from-run-requires-clause-in_range
run_from-run-requires-clause-in_range c =
    points_in_range _ _ c.points-points.ensures.valid c.points-points.ensures.value

pub returns-then-decides : goal.returns-then-decides
returns-then-decides c =
    let interp = c.interp-interp.result in
    let ps = c.points-points.result.now in
    elim c.match-run.branch [
      | in-None w ↦
          never (sym c.loop-i.invariant.not_yet ∙ told c.args.question _ _ _ _ w.answer-is c.decides.ensures c.if-decides.true)
      | in_default w ↦
          rw w.answer-is
          (of_sequence c.args.question c.args.seq.now interp ps _ _ _ c.interp-interp.ensures.value c.points-points.ensures.value
          (decided c.args.question interp ps _ _ c.loop-i.i c.run_from-run.result.answer
          (c.run_from-run.ensures.each c.loop-i.i (omega arith) c.run_from-run.ensures.on)
          (told c.args.question _ _ _ _ w.answer-is c.decides.ensures c.if-decides.true)))
    ]

pub loop-i-preserved : goal.loop-i-preserved
loop-i-preserved c =
    let interp = c.interp-interp.result in
    let ps = c.points-points.result.now in
    let run = c.run_from-run in
    let n = run.result.next in
    elim c.match-run.branch [
      | in-None w ↦
          rw w.answer-is
          (next_none c.args.question interp ps _ _ c.loop-i.i n _ c.loop-i.invariant (rw w.in-None.is at run.ensures.each))
      | in_default w ↦
          rw w.answer-is
          (next_some c.args.question interp ps _ _ c.loop-i.i n _ run.result.answer c.loop-i.invariant run.ensures.on run.ensures.each
          w.in_default.not-None
          (told c.args.question _ _ _ _ w.answer-is c.decides.ensures c.if-decides.false))
    ]

-- no piece is left
pub returns : goal.returns
returns c =
    let interp = c.interp-interp.result in
    let ps = c.points-points.result.now in
    of_sequence c.args.question c.args.seq.now interp ps _ _ _ c.interp-interp.ensures.value c.points-points.ensures.value
    (answered c.args.question interp ps _ _ c.loop-i.i _ c.loop-i.invariant
    (λ j h. past_the_last interp ps c.args.period.now j (omega arith)))
