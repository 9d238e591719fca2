use Rattle.std.proofs.Common.{ℕ, ◌+◌, ◌<◌, ◌≤◌, rules, arith, subst}
use Rattle.tpoint.proofs.PlaceLemmas.{stands_at}
use Rattle.tpoint.specs.Extents.{last_whole}
use Rattle.tpoint.specs.Pieces.{OnPiece}
use Rattle.tpoint.specs.Places.{EachAt}
use Rattle.tpoint.specs.declared.interp.Interp.TheVariants.{Linear}
use Rattle.tpoint.specs.declared.point.Point.{Point}
use Rattle.predicates.specs.Questions.{AnswersQuestion}
use Rattle.predicates.specs.declared.questions.Question.TheVariants.{Ever}
use Rattle.predicates.specs.declared.questions.Tri.TheVariants.{No}
use Rattle.predicates.proofs.RunLemmas.{run_passes_by}
use Rattle.predicates.proofs.SequenceLemmas.{passes_by, one_more}
use Rattle.predicates.proofs.Tests.{told_no}
use Rattle.predicates.proofs.runs.first_met.Goals as goal

pub crosses-requires-clause-a_fits : goal.crosses-requires-clause-a_fits
crosses-requires-clause-a_fits c =
    let a = c.index-points-k.result in
    c.requires.in_range c.loop-k.k a (stands_at c.args.points.now c.loop-k.k a (omega arith) c.index-points-k.is)

pub crosses-requires-clause-b_fits : goal.crosses-requires-clause-b_fits
crosses-requires-clause-b_fits c =
    let k = c.loop-k.k in
    let b = c.index-points-k-in-loop-k.result in
    c.requires.in_range (k + 1) b (stands_at c.args.points.now (k + 1) b (omega arith) c.index-points-k-in-loop-k.is)

-- the legs of a run
pub loop-k-preserved-in-Some : goal.loop-k-preserved-in-Some
loop-k-preserved-in-Some c =
    let ps = c.args.points.now in
    let p = c.args.period.now in
    let k = c.loop-k.k in
    let n = c.last_on-k.result in
    let a = c.index-points-k.result in
    let b = c.index-points-k-in-loop-k.result in
    let e = stands_at ps k a (omega arith) c.index-points-k.is in
    let f = stands_at ps (k + 1) b (omega arith) c.index-points-k-in-loop-k.is in
    let has = c.last_whole-end.ensures.has_instant in
    let over : b.t ≤ last_whole p = search rules in
    let in_time = subst (λ end. (j : ℕ) → k + 1 < j → j ≤ n → EachAt ps (λ (q : Point). q.t ≤ end) j) c.last_whole-end.ensures.value
    c.last_on-k.ensures.in_time in
    let up : c.args.from ≤ k = c.loop-k.invariant.0 in (
      omega (arith, up, c.last_on-k.ensures.up),
      c.last_on-k.ensures.within,
      run_passes_by ps p c.args.area.now c.in-Some.side c.args.from k n a b has c.requires.increasing c.requires.begun up
          c.last_on-k.ensures.within e f over c.in-Some.ensures.0 c.last_on-k.ensures.on in_time c.loop-k.invariant.2,
    )

-- a leg that is on no one side, and yet doesn't come in
pub loop-k-preserved : goal.loop-k-preserved
loop-k-preserved c =
    let ps = c.args.points.now in
    let p = c.args.period.now in
    let r = c.args.area.now in
    let k = c.loop-k.k in
    let a = c.index-points-k.result in
    let b = c.index-points-k-in-loop-k.result in
    let e = stands_at ps k a (omega arith) c.index-points-k.is in
    let f = stands_at ps (k + 1) b (omega arith) c.index-points-k-in-loop-k.is in
    let has = c.last_whole-end.ensures.has_instant in
    let over : b.t ≤ last_whole p = search rules in
    let up : c.args.from ≤ k = c.loop-k.invariant.0 in (
      omega (arith, up),
      omega arith,
      one_more (λ j. AnswersQuestion Ever (OnPiece Linear ps j) p r No) c.args.from k c.loop-k.invariant.2
          (passes_by ps p r c.args.from k a b has c.requires.increasing c.requires.begun up e f over
          (told_no c.if-crosses.false c.crosses.ensures.1)),
    )
