use Rattle.std.proofs.Common.{◌≤◌, rules, arith}
use Rattle.tpoint.proofs.PlaceLemmas.{stands_at}
use Rattle.tpoint.specs.Extents.{last_whole}
use Rattle.tpoint.specs.Pieces.{OnPiece}
use Rattle.predicates.specs.Questions.{AnswersQuestion}
use Rattle.predicates.specs.declared.questions.Question.TheVariants.{Ever}
use Rattle.predicates.specs.declared.questions.Tri.TheVariants.{No}
use Rattle.predicates.proofs.SequenceLemmas.{one_more, stays_outside}
use Rattle.predicates.proofs.Tests.{told_no}
use Rattle.predicates.proofs.runs.first_inside.Goals as goal

pub loop-k-preserved : goal.loop-k-preserved
loop-k-preserved c =
    let ps = c.args.points.now in
    let p = c.args.period.now in
    let r = c.args.area.now in
    let k = c.loop-k.k in
    let a = c.index-points-k.result in
    let e = stands_at ps k a (omega arith) c.index-points-k.is in
    let over : a.t ≤ last_whole p = search rules in
    one_more (λ j. AnswersQuestion Ever (OnPiece c.args.interp ps j) p r No) c.args.from k c.loop-k.invariant
    (stays_outside c.args.interp ps p r c.args.from k a c.requires.stays c.last_whole.ensures.has_instant c.requires.increasing
    c.requires.begun (omega arith) e over (told_no c.if-contains.false c.contains.ensures.1))

-- those up to the last
pub returns-clause-each : goal.returns-clause-each
returns-clause-each c = λ j h u. c.loop-k.invariant j h (omega (arith, u))
