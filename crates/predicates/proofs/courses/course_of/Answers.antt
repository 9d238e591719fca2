use Rattle.std.proofs.Common.{arith}
use Rattle.std.proofs.lemmas.Int.{ints}
use Rattle.predicates.proofs.CourseLemmas.{up_course, down_course}
use Rattle.predicates.proofs.courses.course_of.Goals as goal

pub returns-then-from-to-clause-course : goal.returns-then-from-to-clause-course
returns-then-from-to-clause-course c =
    let a = c.args in
    up_course a.from a.to a.low a.high _ (omega (arith, ints)) (omega (arith, ints)) (omega (arith, ints)) (omega (arith, ints))
    c.requires.order c.requires.near

pub returns-else-from-to-clause-course : goal.returns-else-from-to-clause-course
returns-else-from-to-clause-course c =
    let a = c.args in
    down_course a.from a.to a.low a.high _ (omega (arith, ints)) (omega (arith, ints)) (omega (arith, ints)) (omega (arith, ints))
    c.requires.order c.requires.near
