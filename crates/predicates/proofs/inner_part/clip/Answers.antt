use Rattle.std.proofs.Common.{◌≡◌, to_z, of_z, refl, arith}
use mir.Syntax.{w64}
use Rattle.std.proofs.lemmas.Int.{ints}
use Rattle.predicates.proofs.Margins.{inner_all_along, outer_all_along, inner_number, outer_number}
use Rattle.predicates.proofs.WindowLemmas.{within_leg, from_crossing, until_crossing}
use Rattle.predicates.proofs.Tests.{never}
use Rattle.predicates.proofs.inner_part.clip.Goals as goal

pub returns-in-true-true : goal.returns-in-true-true
returns-in-true-true c =
    let a = c.args in
    let from : to_z w64 (of_z w64 a.begin) ≡ a.begin = omega (arith, ints) in
    let to : to_z w64 (of_z w64 a.end) ≡ a.end = omega (arith, ints) in
    let at_begin = rw from at ((c.in-true-true.ensures).0 refl) in
    let at_end = rw to at ((c.in-true-true.ensures').0 refl) in
    λ u. (λ h. (h, inner_all_along a.counts a.begin a.end u (within_leg a.window u h) at_begin at_end), λ h. h.0)

pub returns-in-false-true : goal.returns-in-false-true
returns-in-false-true c =
    let a = c.args in
    let outside = outer_number a.counts (to_z w64 (of_z w64 a.begin)) (λ h. never ((c.in-false-true.ensures).1 h)) in
    let inside = inner_number a.counts (to_z w64 (of_z w64 a.end)) ((c.in-false-true.ensures').0 refl) in
    let b = c.crossing-in-false-true in
    from_crossing a.counts a.window b.result a.begin a.end _ b.ensures.counts (omega (arith, ints)) (omega (arith, ints)) c.from.ensures

pub returns-in-true-false : goal.returns-in-true-false
returns-in-true-false c =
    let a = c.args in
    let inside = inner_number a.counts (to_z w64 (of_z w64 a.begin)) ((c.in-true-false.ensures).0 refl) in
    let outside = outer_number a.counts (to_z w64 (of_z w64 a.end)) (λ h. never ((c.in-true-false.ensures').1 h)) in
    let b = c.crossing in
    until_crossing a.counts a.window b.result a.begin a.end _ b.ensures.counts (omega (arith, ints)) (omega (arith, ints)) c.until.ensures

pub returns-in-false-false : goal.returns-in-false-false
returns-in-false-false c =
    let a = c.args in
    let from : to_z w64 (of_z w64 a.begin) ≡ a.begin = omega (arith, ints) in
    let to : to_z w64 (of_z w64 a.end) ≡ a.end = omega (arith, ints) in
    λ u h.
    outer_all_along a.counts a.begin a.end u (within_leg a.window u h.0)
    (λ i. never ((c.in-false-false.ensures).1 (rw from i)))
    (λ i. never ((c.in-false-false.ensures').1 (rw to i)))
    h.1

pub crossing-requires-in-false-true-clause-opposite : goal.crossing-requires-in-false-true-clause-opposite
crossing-requires-in-false-true-clause-opposite c =
    let a = c.args in
    let outside = outer_number a.counts (to_z w64 (of_z w64 a.begin)) (λ h. never ((c.in-false-true.ensures).1 h)) in
    let inside = inner_number a.counts (to_z w64 (of_z w64 a.end)) ((c.in-false-true.ensures').0 refl) in
    omega (arith, ints)

pub crossing-requires-clause-opposite : goal.crossing-requires-clause-opposite
crossing-requires-clause-opposite c =
    let a = c.args in
    let inside = inner_number a.counts (to_z w64 (of_z w64 a.begin)) ((c.in-true-false.ensures).0 refl) in
    let outside = outer_number a.counts (to_z w64 (of_z w64 a.end)) (λ h. never ((c.in-true-false.ensures').1 h)) in
    omega (arith, ints)
