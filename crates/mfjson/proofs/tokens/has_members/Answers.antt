-- Passing one member after another.
use Rattle.std.proofs.Common.{length, ap, arith}
use Rattle.json.specs.Strict.{keys}
use Rattle.mfjson.proofs.tokens.has_members.Goals as goal

pub loop-init : goal.loop-init
loop-init c = λ j begins. let inside = c.in-Some.ensures j begins in (inside.0, inside.1, inside.0, inside.2, omega arith)

pub loop-preserved : goal.loop-preserved
loop-preserved c = λ j begins.
    let so_far = c.loop.invariant j begins in
    let next = c.in-Some-next.ensures.value so_far.2 so_far.3 in
    let one = ap (λ ms. length (keys ms)) next.2 in
    let count = so_far.4 in
    (so_far.0, so_far.1, next.1, next.4, omega (arith, one, count))

pub returns : goal.returns
returns c = λ _.
    record {
      counted = λ j begins.
          let so_far = c.loop.invariant j begins in
          let none = c.in-None.ensures.value so_far.2 so_far.3 in
          let over = ap (λ ms. length (keys ms)) none in
          let count = so_far.4 in
          record { members = so_far.0; is_object = so_far.1; count = omega (arith, over, count) };
    }
