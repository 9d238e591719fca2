use Rattle.std.proofs.Common.{◌≡◌, rules, get_or, inl, inr, ◌∙◌, arith}
use Rattle.std.proofs.lemmas.Bool.{cases_lt}
use Rattle.std.proofs.lemmas.List.{get_or_default}
use Rattle.schedule.proofs.one_line.lie_between.Goals as goal

-- the bytes before this one lie between what were the least and the greatest, and this one is taken into account
pub loop-byte-preserved : goal.loop-byte-preserved
loop-byte-preserved c = λ k d low within.
    let i = c.loop-byte.byte-index in
    let bytes = c.args.text.now in
    elim (cases_lt k i) [
      | inl h ↦
          let held = c.loop-byte.invariant k d low h in
          (omega (arith, held.0, c.min-least.ensures), omega (arith, held.1, c.max-greatest.ensures))
      | inr h ↦
          let here : k ≡ i = omega (arith, h, within) in
          let same : get_or bytes k d ≡ get_or bytes i 0 =
          (λ j. get_or bytes (here j) d) ∙ get_or_default bytes i d 0 c.loop-byte-test.true in
          (omega (arith, same, c.min-least.ensures), omega (arith, same, c.max-greatest.ensures))
    ]

-- neither moved
pub returns-then-least-low : goal.returns-then-least-low
returns-then-least-low c = λ same k d within.
    let held = c.loop-byte.invariant k d (omega arith) (omega (arith, within, c.loop-byte-test.false)) in
    let high : c.loop-byte.greatest ≡ c.args.high = search rules in
    (omega (arith, held.0, c.if-least-low.true), omega (arith, held.1, high))
