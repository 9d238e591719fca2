use Rattle.std.proofs.Common.{◌∙◌, sym, ap}
use Rattle.stable.specs.Records.{letter}
use Rattle.stable.proofs.KeyLemmas.{fixed_at, fixed_same, looked_at, all_looked_at}
use Rattle.stable.proofs.key.Key.of_letter.Goals as goal

pub loop-place-preserved : goal.loop-place-preserved
loop-place-preserved c =
    looked_at c.loop-place.place c.args.byte _ c.loop-place-test.true c.loop-place.invariant
    (λ is. c.if-letter-byte.false (c.letter.ensures.letter ∙ is))

pub returns-then-letter-byte : goal.returns-then-letter-byte
returns-then-letter-byte c = (
  fixed_at c.loop-place.place _ c.loop-place-test.true,
  ap letter (fixed_same c.loop-place.place _ _ c.loop-place-test.true) ∙ sym c.letter.ensures.letter ∙ c.if-letter-byte.true,
)

pub returns : goal.returns
returns c = all_looked_at c.loop-place.place c.args.byte c.loop-place-test.false c.loop-place.invariant
