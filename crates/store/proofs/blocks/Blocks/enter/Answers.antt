use Rattle.std.proofs.Common.{◌*◌, inl, inr, arith}
use Rattle.std.proofs.lemmas.Bool.{cases_lt}
use Rattle.tpoint.proofs.PlaceLemmas.{stands_at}
use Rattle.predicates.proofs.Tests.{never}
use Rattle.store.proofs.BlockLemmas.{apart_legs, no_leg_inside}
use Rattle.store.proofs.blocks.Blocks.enter.Goals as goal

-- the legs of a block that is apart aren't in the rectangle
pub loop-block-preserved-then-is_apart : goal.loop-block-preserved-then-is_apart
loop-block-preserved-then-is_apart c = λ leg below s.
    let bs = c.args.self.now.bounds.items in
    let k = c.loop-block.block in
    let b = c.index.result.now in
    let there = stands_at bs k b (omega (arith, c.loop-block-test.true, c.len.ensures, c.args.self.now.bounds.ok.0)) c.index.ensures in
    elim (cases_lt leg (32 * k)) [
      | inl less ↦ c.loop-block.invariant leg less s
      | inr up ↦
          apart_legs bs c.args.seq.now.points k b c.args.period.now c.args.area.now c.points-points.ensures.valid.increasing
          c.requires.hold there (c.is_apart.ensures.0 c.if-is_apart.true) leg up (omega (arith, below)) s
    ]

-- nor are those of some blocks in a row, as was asked
pub loop-block-preserved : goal.loop-block-preserved
loop-block-preserved c = λ leg below s.
    elim (cases_lt leg (32 * c.loop-block.block)) [
      | inl less ↦ c.loop-block.invariant leg less s
      | inr up ↦ let told = c.enters_between.ensures.every leg up below s in absurd (cc)
    ]

-- no leg is left
pub returns : goal.returns
returns c = (
  λ told. never told,
  λ s.
      absurd (no_leg_inside c.args.seq.now c.args.self.now.bounds.items c.loop-block.block c.args.period.now c.args.area.now
      c.requires.linear c.requires.hold c.requires.cover
      (omega (arith, c.loop-block-test.false, c.len.ensures, c.args.self.now.bounds.ok.0)) c.loop-block.invariant s),
)
