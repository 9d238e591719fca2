use Rattle.std.proofs.Common.{◌≡◌, List, length, sym, subst, arith}
use Rattle.store.specs.Blocks.{BlocksHold}
use Rattle.store.specs.declared.bounds.Bounds.{Bounds}
use Rattle.store.proofs.BlockLemmas.{pushed_block}
use Rattle.store.proofs.blocks.Blocks.push_missing.Goals as goal

pub loop-block-preserved : goal.loop-block-preserved
loop-block-preserved c =
    let l = c.loop-block in
    let ps = c.args.points.now in
    let bs = l.self.bounds.items in
    let push = c.in_default.ensures in
    let size : length bs ≡ l.block = omega (arith, l.invariant.0, l.self.bounds.ok.0) in
    let leg = c.blocks_of-block-end.ensures.each l.block (omega arith) in
    let more = pushed_block bs ps c.of.result l.block c.min-end.result size leg (omega arith)
    (λ place h k. omega (arith, h, k)) c.of.ensures in (
      omega (arith, l.invariant.0, push.len),
      λ hold. subst (λ (cs : List Bounds). BlocksHold cs ps) (sym push.items) (more (l.invariant.1 hold)),
    )
