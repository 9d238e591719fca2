use Rattle.std.proofs.Common.{◌≡◌, ◌-◌, ◌/◌, ◌<◌, ◌≤◌, length, refl, arith}
use Rattle.tpoint.proofs.PlaceLemmas.{stands_at}
use Rattle.store.proofs.BlockLemmas.{widened, all_earlier}
use Rattle.store.proofs.blocks.Blocks.widen.Goals as goal

-- it is widened
pub returns-then-block-len : goal.returns-then-block-len
returns-then-block-len c = λ ps n hold.
    let bs = c.args.self.now.bounds.items in
    let leg = c.saturating_sub-leg.result in
    let at = leg / 32 in
    let last : leg ≡ length ps - 1 = omega (arith, n, c.saturating_sub-leg.ensures) in
    let within : at < length bs = omega (arith, c.if-block-len.true, c.len.ensures, c.args.self.now.bounds.ok.0) in
    let there = stands_at bs at c.index.result.now within c.index.ensures in
    widened bs ps c.args.point.now leg at c.index.result.now c.with.result last refl there c.with.ensures.had c.with.ensures.added hold

-- it has no bounds yet
pub returns-else-block-len : goal.returns-else-block-len
returns-else-block-len c = λ ps n hold.
    let bs = c.args.self.now.bounds.items in
    let leg = c.saturating_sub-leg.result in
    let last : leg ≡ length ps - 1 = omega (arith, n, c.saturating_sub-leg.ensures) in
    let over : length bs ≤ leg / 32 = omega (arith, c.if-block-len.false, c.len.ensures, c.args.self.now.bounds.ok.0) in
    all_earlier bs ps c.args.point.now leg last over hold
