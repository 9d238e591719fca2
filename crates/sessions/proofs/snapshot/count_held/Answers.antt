use Rattle.std.proofs.Common.{arith, ◌≤◌, length}
use Rattle.sessions.proofs.TableLemmas.{count_step}
use Rattle.sessions.proofs.snapshot.count_held.Goals as goal

pub loop-rest-preserved : goal.loop-rest-preserved
loop-rest-preserved c =
    let some : 1 ≤ length c.loop-rest.rest.now = omega (arith, c.in-len1-up.len_at_least) in
    let step = count_step c.loop-rest.client c.loop-rest.rest.now c.place-item.result some c.place-item.is in
    let one = c.ones-count.ensures.value c.loop-rest.client in
    let all = c.loop-rest.invariant.0 in
    let places = c.loop-rest.invariant.1.0 in
    let few = c.loop-rest.invariant.1.1 in
    let most = c.ones-count.ensures.most in
    (omega (arith, step.0, one, all), (omega (arith, step.1, places), omega (arith, few, most)))
