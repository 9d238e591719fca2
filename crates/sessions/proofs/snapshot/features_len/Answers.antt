use Rattle.std.proofs.Common.{◌≡◌, ◌<◌, Some, length, take, slice_get, ap, ◌∙◌, arith}
use Rattle.std.specs.List.{flat_map}
use Rattle.mfjson.specs.declared.feature.Feature.{Feature}
use Rattle.sessions.specs.Snapshots.{feature_bytes}
use Rattle.sessions.proofs.SpellingLemmas.{one_more, features_more}
use Rattle.sessions.proofs.snapshot.features_len.Goals as goal

-- one feature more
pub loop-at-preserved : goal.loop-at-preserved
loop-at-preserved c =
    let fs = c.args.db.now in
    let i = c.loop-at.at in
    let f : Feature = record { id = c.unwrap.result.0.now; seq = c.unwrap.result.1.now } in
    let below = c.loop-at-test.true in
    let end = c.len-at-end.ensures.value in
    let lt : i < length fs = omega (arith, below, end) in
    let is : slice_get fs i ≡ Some f = rw c.unwrap.ensures at c.feature.ensures in
    let longer = ap (λ gs. length (flat_map feature_bytes gs)) (one_more fs i f lt is) ∙ features_more (take i fs) f in
    let so_far = c.loop-at.invariant.0 in
    let one = c.feature_len-len.ensures.value in
    let few = c.loop-at.invariant.1 in
    let most = c.feature_len-len.ensures.most in
    (omega (arith, longer, so_far, one), omega (arith, few, most))
