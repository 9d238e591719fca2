use Rattle.std.proofs.Common.{◌≡◌, ◌<◌, ◌++◌, ℕ, List, Some, length, take, slice_get, sym, ap, subst, ◌∙◌, arith}
use Rattle.std.specs.List.{flat_map}
use Rattle.std.proofs.lemmas.List.{flat_map_more}
use Rattle.std.proofs.lemmas.List.Elements.{All-more}
use Rattle.mfjson.specs.declared.feature.Feature.{Feature}
use Rattle.sessions.specs.Snapshots.{FeatureFits, feature_bytes}
use Rattle.sessions.proofs.SpellingLemmas.{there, one_more}
use Rattle.sessions.proofs.snapshot.push_each_feature.Goals as goal

-- one feature more
pub loop-at-preserved : goal.loop-at-preserved
loop-at-preserved c =
    let fs = c.args.db.now in
    let i = c.loop-at.at in
    let f : Feature = record { id = c.unwrap.result.0.now; seq = c.unwrap.result.1.now } in
    let below = c.loop-at-test.true in
    let end = c.len-at-end.ensures.value in
    let lt : i < length fs = omega (arith, below, end) in
    let is : slice_get fs i ≡ Some f = rw c.unwrap.ensures at c.feature.ensures in
    let spelled = c.in_ok-push_feature.ensures.spelled
    ∙ ap (λ (bytes : List ℕ). bytes ++ feature_bytes f) c.loop-at.invariant.0
    ∙ flat_map_more feature_bytes c.args.out.now.items (take i fs) f
    ∙ ap (λ (gs : List Feature). c.args.out.now.items ++ flat_map feature_bytes gs) (sym (one_more fs i f lt is)) in
    let own : FeatureFits f = c.in_ok-push_feature.ensures.fits in (
      spelled,
      All-more FeatureFits fs i f lt c.loop-at.invariant.1 (subst FeatureFits (sym (there fs i f lt is)) own),
    )
