use Rattle.std.proofs.Common.{rules, subst}
use Rattle.tpoint.specs.Moving.{At}
use Rattle.tpoint.specs.Extents.{Shares}
use Rattle.mfjson.specs.declared.feature.Feature.{Feature}
use Rattle.store.proofs.BoundsLemmas.{always_yes}
use Rattle.store.proofs.stored_feature.StoredFeature.always.Goals as goal

-- it has a value in the period, and each is in the rectangle
pub returns-then-is_there : goal.returns-then-is_there
returns-then-is_there c =
    let p = c.args.period.now in
    let there = subst (λ (f : Feature). Shares (At f.seq) p) c.feature.ensures (c.is_there.ensures.0 (search rules)) in
    always_yes c.args.self.now.seq p c.args.area.now there (c.stays_in.ensures (search rules))
