use Rattle.std.proofs.Common.{subst, ◌∙◌}
use Rattle.tpoint.specs.Moving.{IsValid}
use Rattle.mfjson.specs.declared.feature.Feature.{Feature}
use Rattle.store.specs.Bounds.{HoldsAll}
use Rattle.store.proofs.BoundsLemmas.{stays_in}
use Rattle.store.proofs.stored_feature.StoredFeature.stays_in.Goals as goal

pub returns : goal.returns
returns c = λ told.
    let valid = subst (λ (f : Feature). IsValid f.seq) (c.deref.ensures ∙ c.self.view_is) c.points-points.ensures.valid in
    let all = subst (λ (f : Feature). HoldsAll c.self.inside.bounds f.seq.points) c.self.view_is c.self.invariant.0 in
    stays_in c.args.self.now.seq c.self.inside.bounds c.args.area.now valid all (c.is_inside.ensures.0 told)
