use Rattle.std.proofs.Common.{◌∙◌, ap, sym, subst}
use Rattle.tpoint.specs.Moving.{Sequence}
use Rattle.mfjson.specs.declared.feature.Feature.{Feature}
use Rattle.store.specs.Blocks.{BlocksHold}
use Rattle.store.specs.Bounds.{HoldsAll}
use Rattle.store.proofs.BlockLemmas.{of_feature}
use Rattle.store.proofs.BoundsLemmas.{appended_all}
use Rattle.store.proofs.stored_feature.StoredFeature.append.Goals as goal

-- the bounds of the whole, and those of its block, are widened to the point that is added
pub invariant_of-self : goal.invariant_of-self
invariant_of-self c =
    let bounds = c.with-self-inside in
    let old = c.deref_mut.result.now.seq in
    let all = subst (λ (f : Feature). HoldsAll c.self.inside.bounds f.seq.points) (sym c.deref_mut.ensures.value) c.self.invariant.0 in
    let longer = ap (λ (f : Feature). f.seq.points) c.deref.ensures ∙ ap (λ (s : Sequence). s.points) c.in-Ok.ensures.value in
    let hold = c.append-in-Ok.ensures old.points longer
    (of_feature _ _ (sym c.deref_mut.ensures.value) c.self.invariant.1) in (
      subst (λ (s : Sequence). HoldsAll bounds.result s.points) (sym c.in-Ok.ensures.value)
          (appended_all c.self.inside.bounds bounds.result old.points c.args.point bounds.ensures.had bounds.ensures.added all),
      subst (λ (f : Feature). BlocksHold c.append-in-Ok.new.self.bounds.items f.seq.points) c.deref.ensures hold,
    )
