use Rattle.std.proofs.Common.{◌≡◌, ◌∙◌, sym, subst}
use Rattle.tpoint.specs.Moving.{At}
use Rattle.tpoint.specs.Extents.{Shares}
use Rattle.mfjson.specs.declared.feature.Feature.{Feature}
use Rattle.predicates.specs.Predicates.{SomeInside}
use Rattle.store.proofs.BlockLemmas.{of_feature}
use Rattle.store.proofs.stored_feature.StoredFeature.search.Goals as goal

pub enter-requires-clause-hold : goal.enter-requires-clause-hold
enter-requires-clause-hold c =
    of_feature _ _ (sym c.deref.ensures) c.self.invariant.1

-- a leg is in the rectangle
pub returns-then-enter : goal.returns-then-enter
returns-then-enter c =
    subst (λ (f : Feature). SomeInside (At f.seq) c.args.period.now c.args.area.now) (c.deref.ensures ∙ c.self.view_is)
    (c.enter.ensures.0 c.if-enter.true)

-- none is, but the period has values
pub returns-then-is_there : goal.returns-then-is_there
returns-then-is_there c =
    let p = c.args.period.now in
    let same : c.deref.result.now ≡ c.args.self.now = c.deref.ensures ∙ c.self.view_is in (
      subst (λ (f : Feature). Shares (At f.seq) p) same (c.is_there.ensures.0 c.if-is_there.true),
      λ s.
          let told = c.enter.ensures.1 (subst (λ (f : Feature). SomeInside (At f.seq) p c.args.area.now) (sym same) s) in
          let failed = c.if-enter.false in absurd (cc),
    )

-- it has none
pub returns-else-is_there : goal.returns-else-is_there
returns-else-is_there c = λ shared.
    let same : c.deref.result.now ≡ c.args.self.now = c.deref.ensures ∙ c.self.view_is in
    let told = c.is_there.ensures.1 (subst (λ (f : Feature). Shares (At f.seq) c.args.period.now) (sym same) shared) in
    let failed = c.if-is_there.false in absurd (cc)
