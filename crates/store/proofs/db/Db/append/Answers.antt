use Rattle.std.proofs.Common.{List, refl, ◌<◌, length, rules, sym, ap, subst, ◌∙◌, arith}
use Rattle.std.proofs.lemmas.Grind.{common_steps}
use Rattle.store.specs.Operations.{is_done}
use Rattle.store.specs.Places.{FeatureIsAt, IsFeatureGap}
use Rattle.store.proofs.EffectLemmas.{append_known-reply, append_known-write, append_unknown-reply, append_unknown-effect}
use Rattle.tpoint.specs.Extents.{Span}
use Rattle.tpoint.specs.Spans.{span_of}
use Rattle.mfjson.specs.declared.feature.Feature.{Feature}
use Rattle.store.proofs.KeptLemmas.{replaced_kept}
use Rattle.store.proofs.db.Db.append.Goals as goal

-- the id is unknown
pub returns-in_default-clause-reply : goal.returns-in_default-clause-reply
returns-in_default-clause-reply c =
    let gap = subst (λ id. IsFeatureGap c.args.self.now id c.in_default.field-0) c.id.ensures c.in_default.ensures.absent in
    sym (append_unknown-reply c.args.self.now c.args.addition.now _ gap)

pub returns-in_default-clause-effect : goal.returns-in_default-clause-effect
returns-in_default-clause-effect c =
    let gap = subst (λ id. IsFeatureGap c.args.self.now id c.in_default.field-0) c.id.ensures c.in_default.ensures.absent in
    sym (append_unknown-effect c.args.self.now c.args.addition.now _ gap)

-- the id is known, and its feature gets the point, or refuses it
pub returns-clause-reply : goal.returns-clause-reply
returns-clause-reply c =
    let at = subst (λ id. FeatureIsAt c.args.self.now id c.in-Ok.at) c.id.ensures c.in-Ok.ensures.found in
    c.in_ok-told.ensures.reply
    ∙ append_known-reply c.args.self.now c.args.addition.now _ at _ _ _ c.self.view_is c.index_mut-held.ensures.value c.point.ensures.value

pub returns-clause-effect : goal.returns-clause-effect
returns-clause-effect c =
    let at = subst (λ id. FeatureIsAt c.args.self.now id c.in-Ok.at) c.id.ensures c.in-Ok.ensures.found in
    append_known-write c.args.self.now c.args.addition.now _ at _ _ _ _ c.self.view_is c.index_mut-held.ensures.value c.point.ensures.value
    c.in_ok-told.ensures.effect

pub returns-in_err-told-clause-in_place : goal.returns-in_err-told-clause-in_place
returns-in_err-told-clause-in_place c = λ refused.
    let at = subst (λ id. FeatureIsAt c.args.self.now id c.in-Ok.at) c.id.ensures c.in-Ok.ensures.found in
    let told = append_known-reply c.args.self.now c.args.addition.now _ at _ _ _ c.self.view_is c.index_mut-held.ensures.value
    c.point.ensures.value in
    let kept = c.append.ensures.in_place (ap is_done told ∙ refused) in
    absurd (search rules)

-- the index keeps the span of what the feature is now
pub invariant_of-self-2 : goal.invariant_of-self-2
invariant_of-self-2 c =
    let f = c.append.new.self in
    let spans = c.span-span.ensures ∙ ap (λ (g : Feature). span_of g.seq.points) c.feature.ensures in
    let within = subst (λ (fs : List Feature). c.in-Ok.at < length fs) (sym c.self.view_is) c.in-Ok.ensures.found.in_range in
    replaced_kept c.self.inside.features.items _ c.self.inside.index c.replace.new.self f c.index_mut-held.result.now
    c.begin.result c.end.result c.in-Ok.at c.self.invariant within refl
    (ap (λ (g : Feature). g.id) c.in_ok-told.ensures.effect ∙ ap (λ (g : Feature). g.id) c.index_mut-held.ensures.value)
    (c.begin.ensures.value ∙ ap (λ (s : Span). s.begin) spans) (c.end.ensures.value ∙ ap (λ (s : Span). s.end) spans)
    c.replace.ensures.value

pub invariant_of-self : goal.invariant_of-self
invariant_of-self c = grind (arith, common_steps)

pub returns-in_err-told-clause-err : goal.returns-in_err-told-clause-err
returns-in_err-told-clause-err c = grind (arith, common_steps)

pub replace-requires : goal.replace-requires
replace-requires c = grind (arith, common_steps)
