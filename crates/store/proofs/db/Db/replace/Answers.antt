use Rattle.std.proofs.Common.{◌≡◌, ◌<◌, List, length, refl, ap, sym, subst, ◌∙◌, arith}
use Rattle.std.proofs.lemmas.Grind.{common_steps}
use Rattle.tpoint.specs.Extents.{Span}
use Rattle.tpoint.specs.Spans.{span_of}
use Rattle.mfjson.specs.declared.feature.Feature.{Feature}
use Rattle.store.proofs.KeptLemmas.{replaced_kept}
use Rattle.store.proofs.EffectLemmas.{put_known-write}
use Rattle.store.proofs.db.Db.replace.Goals as goal

-- the sequence is written over
pub returns-clause-effect : goal.returns-clause-effect
returns-clause-effect c = λ id found.
    let id_there : c.index_mut.result.now.id ≡ id =
    cc (c.index_mut.ensures.value, c.self.view_is, found.has_id c.index_mut.result.now) in
    put_known-write c.args.self.now _ id c.args.seq.now _ _ c.self.view_is
    (ap (λ (g : Feature). g.id) c.set_seq.ensures ∙ id_there)
    (ap (λ (g : Feature). g.seq) c.set_seq.ensures ∙ c.in_ok-seq.ensures.cases) found

-- the index keeps the span of what the feature is now
pub invariant_of-self : goal.invariant_of-self
invariant_of-self c =
    let f = c.set_seq.new.self in
    let within = subst (λ (fs : List Feature). c.args.at < length fs) (sym c.self.view_is) c.requires in
    let spans = c.span-span.ensures ∙ ap (λ (g : Feature). span_of g.seq.points) (sym c.set_seq.ensures) in
    replaced_kept c.self.inside.features.items _ c.self.inside.index c.replace.new.self f c.index_mut.result.now
    c.begin.result c.end.result c.args.at c.self.invariant within refl
    (ap (λ (g : Feature). g.id) c.set_seq.ensures ∙ ap (λ (g : Feature). g.id) c.index_mut.ensures.value)
    (c.begin.ensures.value ∙ ap (λ (s : Span). s.begin) spans) (c.end.ensures.value ∙ ap (λ (s : Span). s.end) spans)
    c.replace.ensures.value

pub replace-requires : goal.replace-requires
replace-requires c = grind (arith, common_steps)
