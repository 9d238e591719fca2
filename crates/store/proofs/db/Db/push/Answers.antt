use Rattle.std.proofs.Common.{◌≡◌, ◌++◌, ◌∷◌, [], List, ℕ, ap, sym, subst, ◌∙◌, rules, length, ◌<◌}
use Rattle.std.specs.Prelude.{IsOk}
use Rattle.std.proofs.lemmas.List.Edits.{insert_end}
use Rattle.tpoint.specs.Extents.{Span}
use Rattle.tpoint.specs.Spans.{span_of}
use Rattle.mfjson.specs.declared.feature.Feature.{Feature}
use Rattle.timeindex.specs.Entries.{Entry, id_of}
use Rattle.timeindex.specs.Ascending as ascending
use Rattle.store.specs.Places.{IsFeatureGap}
use Rattle.store.specs.Indexed.{entry_of}
use Rattle.store.specs.declared.db.TheConstants.{MOST_FEATURES}
use Rattle.store.proofs.IndexLemmas.{gap_indexed}
use Rattle.store.proofs.KeptLemmas.{added_kept}
use Rattle.store.proofs.db.Db.push.Goals as goal

-- the last place is a gap of the entries too
pub insert_at-requires : goal.insert_at-requires
insert_at-requires c =
    let fs = c.self.inside.features.items in
    let f : Feature = record { id = c.args.id; seq = c.args.seq } in
    let gap : IsFeatureGap fs c.args.id (length fs) =
    subst (λ (gs : List Feature). IsFeatureGap gs c.args.id (length gs)) (sym c.self.view_is) c.requires.last in
    let last : c.len.result ≡ length fs = search rules in
    rw last (subst (λ (es : List Entry). ascending.IsElementGap id_of es c.args.id (length fs)) (sym c.self.invariant.indexed)
    (gap_indexed fs f (length fs) gap))

-- the feature goes last, and so does its entry
pub invariant_of-self-2 : goal.invariant_of-self-2
invariant_of-self-2 c =
    let fs = c.self.inside.features.items in
    let f = c.in_ok-held.held in
    let is : f ≡ record { id = c.args.id; seq = c.args.seq } = c.in_ok-held.ensures in
    let e : Entry = record { id = c.args.id; first = c.begin.result; last = c.end.result } in
    let spans = c.span-span.ensures ∙ ap (λ (g : Feature). span_of g.seq.points) (sym is) in
    let begins = c.begin.ensures.value ∙ ap (λ (s : Span). s.begin) spans in
    let ends = c.end.ensures.value ∙ ap (λ (s : Span). s.end) spans in
    let entry : e ≡ entry_of f = λ j. record { id = sym (ap (λ (g : Feature). g.id) is) j; first = begins j; last = ends j } in
    let there : IsFeatureGap fs c.args.id (length fs) =
    subst (λ (gs : List Feature). IsFeatureGap gs c.args.id (length gs)) (sym c.self.view_is) c.requires.last in
    let gap = subst (λ (id : List ℕ). IsFeatureGap fs id (length fs)) (sym (ap (λ (g : Feature). g.id) is)) there in
    let room : length fs < MOST_FEATURES = search rules in
    let done : IsOk c.push.result = search rules in
    let pushed = rw done at c.push.ensures.items
    ∙ ap (λ (gs : List Feature). gs ++ f ∷ []) c.try_reserve.ensures.items in
    added_kept fs c.push.new.self.items c.self.inside.index c.insert_at.new.self f e (length fs) c.self.invariant room gap
    (pushed ∙ sym (insert_end fs f)) entry (c.in_ok-insert_at.ensures.value)
