use Rattle.std.proofs.Common.{◌≡◌, List, ℕ, ap, sym, subst, ◌∙◌, rules, length, ◌<◌}
use Rattle.std.specs.Prelude.{IsOk}
use Rattle.std.specs.List.{insert}
use Rattle.tpoint.specs.Extents.{Span}
use Rattle.tpoint.specs.Spans.{span_of}
use Rattle.mfjson.specs.declared.feature.Feature.{Feature}
use Rattle.timeindex.specs.Entries.{Entry, id_of}
use Rattle.timeindex.specs.Ascending as ascending
use Rattle.store.specs.Places.{IsFeatureGap}
use Rattle.store.specs.Indexed.{entry_of}
use Rattle.store.specs.declared.db.TheConstants.{MOST_FEATURES}
use Rattle.store.proofs.IndexLemmas.{gap_indexed}
use Rattle.store.proofs.KeptLemmas.{added_kept}
use Rattle.store.proofs.EffectLemmas.{put_new-write}
use Rattle.store.proofs.db.Db.add.Goals as goal

pub insert_at-requires : goal.insert_at-requires
insert_at-requires c =
    let fs = c.self.inside.features.items in
    let f : Feature = record { id = c.args.id.now; seq = c.args.seq.now } in
    let gap = subst (λ (gs : List Feature). IsFeatureGap gs c.args.id.now c.args.at) (sym c.self.view_is) c.requires.gap in
    subst (λ (es : List Entry). ascending.IsElementGap id_of es c.args.id.now c.args.at) (sym c.self.invariant.indexed)
    (gap_indexed fs f c.args.at gap)

-- the feature is put in the gap, as its entry is
pub invariant_of-self-2 : goal.invariant_of-self-2
invariant_of-self-2 c =
    let fs = c.self.inside.features.items in
    let f = c.in_ok-held.held in
    let is : f ≡ record { id = c.args.id.now; seq = c.args.seq.now } = c.in_ok-held.ensures in
    let e : Entry = record { id = c.args.id.now; first = c.begin.result; last = c.end.result } in
    let spans = c.span-span.ensures ∙ ap (λ (g : Feature). span_of g.seq.points) (sym is) in
    let begins = c.begin.ensures.value ∙ ap (λ (s : Span). s.begin) spans in
    let ends = c.end.ensures.value ∙ ap (λ (s : Span). s.end) spans in
    let entry : e ≡ entry_of f = λ j. record { id = sym (ap (λ (g : Feature). g.id) is) j; first = begins j; last = ends j } in
    let there = subst (λ (gs : List Feature). IsFeatureGap gs c.args.id.now c.args.at) (sym c.self.view_is) c.requires.gap in
    let gap = subst (λ (id : List ℕ). IsFeatureGap fs id c.args.at) (sym (ap (λ (g : Feature). g.id) is)) there in
    let room : length fs < MOST_FEATURES = search rules in
    let done : IsOk c.insert.result = search rules in
    let added = rw done at c.insert.ensures.items
    ∙ ap (λ (gs : List Feature). insert gs c.args.at f) c.try_reserve.ensures.items in
    added_kept fs c.insert.new.self.items c.self.inside.index c.insert_at.new.self f e c.args.at c.self.invariant room gap
    added entry (c.in_ok-insert_at.ensures.value)

pub returns-clause-effect : goal.returns-clause-effect
returns-clause-effect c =
    let done : IsOk c.insert.result = search rules in
    rw done at c.insert.ensures.items
    ∙ put_new-write c.args.self.now _ c.args.id.now c.args.seq.now _ _
    (c.try_reserve.ensures.items ∙ c.self.view_is) (ap (λ (g : Feature). g.id) c.in_ok-held.ensures)
    (ap (λ (g : Feature). g.seq) c.in_ok-held.ensures) c.requires.gap c.requires.room
