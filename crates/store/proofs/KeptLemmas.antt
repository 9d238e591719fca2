-- Each edit of the features, with the same of the index, keeps the two together.
use Rattle.std.proofs.Common.{◌≡◌, ℕ, ◌<◌, List, length, get_or, set, slice_get, slice_set, Some, sym, ap, subst, ◌∙◌, arith}
use Rattle.std.specs.List.{insert, remove}
use Rattle.std.specs.Option.{option_map}
use Rattle.std.proofs.lemmas.List.{map-set, length-set, get_or_default}
use Rattle.std.proofs.lemmas.Option.{slice_get-get_or, slice_get-map}
use Rattle.tpoint.specs.Spans.{span_of}
use Rattle.mfjson.specs.declared.feature.Feature.{Feature}
use Rattle.timeindex.specs.Entries.{Entry, with_entry}
use Rattle.timeindex.specs.Ascending.{IdsAscend}
use Rattle.timeindex.proofs.PlaceLemmas.{at_place}
use Rattle.timeindex.proofs.EditLemmas.{set-at, insert-gap, remove-at, with_element_ascending}
use Rattle.store.specs.Features.{feature_id, IsDatabase, with_feature, without}
use Rattle.store.specs.Places.{FeatureIsAt, IsFeatureGap}
use Rattle.store.specs.Indexed.{entry_of, entries_of, IndexIsKept}
use Rattle.store.specs.declared.db.TheConstants.{MOST_FEATURES}
use Rattle.store.proofs.DatabaseLemmas.{without_database, insert_database}
use Rattle.store.proofs.IndexLemmas.{with_feature_indexed, remove_indexed}

-- a feature is taken out
pub removed_kept : (fs gs : List Feature) (es ds : List Entry) (id : List ℕ) (i : ℕ) → IndexIsKept fs es → FeatureIsAt fs id i →
    gs ≡ remove fs i → ds ≡ remove es i → IndexIsKept gs ds
removed_kept fs gs es ds id i kept at gone taken =
    let same : gs ≡ without fs id = gone ∙ remove-at feature_id fs id i at in
    record {
      database = subst IsDatabase (sym same) (without_database fs id kept.database);
      indexed = taken ∙ ap (λ (xs : List Entry). remove xs i) kept.indexed ∙ remove_indexed fs i ∙ ap entries_of (sym gone);
    }

-- a feature is put into a gap
pub added_kept : (fs gs : List Feature) (es ds : List Entry) (f : Feature) (e : Entry) (i : ℕ) → IndexIsKept fs es →
    length fs < MOST_FEATURES → IsFeatureGap fs f.id i → gs ≡ insert fs i f → e ≡ entry_of f → ds ≡ with_entry es e → IndexIsKept gs ds
added_kept fs gs es ds f e i kept room gap added entry taken =
    let same : gs ≡ with_feature fs f = added ∙ insert-gap feature_id fs f i gap in
    record {
      database = subst IsDatabase (sym added) (insert_database fs f i kept.database room gap);
      indexed = taken ∙ (λ j. with_entry (kept.indexed j) (entry j)) ∙ with_feature_indexed fs f ∙ ap entries_of (sym same);
    }

-- a feature is written over by another with its id
pub replaced_kept : (fs gs : List Feature) (es ds : List Entry) (f d : Feature) (first last i : ℕ) → IndexIsKept fs es → i < length fs →
    gs ≡ set fs i f → f.id ≡ (get_or fs i d).id → first ≡ (span_of f.seq.points).begin → last ≡ (span_of f.seq.points).end →
    ((e : Entry) → slice_get es i ≡ Some e → ds ≡ slice_set es i (record e { first = first; last = last })) → IndexIsKept gs ds
replaced_kept fs gs es ds f d first last i kept within written same_id begins ends replaced =
    let g = get_or fs i d in
    let place = at_place feature_id fs kept.database.ascending f.id i within
    (λ k. ap (λ (h : Feature). h.id) (get_or_default fs i k d within) ∙ sym same_id) in
    let same : gs ≡ with_feature fs f = written ∙ set-at feature_id fs f i place in
    let there : slice_get es i ≡ Some (entry_of g) =
    ap (λ (xs : List Entry). slice_get xs i) kept.indexed ∙ slice_get-map entry_of fs i
    ∙ ap (option_map entry_of) (slice_get-get_or fs i d within) in
    let entry : record (entry_of g) { first = first; last = last } ≡ entry_of f =
    λ j. record { id = sym same_id j; first = begins j; last = ends j } in
    let long = ap length written ∙ length-set fs i f in
    let few = kept.database.not_too_many in
    record {
      database = record {
        ascending = subst (IdsAscend feature_id) (sym same) (with_element_ascending feature_id fs f kept.database.ascending);
        not_too_many = omega arith;
      };
      indexed = replaced (entry_of g) there ∙ (λ j. set (kept.indexed j) i (entry j)) ∙ sym (map-set entry_of fs i f)
          ∙ ap entries_of (sym written);
    }
