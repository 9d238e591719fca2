-- The index over time beside the features.
use Rattle.std.proofs.Common.{◌≡◌, ℕ, suc, ◌<◌, ◌≤◌, List, ◌∷◌, ◌++◌, length, take, drop, get_or, slice_get, Bool, true, false, nat_le}
use Rattle.std.proofs.Common.{nat_lt}
use Rattle.std.proofs.Common.{if◌then◌else◌, Some, refl, sym, ap, subst, ◌∙◌, arith}
use Rattle.std.specs.List.{remove}
use Rattle.std.specs.Option.{option_map}
use Rattle.std.specs.Ordering.{is_lt, is_gt}
use Rattle.std.specs.declared.cmp.Ordering.TheVariants.{Less, Greater}
use Rattle.std.proofs.lemmas.Bool.Decides.{nat_tests}
use Rattle.std.proofs.lemmas.List.{map-append, take-map, drop-map, length-map, get_or-map}
use Rattle.std.proofs.lemmas.Option.{slice_get-get_or, slice_get-map}
use Rattle.tpoint.specs.Extents.{Span, Area, Before}
use Rattle.tpoint.specs.Spans.{span_of, HasValuesIn}
use Rattle.tpoint.specs.Moving.{moment}
use Rattle.tpoint.proofs.Fractions.{moment_le, moment_lt}
use Rattle.tpoint.proofs.Periods.{up_then_before, before_then_up}
use Rattle.tpoint.proofs.ListLemmas.{filter_mapped}
use Rattle.predicates.specs.Predicates.{IsEver}
use Rattle.predicates.specs.declared.questions.Tri.TheVariants.{Yes}
use Rattle.mfjson.specs.declared.feature.Feature.{Feature}
use Rattle.timeindex.specs.Ascending.{id_order, before, after, IsElementGap}
use Rattle.timeindex.specs.Entries.{Entry, id_of, overlaps, with_entry}
use Rattle.store.specs.Features.{feature_id, with_feature}
use Rattle.store.specs.Indexed.{entry_of, entries_of}

-- ---- an edit of the features, and the same of their entries
before_indexed : (fs : List Feature) (id : List ℕ) → before id_of (entries_of fs) id ≡ entries_of (before feature_id fs id)
before_indexed fs id = filter_mapped (λ (e : Entry). is_lt (id_order e.id id)) entry_of fs

after_indexed : (fs : List Feature) (id : List ℕ) → after id_of (entries_of fs) id ≡ entries_of (after feature_id fs id)
after_indexed fs id = filter_mapped (λ (e : Entry). is_gt (id_order e.id id)) entry_of fs

pub with_feature_indexed : (fs : List Feature) (f : Feature) → with_entry (entries_of fs) (entry_of f) ≡ entries_of (with_feature fs f)
with_feature_indexed fs f =
    (λ j. before_indexed fs f.id j ++ entry_of f ∷ after_indexed fs f.id j)
    ∙ sym (map-append entry_of (before feature_id fs f.id) (f ∷ after feature_id fs f.id))

-- an id that no feature has would go to the same place among the entries
pub gap_indexed : (fs : List Feature) (f : Feature) (i : ℕ) → IsElementGap feature_id fs f.id i → IsElementGap id_of (entries_of fs) f.id i
gap_indexed fs f i gap =
    record {
      in_range = subst (λ (n : ℕ). i ≤ n) (sym (length-map fs entry_of)) gap.in_range;
      lower = λ k e from to.
          let within : k < length fs = omega (arith, gap.in_range, to) in
          subst (λ (x : Entry). id_order x.id f.id ≡ Less) (sym (get_or-map entry_of fs k f e within)) (gap.lower k f from to);
      higher = λ k e from to.
          let within : k < length fs = subst (λ (n : ℕ). k < n) (length-map fs entry_of) to in
          subst (λ (x : Entry). id_order x.id f.id ≡ Greater) (sym (get_or-map entry_of fs k f e within)) (gap.higher k f from within);
    }

pub remove_indexed : (fs : List Feature) (i : ℕ) → remove (entries_of fs) i ≡ entries_of (remove fs i)
remove_indexed fs i =
    (λ j. take-map entry_of i fs j ++ drop-map entry_of (suc i) fs j) ∙ sym (map-append entry_of (take i fs) (drop (suc i) fs))

-- what the index keeps at the place of a feature
pub entry_there : (fs : List Feature) (es : List Entry) (i : ℕ) (f : Feature) → es ≡ entries_of fs → i < length fs →
    f ≡ get_or fs i f → slice_get es i ≡ Some (entry_of f)
entry_there fs es i f indexed within there =
    ap (λ (xs : List Entry). slice_get xs i) indexed ∙ slice_get-map entry_of fs i
    ∙ ap (option_map entry_of) (slice_get-get_or fs i f within ∙ ap Some (sym there))

-- ---- a feature that doesn't overlap a period is never there in it
tells_before : (counts : Bool) (m n : ℕ) → Before counts (moment m) (moment n) → (if counts then nat_le m n else nat_lt m n) ≡ true
tells_before true m n h = let order = (moment_le m n).1 h.not_after in grind (arith, nat_tests, order)
tells_before false m n h = let order = (moment_lt m n).1 (h.apart refl) in grind (arith, nat_tests, order)

pub not_there : (f : Feature) (p : Span) (r : Area) → HasValuesIn f.seq (span_of f.seq.points) →
    overlaps p (entry_of f) ≡ false → ¬ IsEver f.seq p r Yes
not_there f p r spans fails ever =
    let e = entry_of f in
    let own = spans.within ever.t ever.v ever.value in
    let asked = ever.in_period in
    let begun = tells_before p.end_in e.first p.end (up_then_before own.begun.not_after asked.not_over) in
    let not_over = tells_before p.begin_in p.begin e.last (before_then_up asked.begun own.not_over.not_after) in
    let told : overlaps p e ≡ true = cc in
    absurd (cc)
