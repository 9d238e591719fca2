-- Replies and effects, by what a look for the id finds.
use Rattle.std.proofs.Common.{◌≡◌, ℕ, ◌<◌, List, length, get_or, set, if◌then◌else◌, refl, sym, ap, subst, ◌∙◌, arith}
use Rattle.std.specs.List.{insert, remove}
use Rattle.std.proofs.lemmas.List.{set-get_or}
use Rattle.std.proofs.lemmas.Bool.Decides.{nat_tests}
use Rattle.tpoint.specs.Moving.{Sequence}
use Rattle.tpoint.specs.declared.point.Point.{Point}
use Rattle.mfjson.specs.declared.feature.Feature.{Feature}
use Rattle.store.specs.Additions.{Added}
use Rattle.timeindex.proofs.PlaceLemmas.{element_of-at, element_of-gap}
use Rattle.timeindex.proofs.EditLemmas.{set-at, insert-gap, remove-at}
use Rattle.store.specs.Features.{feature_id, with_feature}
use Rattle.store.specs.Operations.{reply, effect, append_reply, append_effect, extended, is_done}
use Rattle.store.specs.Places.{FeatureIsAt, IsFeatureGap}
use Rattle.store.specs.declared.db.TheConstants.{MOST_FEATURES}
use Rattle.store.specs.declared.op.Op.TheVariants.{Put, Append, Remove}
use Rattle.store.specs.declared.reply.Reply.{Reply}
use Rattle.store.specs.declared.reply.Reply.TheVariants.{Done, Unknown, NotLater, Full, TooMany}

-- ---- Put
module _ (fs : List Feature) (id : List ℕ) (seq : Sequence) (i : ℕ) where
  module _ (at : FeatureIsAt fs id i) where
    pub put_known-reply : reply fs (Put id seq) ≡ Done
    put_known-reply = rw (element_of-at feature_id fs id i at (record { id = id; seq = seq })) refl

    pub put_known-effect : set fs i (record { id = id; seq = seq }) ≡ effect fs (Put id seq)
    put_known-effect =
        rw (element_of-at feature_id fs id i at (record { id = id; seq = seq }))
        (set-at feature_id fs (record { id = id; seq = seq }) i at)

  module _ (gap : IsFeatureGap fs id i) where
    pub put_new-reply : length fs < MOST_FEATURES → reply fs (Put id seq) ≡ Done
    put_new-reply room = rw (element_of-gap feature_id fs id i gap) (grind (arith, nat_tests, room))

    pub put_new-effect : length fs < MOST_FEATURES →
        insert fs i (record { id = id; seq = seq }) ≡ effect fs (Put id seq)
    put_new-effect room =
        let done : reply fs (Put id seq) ≡ Done = put_new-reply room in
        rw done (insert-gap feature_id fs (record { id = id; seq = seq }) i gap)

    pub put_full-reply : length fs ≡ MOST_FEATURES → reply fs (Put id seq) ≡ TooMany
    put_full-reply full = rw (element_of-gap feature_id fs id i gap) (grind (arith, nat_tests, full))

    pub put_full-effect : length fs ≡ MOST_FEATURES → effect fs (Put id seq) ≡ fs
    put_full-effect full =
        let refused : reply fs (Put id seq) ≡ TooMany = put_full-reply full in
        rw refused refl

-- the same of a list and a feature that are equal to these
pub put_known-write : (fs gs : List Feature) (id : List ℕ) (seq : Sequence) (f : Feature) (i : ℕ) →
    gs ≡ fs → f.id ≡ id → f.seq ≡ seq → FeatureIsAt fs id i → set gs i f ≡ effect fs (Put id seq)
put_known-write fs gs id seq f i same same_id same_seq at =
    let feature : f ≡ record { id = id; seq = seq } =
    λ j. record { id = same_id j; seq = same_seq j } in
    (λ j. set (same j) i (feature j)) ∙ put_known-effect fs id seq i at

pub put_new-write : (fs gs : List Feature) (id : List ℕ) (seq : Sequence) (f : Feature) (i : ℕ) →
    gs ≡ fs → f.id ≡ id → f.seq ≡ seq → IsFeatureGap fs id i → length fs < MOST_FEATURES →
    insert gs i f ≡ effect fs (Put id seq)
put_new-write fs gs id seq f i same same_id same_seq gap room =
    let feature : f ≡ record { id = id; seq = seq } =
    λ j. record { id = same_id j; seq = same_seq j } in
    (λ j. insert (same j) i (feature j)) ∙ put_new-effect fs id seq i gap room

-- ---- Append
-- by the reply, the feature at a place has a point more, or it is as it was
appended : (fs : List Feature) (f : Feature) (p : Point) (i : ℕ) → FeatureIsAt fs f.id i → set fs i f ≡ fs →
    (r : Reply) →
    set fs i (record f { seq = if is_done r then extended f.seq p else f.seq })
    ≡ (if is_done r then with_feature fs (record f { seq = extended f.seq p }) else fs)
appended fs f p i at same Done = set-at feature_id fs (record f { seq = extended f.seq p }) i at
appended fs f p i at same Unknown = same
appended fs f p i at same NotLater = same
appended fs f p i at same Full = same
appended fs f p i at same TooMany = same

module _ (fs : List Feature) (a : Added) (i : ℕ) where
  module _ (at : FeatureIsAt fs a.id i) where
    -- of a list, a feature and a point that are equal to these
    pub append_known-reply : (gs : List Feature) (f : Feature) (p : Point) → gs ≡ fs → f ≡ get_or gs i f → p ≡ a.point →
        append_reply f.seq.points p ≡ reply fs (Append a)
    append_known-reply gs f p same there point =
        let here : f ≡ get_or fs i f = there ∙ ap (λ hs. get_or hs i f) same in
        (λ j. append_reply (here j).seq.points (point j)) ∙ rw (element_of-at feature_id fs a.id i at f) refl

    append_known-effect : (d : Feature) →
        set fs i (record (get_or fs i d) { seq = append_effect (get_or fs i d).seq a.point })
        ≡ effect fs (Append a)
    append_known-effect d =
        rw (element_of-at feature_id fs a.id i at d) (appended fs (get_or fs i d) a.point i
        (subst (λ id. FeatureIsAt fs id i) (sym (at.has_id d)) at) (set-get_or fs i d)
        (append_reply (get_or fs i d).seq.points a.point))

    pub append_known-write : (gs : List Feature) (f g : Feature) (p : Point) → gs ≡ fs → f ≡ get_or gs i f → p ≡ a.point →
        g ≡ record f { seq = append_effect f.seq p } → set gs i g ≡ effect fs (Append a)
    append_known-write gs f g p same there point written =
        let here : f ≡ get_or fs i f = there ∙ ap (λ hs. get_or hs i f) same in
        let feature : g ≡ record (get_or fs i f) { seq = append_effect (get_or fs i f).seq a.point } =
        written ∙ (λ j. record { id = (here j).id; seq = append_effect (here j).seq (point j) }) in
        (λ j. set (same j) i (feature j)) ∙ append_known-effect f

  module _ (gap : IsFeatureGap fs a.id i) where
    pub append_unknown-reply : reply fs (Append a) ≡ Unknown
    append_unknown-reply = rw (element_of-gap feature_id fs a.id i gap) refl

    pub append_unknown-effect : effect fs (Append a) ≡ fs
    append_unknown-effect = rw (element_of-gap feature_id fs a.id i gap) refl

-- ---- Remove
module _ (fs : List Feature) (id : List ℕ) (i : ℕ) where
  module _ (at : FeatureIsAt fs id i) (d : Feature) where
    pub remove_known-reply : reply fs (Remove id) ≡ Done
    remove_known-reply = rw (element_of-at feature_id fs id i at d) refl

    pub remove_known-effect : remove fs i ≡ effect fs (Remove id)
    remove_known-effect = rw (element_of-at feature_id fs id i at d) (remove-at feature_id fs id i at)

    -- the same of a list that is equal to this
    pub remove_known-write : (gs : List Feature) → gs ≡ fs → remove gs i ≡ effect fs (Remove id)
    remove_known-write gs same = (λ j. remove (same j) i) ∙ remove_known-effect

  module _ (gap : IsFeatureGap fs id i) where
    pub remove_unknown-reply : reply fs (Remove id) ≡ Unknown
    remove_unknown-reply = rw (element_of-gap feature_id fs id i gap) refl

    pub remove_unknown-effect : effect fs (Remove id) ≡ fs
    remove_unknown-effect = rw (element_of-gap feature_id fs id i gap) refl
