-- Each operation makes a database of a database.
use Rattle.std.proofs.Common.{◌≡◌, ℕ, ◌+◌, ◌<◌, ◌≤◌, ◌||◌, List, [], ◌∷◌, length, Bool, true, false, Option, Some, None}
use Rattle.std.proofs.Common.{is_some, if◌then◌else◌, nat_eq, nat_lt, refl, sym, ap, subst, ◌∙◌, arith}
use Rattle.std.specs.List.{find, insert}
use Rattle.std.specs.Option.{option_map_or}
use Rattle.std.specs.Ordering.{is_lt, is_gt, is_eq}
use Rattle.std.specs.Cmp.Lexicographic.{pointwise, bytes_decides, texts_ties}
use Rattle.std.specs.declared.cmp.Ordering.{Ordering}
use Rattle.std.specs.declared.cmp.Ordering.TheVariants.{Less, Equal, Greater}
use Rattle.std.proofs.lemmas.Bool.Decides.{nat_tests}
use Rattle.std.proofs.lemmas.List.{length-append}
use Rattle.std.proofs.lemmas.List.Edits.{length-insert}
use Rattle.mfjson.specs.declared.feature.Feature.{Feature}
use Rattle.store.specs.Additions.{Added}
use Rattle.timeindex.specs.Ascending.{id_order, before, after}
use Rattle.timeindex.proofs.EditLemmas.{insert-gap, with_element_ascending, without_ascending}
use Rattle.store.specs.Features.{feature_id, IsDatabase, feature_of, with_feature, without}
use Rattle.store.specs.Places.{IsFeatureGap}
use Rattle.store.specs.declared.db.TheConstants.{MOST_FEATURES}
use Rattle.store.specs.Operations.{reply, effect, append_reply, extended, is_done}
use Rattle.store.specs.declared.op.Op.{Op}
use Rattle.store.specs.declared.op.Op.TheVariants.{Put, Append, Remove}
use Rattle.store.specs.declared.reply.Reply.TheVariants.{Done, Unknown, TooMany}
use Rattle.store.proofs.ValidLemmas.{by_test}

pub none_database : IsDatabase []
none_database = record { ascending = λ i j d below within. absurd (omega (arith, within)); not_too_many = omega arith }

-- ---- how many there are before an id, and after it
module _ (id : List ℕ) where
  abbrev apart : List Feature → ℕ
  apart fs = length (before feature_id fs id) + length (after feature_id fs id)

  -- a feature more stands on one side at most
  apart_step : (f : Feature) (fs : List Feature) (o : Ordering) → id_order f.id id ≡ o → apart (f ∷ fs) ≤ apart fs + 1
  apart_step f fs Less e =
      let lower : is_lt (id_order f.id id) ≡ true = ap is_lt e in
      let higher : is_gt (id_order f.id id) ≡ false = ap is_gt e in
      grind (arith, lower, higher)
  apart_step f fs Equal e =
      let lower : is_lt (id_order f.id id) ≡ false = ap is_lt e in
      let higher : is_gt (id_order f.id id) ≡ false = ap is_gt e in
      grind (arith, lower, higher)
  apart_step f fs Greater e =
      let lower : is_lt (id_order f.id id) ≡ false = ap is_lt e in
      let higher : is_gt (id_order f.id id) ≡ true = ap is_gt e in
      grind (arith, lower, higher)

  apart_few : (fs : List Feature) → apart fs ≤ length fs
  apart_few [] = omega arith
  apart_few (f ∷ fs) = let step = apart_step f fs (id_order f.id id) refl in let few = apart_few fs in omega arith

  -- the feature with the id is on neither side
  abbrev IsKnown : List Feature → Type 0
  IsKnown fs = is_some (feature_of fs id) ≡ true

  -- it is not the first
  apart_known-behind : (f : Feature) (fs : List Feature) → pointwise nat_eq f.id id ≡ false → (IsKnown fs → apart fs < length fs) →
      IsKnown (f ∷ fs) → apart (f ∷ fs) < length (f ∷ fs)
  apart_known-behind f fs other rest known =
      let below : apart fs < length fs = rest (grind (arith, known, other)) in
      let step = apart_step f fs (id_order f.id id) refl in
      omega arith

  apart_known-more : (f : Feature) (fs : List Feature) (o : Ordering) → id_order f.id id ≡ o →
      (IsKnown fs → apart fs < length fs) → IsKnown (f ∷ fs) → apart (f ∷ fs) < length (f ∷ fs)
  apart_known-more f fs Less e rest known = apart_known-behind f fs (texts_ties f.id id ∙ ap is_eq e) rest known
  apart_known-more f fs Equal e rest known =
      let lower : is_lt (id_order f.id id) ≡ false = ap is_lt e in
      let higher : is_gt (id_order f.id id) ≡ false = ap is_gt e in
      let few = apart_few fs in
      grind (arith, lower, higher, few)
  apart_known-more f fs Greater e rest known = apart_known-behind f fs (texts_ties f.id id ∙ ap is_eq e) rest known

  apart_known : (fs : List Feature) → IsKnown fs → apart fs < length fs
  apart_known [] known = absurd (cc)
  apart_known (f ∷ fs) known = apart_known-more f fs (id_order f.id id) refl (apart_known fs) known

-- ---- a feature that is put in, and one that is taken out
-- there is room for the feature: another with its id goes, or there are too few
abbrev pub HasRoom : List Feature → List ℕ → Type 0
HasRoom fs id = (is_some (feature_of fs id) || nat_lt (length fs) 256) ≡ true

apart_room : (fs : List Feature) (id : List ℕ) → length fs ≤ 256 → (known : Bool) → is_some (feature_of fs id) ≡ known →
    (known || nat_lt (length fs) 256) ≡ true → apart id fs < 256
apart_room fs id few true e room = let below = apart_known id fs e in omega arith
apart_room fs id few false e room = let below = apart_few id fs in grind (arith, nat_tests, room, below)

with_feature_database : (fs : List Feature) (f : Feature) → IsDatabase fs → HasRoom fs f.id → IsDatabase (with_feature fs f)
with_feature_database fs f db room =
    let below = apart_room fs f.id db.not_too_many (is_some (feature_of fs f.id)) refl room in
    let whole = length-append (before feature_id fs f.id) (f ∷ after feature_id fs f.id) in
    record {
      ascending = with_element_ascending feature_id fs f db.ascending;
      not_too_many = omega (arith, below, whole);
    }

pub without_database : (fs : List Feature) (id : List ℕ) → IsDatabase fs → IsDatabase (without fs id)
without_database fs id db =
    let few = apart_few id fs in
    let some = db.not_too_many in
    let whole = length-append (before feature_id fs id) (after feature_id fs id) in
    record {
      ascending = without_ascending feature_id fs id db.ascending;
      not_too_many = omega (arith, few, some, whole);
    }

-- with room for one more, the list is a database again
pub insert_database : (fs : List Feature) (f : Feature) (i : ℕ) → IsDatabase fs →
    length fs < MOST_FEATURES → IsFeatureGap fs f.id i → IsDatabase (insert fs i f)
insert_database fs f i db room gap =
    record {
      ascending = rw (insert-gap feature_id fs f i gap) (with_element_ascending feature_id fs f db.ascending);
      not_too_many = rw (length-insert fs i f gap.in_range) (omega arith);
    }

-- ---- each operation
put_database : (fs : List Feature) (f : Feature) → IsDatabase fs → (room : Bool) →
    (is_some (feature_of fs f.id) || nat_lt (length fs) 256) ≡ room →
    IsDatabase (if is_done (if room then Done else TooMany) then with_feature fs f else fs)
put_database fs f db true e = with_feature_database fs f db e
put_database fs f db false e = db

-- the feature that is found passes the test
found_passes : (p : Feature → Bool) (fs : List Feature) (f : Feature) → find p fs ≡ Some f → p f ≡ true
found_passes p [] f found = absurd (cc)
found_passes p (g ∷ fs) f found =
    by_test (λ b. (if b then Some g else find p fs) ≡ Some f → b ≡ p g → p f ≡ true) (p g)
    (λ passes. λ here same. let it : g ≡ f = (cc) in subst (λ (h : Feature). p h ≡ true) it passes)
    (λ fails. λ there same. found_passes p fs f there) found refl

-- it has the id, so a feature with its id is known
found_known : (id : List ℕ) (fs : List Feature) (f : Feature) → feature_of fs id ≡ Some f → is_some (feature_of fs f.id) ≡ true
found_known id fs f found =
    let passes : pointwise nat_eq f.id id ≡ true = found_passes (λ (g : Feature). pointwise nat_eq g.id id) fs f found in
    subst (λ (i : List ℕ). is_some (feature_of fs i) ≡ true) (sym ((bytes_decides f.id id).0 passes)) (ap is_some found)

append_database : (fs : List Feature) (a : Added) (found : Option Feature) → feature_of fs a.id ≡ found → IsDatabase fs →
    IsDatabase (if is_done (option_map_or (λ f. append_reply f.seq.points a.point) found Unknown)
    then option_map_or (λ f. with_feature fs (record f { seq = extended f.seq a.point })) found fs else fs)
append_database fs a None e db = db
append_database fs a (Some f) e db =
    let known : is_some (feature_of fs f.id) ≡ true = found_known a.id fs f e in
    let room : HasRoom fs f.id = ap (λ (b : Bool). b || nat_lt (length fs) 256) known in
    by_test (λ b. IsDatabase (if b then with_feature fs (record f { seq = extended f.seq a.point }) else fs))
    (is_done (append_reply f.seq.points a.point))
    (λ done. with_feature_database fs (record f { seq = extended f.seq a.point }) db room) (λ refused. db)

pub effect_database : (fs : List Feature) (op : Op) → IsDatabase fs → IsDatabase (effect fs op)
effect_database fs (Put id seq) db = put_database fs (record { id = id; seq = seq }) db _ refl
effect_database fs (Append a) db = append_database fs a (feature_of fs a.id) refl db
effect_database fs (Remove id) db =
    by_test (λ b. IsDatabase (if b then without fs id else fs)) (is_done (reply fs (Remove id)))
    (λ done. without_database fs id db) (λ refused. db)
