-- Each operation that brings what is valid leaves the features valid.
use Rattle.std.proofs.Common.{◌≡◌, ℕ, ◌<◌, ◌==◌, List, [], ◌∷◌, length, Bool, true, false, Option, Some, None, if◌then◌else◌, nat_eq}
use Rattle.std.proofs.Common.{nat_lt, refl, subst, arith}
use Rattle.std.specs.Option.{option_map_or}
use Rattle.std.specs.Cmp.Lexicographic.{pointwise}
use Rattle.std.proofs.lemmas.Bool.Decides.{nat_tests}
use Rattle.std.proofs.lemmas.List.Elements.{All-nil, All-cons, All-append, All-filter}
use Rattle.tpoint.specs.Moving.{IsValid, InBounds}
use Rattle.tpoint.specs.Faults.{IsLater}
use Rattle.tpoint.specs.declared.point.Point.{Point}
use Rattle.tpoint.proofs.Appending.{appended_valid}
use Rattle.mfjson.specs.declared.feature.Feature.{Feature}
use Rattle.store.specs.Additions.{Added}
use Rattle.timeindex.specs.Ascending.{before, after}
use Rattle.store.specs.Features.{feature_id, AreValid, feature_of, with_feature, without}
use Rattle.store.specs.Operations.{reply, effect, append_reply, extended, is_done, is_later, OpIsValid}
use Rattle.store.specs.declared.op.Op.{Op}
use Rattle.store.specs.declared.op.Op.TheVariants.{Put, Append, Remove}
use Rattle.store.specs.declared.reply.Reply.TheVariants.{Done, Unknown, NotLater, Full}
use Rattle.store.proofs.OneAnswer.{IsValidFound, valid_found}

-- ---- features taken together
abbrev IsValidFeature : Feature → Type 0
IsValidFeature f = IsValid f.seq

pub none_valid : AreValid []
none_valid = record { each = All-nil IsValidFeature }

with_valid : (fs : List Feature) (f : Feature) → AreValid fs → IsValid f.seq → AreValid (with_feature fs f)
with_valid fs f v h =
    let low = All-filter _ IsValidFeature fs v.each in
    let high = All-filter _ IsValidFeature fs v.each in
    let behind = All-cons IsValidFeature f (after feature_id fs f.id) h high in
    record { each = All-append IsValidFeature (before feature_id fs f.id) (f ∷ after feature_id fs f.id) low behind }

without_valid : (fs : List Feature) (id : List ℕ) → AreValid fs → AreValid (without fs id)
without_valid fs id v =
    let low = All-filter _ IsValidFeature fs v.each in
    let high = All-filter _ IsValidFeature fs v.each in
    record { each = All-append IsValidFeature (before feature_id fs id) (after feature_id fs id) low high }

-- whatever is told, valid features or those that were
either_valid : (b : Bool) (fs gs : List Feature) → AreValid fs → AreValid gs → AreValid (if b then gs else fs)
either_valid true fs gs v w = w
either_valid false fs gs v w = v

-- ---- a point more
later_point : (ps : List Point) (p : Point) → is_later ps p ≡ true → IsLater ps p
later_point ps p e =
    record {
      after_last = λ last at.
          let told : nat_lt last.t p.t ≡ true =
          subst (λ (o : Option Point). option_map_or (λ (q : Point). nat_lt q.t p.t) o true ≡ true) at e in
          grind (arith, nat_tests, told);
    }

pub by_test : (P : Bool → Type 0) (b : Bool) → (b ≡ true → P true) → (b ≡ false → P false) → P b
by_test P true t f = t refl
by_test P false t f = f refl

appended_one : (fs : List Feature) (f : Feature) (p : Point) → AreValid fs → IsValid f.seq → InBounds p →
    AreValid (if is_done (append_reply f.seq.points p) then with_feature fs (record f { seq = extended f.seq p }) else fs)
appended_one fs f p v h fits =
    let ps = f.seq.points in
    let new = with_feature fs (record f { seq = extended f.seq p }) in
    by_test (λ b. AreValid (if is_done (if b then (if length ps == 1024 then Full else Done) else NotLater) then new else fs))
    (is_later ps p)
    (λ later. by_test (λ b. AreValid (if is_done (if b then Full else Done) then new else fs)) (length ps == 1024)
    (λ full. v)
    (λ room.
    let few = h.not_too_many in
    let less : length ps < 1024 = grind (arith, nat_tests, room, few) in
    with_valid fs (record f { seq = extended f.seq p }) v
    (appended_valid f.seq p h (record { later = later_point ps p later; room = less; in_bounds = fits }))))
    (λ none. v)

append_valid : (fs : List Feature) (a : Added) (found : Option Feature) → AreValid fs → IsValidFound found → InBounds a.point →
    AreValid (if is_done (option_map_or (λ f. append_reply f.seq.points a.point) found Unknown)
    then option_map_or (λ f. with_feature fs (record f { seq = extended f.seq a.point })) found fs else fs)
append_valid fs a None v h fits = v
append_valid fs a (Some f) v h fits = appended_one fs f a.point v h fits

-- ---- each operation
pub effect_valid : (fs : List Feature) (op : Op) → AreValid fs → OpIsValid op → AreValid (effect fs op)
effect_valid fs (Put id seq) v h =
    either_valid (is_done (reply fs (Put id seq))) fs (with_feature fs (record { id = id; seq = seq })) v
    (with_valid fs (record { id = id; seq = seq }) v h)
effect_valid fs (Append a) v h =
    append_valid fs a (feature_of fs a.id) v (valid_found (λ f. pointwise nat_eq f.id a.id) fs v.each) h
effect_valid fs (Remove id) v h =
    either_valid (is_done (reply fs (Remove id))) fs (without fs id) v (without_valid fs id v)
