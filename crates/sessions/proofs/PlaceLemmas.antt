-- A feature whose id comes after the last goes behind all others.
use Rattle.std.proofs.Common.{◌≡◌, ℕ, suc, ◌<◌, true, List, [], ◌∷◌, ◌++◌, length, Option, Some, None, refl, subst, arith}
use Rattle.std.specs.Prelude.{AllPairs}
use Rattle.std.specs.List.{AllByRecursion as ByRecursion}
use Rattle.std.specs.Ordering.{nat_cmp, is_lt}
use Rattle.std.specs.Cmp.Lexicographic.{slice_cmp, nat_list_cmp_total}
use Rattle.std.specs.declared.cmp.Ordering.{Ordering}
use Rattle.std.specs.declared.cmp.Ordering.TheVariants.{Less, Equal, Greater}
use Rattle.std.proofs.lemmas.List.Elements.{All-from_recursion}
use Rattle.std.proofs.lemmas.List.Edits.{insert_end}
use Rattle.mfjson.specs.declared.feature.Feature.{Feature}
use Rattle.store.specs.Features.{IsDatabase}
use Rattle.store.specs.Places.{IsFeatureGap}
use Rattle.store.specs.declared.db.TheConstants.{MOST_FEATURES}
use Rattle.store.proofs.DatabaseLemmas.{insert_database}
use Rattle.sessions.specs.Restoring.{comes_after}

-- the id of the last feature
abbrev pub last_id : List Feature → Option (List ℕ)
last_id [] = None
last_id (f ∷ []) = Some f.id
last_id (f ∷ g ∷ fs) = last_id (g ∷ fs)

pub last_id-push : (fs : List Feature) (f : Feature) → last_id (fs ++ f ∷ []) ≡ Some f.id
last_id-push [] f = refl
last_id-push (g ∷ []) f = refl
last_id-push (g ∷ h ∷ fs) f = last_id-push (h ∷ fs) f

pub less : (o : Ordering) → is_lt o ≡ true → o ≡ Less
less Less h = refl
less Equal h = absurd cc
less Greater h = absurd cc

-- the id of each feature comes before those of all that follow
abbrev pub Ascends : List Feature → Type 0
Ascends fs = AllPairs (λ (f g : Feature). slice_cmp nat_cmp f.id g.id ≡ Less) fs

all_before : (fs : List Feature) (id : List ℕ) → Ascends fs → comes_after (last_id fs) id ≡ true
    → ByRecursion (λ (f : Feature). slice_cmp nat_cmp f.id id ≡ Less) fs
all_before [] id ascends h = tt
all_before (f ∷ []) id ascends h = (less (slice_cmp nat_cmp f.id id) h, tt)
all_before (f ∷ g ∷ fs) id ascends h =
    let next : slice_cmp nat_cmp f.id g.id ≡ Less = ascends 0 1 f (omega arith) (omega arith) in
    let rest : Ascends (g ∷ fs) = λ i j d lt within. ascends (suc i) (suc j) d (omega (arith, lt)) (omega (arith, within)) in
    let more = all_before (g ∷ fs) id rest h in
    (nat_list_cmp_total.trans f.id g.id id next more.0, more)

pub gap_behind : (fs : List Feature) (id : List ℕ) → IsDatabase fs → comes_after (last_id fs) id ≡ true → IsFeatureGap fs id (length fs)
gap_behind fs id db h = record {
  in_range = omega arith;
  lower = λ k f from to.
      All-from_recursion (λ (g : Feature). slice_cmp nat_cmp g.id id ≡ Less) fs (all_before fs id db.ascending h) k f to;
  higher = λ k f from to. absurd (omega (arith, from, to));
}

pub pushed_database : (fs : List Feature) (f : Feature) → IsDatabase fs → length fs < MOST_FEATURES
    → comes_after (last_id fs) f.id ≡ true → IsDatabase (fs ++ f ∷ [])
pushed_database fs f db room h =
    subst IsDatabase (insert_end fs f) (insert_database fs f (length fs) db room (gap_behind fs f.id db h))
