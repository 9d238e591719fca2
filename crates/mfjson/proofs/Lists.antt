-- What the lists of a document say, element by element.
use Rattle.std.proofs.Common.{◌≡◌, ℕ, zero, suc, ◌+◌, ◌<◌, List, [], ◌∷◌, ◌++◌, length, map, take, get_or, Some, refl, arith, ◌∙◌, ap, sym}
use Rattle.std.proofs.Common.{ℤ}
use Rattle.std.proofs.Common.{subst, inl, inr}
use Rattle.std.proofs.lemmas.List.{map_more, take-map, take_more, map-append}
use Rattle.std.proofs.lemmas.Bool.{cases_lt}
use Rattle.std.specs.List.{slice_get}
use Rattle.std.proofs.lemmas.Option.{slice_get-get_or, slice_get-map, same_Some}
use Rattle.serde_json.specs.Data.{Data}
use Rattle.mfjson.specs.Pairs.{Pairwise}
use Rattle.mfjson.specs.Faults.{FailsAt}
use Rattle.tpoint.specs.declared.point.Point.{Point}
use Rattle.mfjson.specs.Outline.{AreTogether, FailsFirst}
use Rattle.mfjson.proofs.PairLemmas.{pairwise_push}

pub pairwise_length : {A B : Type 0} (R : A → B → Type 0) (xs : List A) (ys : List B) → Pairwise R xs ys → length xs ≡ length ys
pairwise_length {A} {B} R [] [] p = refl
pairwise_length {A} {B} R [] (y ∷ ys) p = absurd p
pairwise_length {A} {B} R (x ∷ xs) [] p = absurd p
pairwise_length {A} {B} R (x ∷ xs) (y ∷ ys) p = ap suc (pairwise_length R xs ys p.1)

-- what stands beside the element at k, in either list
pub pairwise_get : {A B : Type 0} (R : A → B → Type 0) (xs : List A) (ys : List B) (k : ℕ) (x : A) →
    Pairwise R xs ys → slice_get xs k ≡ Some x → (y : B) × (slice_get ys k ≡ Some y) × R x y
pairwise_get {A} {B} R [] ys k x p e = absurd (cc)
pairwise_get {A} {B} R (a ∷ xs) [] k x p e = absurd p
pairwise_get {A} {B} R (a ∷ xs) (b ∷ ys) zero x p e = (b, refl, subst (λ z. R z b) (same_Some a x e) p.0)
pairwise_get {A} {B} R (a ∷ xs) (b ∷ ys) (suc k) x p e = pairwise_get R xs ys k x p.1 e

pub pairwise_back : {A B : Type 0} (R : A → B → Type 0) (xs : List A) (ys : List B) (k : ℕ) (y : B) →
    Pairwise R xs ys → slice_get ys k ≡ Some y → (x : A) × (slice_get xs k ≡ Some x) × R x y
pairwise_back {A} {B} R xs [] k y p e = absurd (cc)
pairwise_back {A} {B} R [] (b ∷ ys) k y p e = absurd p
pairwise_back {A} {B} R (a ∷ xs) (b ∷ ys) zero y p e = (a, refl, subst (λ z. R a z) (same_Some b y e) p.0)
pairwise_back {A} {B} R (a ∷ xs) (b ∷ ys) (suc k) y p e = pairwise_back R xs ys k y p.1 e

-- seen through f
pub pairwise_under : {A B C : Type 0} (R : A → C → Type 0) (f : B → C) (xs : List A) (ys : List B) →
    Pairwise R xs (map f ys) → Pairwise (λ x y. R x (f y)) xs ys
pairwise_under {A} {B} {C} R f [] [] p = tt
pairwise_under {A} {B} {C} R f [] (y ∷ ys) p = absurd p
pairwise_under {A} {B} {C} R f (x ∷ xs) [] p = absurd p
pairwise_under {A} {B} {C} R f (x ∷ xs) (y ∷ ys) p = (p.0, pairwise_under R f xs ys p.1)

pub pairwise_weaker : {A B : Type 0} (R S : A → B → Type 0) (xs : List A) (ys : List B) →
    ((x : A) (y : B) → R x y → S x y) → Pairwise R xs ys → Pairwise S xs ys
pairwise_weaker {A} {B} R S [] [] w p = tt
pairwise_weaker {A} {B} R S [] (y ∷ ys) w p = absurd p
pairwise_weaker {A} {B} R S (x ∷ xs) [] w p = absurd p
pairwise_weaker {A} {B} R S (x ∷ xs) (y ∷ ys) w p = (w x y p.0, pairwise_weaker R S xs ys w p.1)

-- one element more was read
pub read_more : {A B C : Type 0} (R : B → C → Type 0) (f : A → B) (xs : List A) (done : List C) (i : ℕ) (a : A) (c : C) →
    i < length xs → Pairwise R (map f (take i xs)) done → a ≡ get_or xs i a → R (f a) c →
    Pairwise R (map f (take (i + 1) xs)) (done ++ c ∷ [])
read_more {A} {B} {C} R f xs done i a c h p is r =
    rw (map_more f xs i a h) (pairwise_push R (map f (take i xs)) done (f (get_or xs i a)) c p (subst (λ b. R (f b) c) is r))

-- no element fails of a list that was read
pub none_fails : {C : Type 0} (R : Data → C → Type 0) (P : Data → Type 0) (ds : List Data) (cs : List C) →
    ((d : Data) (c : C) → R d c → P d) → Pairwise R ds cs → (i : ℕ) → ¬ FailsAt P ds i
none_fails {C} R P ds cs w p i f =
    let beside = pairwise_get R ds cs i f.element p f.here in f.fails (w f.element beside.0 beside.2)

-- an element of a front, in the whole
in_front : {A : Type 0} (xs : List A) (i k : ℕ) (x : A) → k < i → slice_get xs k ≡ Some x → slice_get (take i xs) k ≡ Some x
in_front {A} xs zero k x h e = absurd (omega (arith, h))
in_front {A} [] (suc i) k x h e = absurd (cc)
in_front {A} (a ∷ xs) (suc i) zero x h e = e
in_front {A} (a ∷ xs) (suc i) (suc k) x h e = in_front xs i k x (omega (arith, h)) e

-- the first that fails comes after a front that was read
pub fails_first : {A C : Type 0} (R : Data → C → Type 0) (P : Data → Type 0) (f : A → Data) (xs : List A) (done : List C) (i : ℕ) (a : A) →
    ((d : Data) (c : C) → R d c → P d) → i < length xs → Pairwise R (map f (take i xs)) done → a ≡ get_or xs i a → ¬ P (f a) →
    FailsFirst P (map f xs) i
fails_first {A} {C} R P f xs done i a w h p is n =
    record {
      fails = record {
        element = f (get_or xs i a);
        here = slice_get-map f xs i ∙ rw (slice_get-get_or xs i a h) refl;
        fails = subst (λ b. ¬ P (f b)) is n;
      };
      before = λ k fails. elim (cases_lt k i) [
        | inl earlier ↦
            let front : slice_get (map f (take i xs)) k ≡ Some fails.element =
            rw (← take-map f i xs) (in_front (map f xs) i k fails.element earlier fails.here) in
            let beside = pairwise_get R (map f (take i xs)) done k fails.element p front in
            absurd (fails.fails (w fails.element beside.0 beside.2))
        | inr later ↦ later
      ];
    }

-- one point more was put together
pub together_more : (points : List Point) (instants : List ℕ) (places : List (ℤ × ℤ)) (i : ℕ) (p : Point) → i < length instants →
    i < length places →
    AreTogether points (take i instants) (take i places) → p.t ≡ get_or instants i p.t → (p.x, p.y) ≡ get_or places i (p.x, p.y) →
    AreTogether (points ++ p ∷ []) (take (i + 1) instants) (take (i + 1) places)
together_more points instants places i p lt le before when where_to =
    record {
      when = map-append (λ (q : Point). q.t) points (p ∷ []) ∙ ap (λ ts. ts ++ p.t ∷ []) before.when
          ∙ ap (λ (t : ℕ). take i instants ++ t ∷ []) when ∙ sym (take_more instants i p.t lt);
      where_to = map-append (λ (q : Point). (q.x, q.y)) points (p ∷ []) ∙ ap (λ cs. cs ++ (p.x, p.y) ∷ []) before.where_to
          ∙ ap (λ (c : ℤ × ℤ). take i places ++ c ∷ []) where_to ∙ sym (take_more places i (p.x, p.y) le);
    }
