-- What holds of each two elements of a list.
use Rattle.std.proofs.Common.{◌≡◌, ℕ, zero, suc, Some, ◌-◌, ◌<◌, List, [], ◌∷◌, ◌++◌, length, get_or, slice_get, take, map, reverse, All, AllPairs, Contains, sym, ap, subst, ◌∙◌, arith}
use Rattle.std.proofs.lemmas.List.{get_or-reverse, length-reverse}
use Rattle.std.proofs.lemmas.List.Elements.{All-append, All-cons, All-head, All-map, All-nil, All-tail}
use Rattle.std.proofs.lemmas.Option.{slice_get-get_or}
use Rattle.verdicts.proofs.PlaceLemmas.{all_front, all_last}

-- the same by recursion on the list
abbrev Pairwise : {X : Type 0} → (X → X → Type 0) → List X → Type 0
Pairwise R [] = Unit {0}
Pairwise R (x ∷ xs) = All (R x) xs × Pairwise R xs

by_recursion : {X : Type 0} (R : X → X → Type 0) (xs : List X) → AllPairs R xs → Pairwise R xs
by_recursion R [] h = tt
by_recursion R (x ∷ xs) h = (
  λ k d within. h zero (suc k) d (omega arith) (omega (arith, within)),
  by_recursion R xs (λ i j d order within. h (suc i) (suc j) d (omega (arith, order)) (omega (arith, within))),
)

by_index : {X : Type 0} (R : X → X → Type 0) (xs : List X) → Pairwise R xs → AllPairs R xs
by_index R [] h i j d order within = absurd (omega (arith, within))
by_index R (x ∷ xs) h zero zero d order within = absurd (omega (arith, order))
by_index R (x ∷ xs) h zero (suc j) d order within = h.0 j d (omega (arith, within))
by_index R (x ∷ xs) h (suc i) zero d order within = absurd (omega (arith, order))
by_index R (x ∷ xs) h (suc i) (suc j) d order within = by_index R xs h.1 i j d (omega (arith, order)) (omega (arith, within))

pub pairs_none : {X : Type 0} (R : X → X → Type 0) → AllPairs R []
pairs_none R i j d order within = absurd (omega (arith, within))

pub pairs_cons : {X : Type 0} (R : X → X → Type 0) (x : X) (xs : List X) → All (R x) xs → AllPairs R xs → AllPairs R (x ∷ xs)
pairs_cons R x xs first rest = by_index R (x ∷ xs) (first, by_recursion R xs rest)

pub pairs_weaker : {X : Type 0} (P : X → Type 0) (R S : X → X → Type 0) → ((x y : X) → P x → P y → R x y → S x y) → (xs : List X)
    → All P xs → AllPairs R xs → AllPairs S xs
pairs_weaker P R S step xs all h i j d order within =
    step (get_or xs i d) (get_or xs j d) (all i d (omega (arith, order, within))) (all j d within) (h i j d order within)

-- ---- the last element
front : {X : Type 0} (R : X → X → Type 0) (xs : List X) (y : X) → Pairwise R (xs ++ y ∷ []) → Pairwise R xs
front R [] y h = tt
front R (x ∷ xs) y h = (all_front (R x) xs y h.0, front R xs y h.1)

last : {X : Type 0} (R : X → X → Type 0) (xs : List X) (y : X) → Pairwise R (xs ++ y ∷ []) → All (λ x. R x y) xs
last R [] y h = All-nil (λ x. R x y)
last R (x ∷ xs) y h = All-cons (λ z. R z y) x xs (all_last (R x) xs y h.0) (last R xs y h.1)

pub pairs_front : {X : Type 0} (R : X → X → Type 0) (xs : List X) (y : X) → AllPairs R (xs ++ y ∷ []) → AllPairs R xs
pairs_front R xs y h = by_index R xs (front R xs y (by_recursion R (xs ++ y ∷ []) h))

pub pairs_last : {X : Type 0} (R : X → X → Type 0) (xs : List X) (y : X) → AllPairs R (xs ++ y ∷ []) → All (λ x. R x y) xs
pairs_last R xs y h = last R xs y (by_recursion R (xs ++ y ∷ []) h)

-- ---- more elements
append : {X : Type 0} (R : X → X → Type 0) (xs ys : List X) → Pairwise R xs → Pairwise R ys → All (λ x. All (R x) ys) xs
    → Pairwise R (xs ++ ys)
append R [] ys h more cross = more
append R (x ∷ xs) ys h more cross = (
  All-append (R x) xs ys h.0 (All-head (λ z. All (R z) ys) x xs cross),
  append R xs ys h.1 more (All-tail (λ z. All (R z) ys) x xs cross),
)

pub pairs_append : {X : Type 0} (R : X → X → Type 0) (xs ys : List X) → AllPairs R xs → AllPairs R ys → All (λ x. All (R x) ys) xs
    → AllPairs R (xs ++ ys)
pairs_append R xs ys h more cross = by_index R (xs ++ ys) (append R xs ys (by_recursion R xs h) (by_recursion R ys more) cross)

mapped : {X Y : Type 0} (R : X → X → Type 0) (f : Y → X) (ys : List Y) → Pairwise (λ a b. R (f a) (f b)) ys → Pairwise R (map f ys)
mapped R f [] h = tt
mapped R f (y ∷ ys) h = (All-map (R (f y)) f ys h.0, mapped R f ys h.1)

pub pairs_map : {X Y : Type 0} (R : X → X → Type 0) (f : Y → X) (ys : List Y) → AllPairs (λ a b. R (f a) (f b)) ys
    → AllPairs R (map f ys)
pairs_map R f ys h = by_index R (map f ys) (mapped R f ys (by_recursion (λ a b. R (f a) (f b)) ys h))

-- ---- the last one first
pub all_reverse : {X : Type 0} (P : X → Type 0) (xs : List X) → All P xs → All P (reverse xs)
all_reverse P xs all k d within =
    let same = length-reverse xs in
    let below : k < length xs = omega (arith, within, same) in
    subst P (sym (get_or-reverse xs k d below)) (all (length xs - 1 - k) d (omega (arith, below)))

pub contains_reverse : {X : Type 0} (xs : List X) (x : X) → Contains xs x → Contains (reverse xs) x
contains_reverse xs x (k, within, e) =
    let same = length-reverse xs in
    let back : length xs - 1 - (length xs - 1 - k) ≡ k = omega (arith, within) in (
      length xs - 1 - k,
      omega (arith, within, same),
      get_or-reverse xs (length xs - 1 - k) x (omega (arith, within)) ∙ ap (λ i. get_or xs i x) back ∙ e,
    )

first_last : {X : Type 0} (xs : List X) (x : X) → take 1 xs ≡ x ∷ [] → slice_get (reverse xs) (length (reverse xs) - 1) ≡ Some x
first_last [] x e = absurd (let h : [] ≡ x ∷ [] = e in cc)
first_last (y ∷ xs) x e =
    let h : y ∷ [] ≡ x ∷ [] = e in
    let size = length-reverse (y ∷ xs) in
    let at : ℕ = length (reverse (y ∷ xs)) - 1 in
    let below : at < length (y ∷ xs) = omega (arith, size) in
    let first : length (y ∷ xs) - 1 - at ≡ zero = omega (arith, size) in
    let same : y ≡ x = cc in
    slice_get-get_or (reverse (y ∷ xs)) at x (omega (arith, size, below))
    ∙ ap (λ z. Some z) (get_or-reverse (y ∷ xs) at x below ∙ ap (λ i. get_or (y ∷ xs) i x) first ∙ same)

pub kept_last : {X : Type 0} (old new : List X) (x : X) → old ≡ x ∷ [] → take (length old) new ≡ old
    → slice_get (reverse new) (length (reverse new) - 1) ≡ Some x
kept_last old new x e kept = first_last new x (subst (λ l. take (length l) new ≡ l) e kept)
