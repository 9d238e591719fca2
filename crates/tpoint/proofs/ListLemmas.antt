-- Lists of which a front passes a test and the rest doesn't, and ordered lists end to end.
use Rattle.std.proofs.Common.{◌≡◌, ℕ, zero, suc, ◌<◌, ◌≤◌, List, [], ◌∷◌, ◌++◌, length, map, take, drop, get_or, Bool, true, false, not}
use Rattle.std.proofs.Common.{Some, None, refl, arith}
use Rattle.std.specs.List.{AllWithin, All, AllPairs, filter, find}
use Rattle.std.proofs.lemmas.List.Kept.{AllPairs-cons}

-- the tests of the elements, from a place on in a list, are those from one place less on in its tail
tail_within : {X : Type 0} (p : X → Bool) (b : Bool) (x : X) (xs : List X) (low high : ℕ) →
    AllWithin (λ y. p y ≡ b) (x ∷ xs) (suc low) (suc high) → AllWithin (λ y. p y ≡ b) xs low high
tail_within p b x xs low high h k d from to = h (suc k) d (omega arith) (omega arith)

tail_below : {X : Type 0} (p : X → Bool) (b : Bool) (x : X) (xs : List X) (high : ℕ) →
    AllWithin (λ y. p y ≡ b) (x ∷ xs) 0 (suc high) → AllWithin (λ y. p y ≡ b) xs 0 high
tail_below p b x xs high h k d from to = h (suc k) d (omega arith) (omega arith)

-- ---- the first i have one answer to the test, and the rest the other: the filter gives those that pass
-- the front of a list, or the rest
abbrev side : {X : Type 0} → Bool → ℕ → List X → List X
side true i xs = take i xs
side false i xs = drop i xs

first_of_rest : {X : Type 0} (p : X → Bool) (b : Bool) (x : X) (xs : List X) → p x ≡ not b → filter p xs ≡ side b 0 xs →
    filter p (x ∷ xs) ≡ side b 0 (x ∷ xs)
first_of_rest p true x xs here rest = grind (arith, here, rest)
first_of_rest p false x xs here rest = grind (arith, here, rest)

first_of_front : {X : Type 0} (p : X → Bool) (b : Bool) (x : X) (xs : List X) (i : ℕ) → p x ≡ b → filter p xs ≡ side b i xs →
    filter p (x ∷ xs) ≡ side b (suc i) (x ∷ xs)
first_of_front p true x xs i here rest = grind (arith, here, rest)
first_of_front p false x xs i here rest = grind (arith, here, rest)

filter_side : {X : Type 0} (p : X → Bool) (b : Bool) (xs : List X) (i : ℕ) → AllWithin (λ x. p x ≡ b) xs 0 i →
    AllWithin (λ x. p x ≡ not b) xs i (length xs) → i ≤ length xs → filter p xs ≡ side b i xs
filter_side p true [] i front rest within = grind (arith)
filter_side p false [] i front rest within = grind (arith)
filter_side p b (x ∷ xs) zero front rest within =
    first_of_rest p b x xs (rest 0 x (omega arith) (omega arith))
    (filter_side p b xs 0 (λ k d from to. absurd (omega arith)) (tail_below p (not b) x xs _ rest) (omega arith))
filter_side p b (x ∷ xs) (suc i) front rest within =
    first_of_front p b x xs i (front 0 x (omega arith) (omega arith))
    (filter_side p b xs i (tail_below p b x xs _ front) (tail_within p (not b) x xs _ _ rest) (omega arith))

-- the first i pass, and no other
pub filter-take : {X : Type 0} (p : X → Bool) (xs : List X) (i : ℕ) →
    AllWithin (λ x. p x ≡ true) xs 0 i → AllWithin (λ x. p x ≡ false) xs i (length xs) →
    i ≤ length xs → filter p xs ≡ take i xs
filter-take p xs i passes fails within = filter_side p true xs i passes fails within

-- the first i fail, and all others pass
pub filter-drop : {X : Type 0} (p : X → Bool) (xs : List X) (i : ℕ) →
    AllWithin (λ x. p x ≡ false) xs 0 i → AllWithin (λ x. p x ≡ true) xs i (length xs) →
    i ≤ length xs → filter p xs ≡ drop i xs
filter-drop p xs i fails passes within = filter_side p false xs i fails passes within

-- none passes: nothing is found
pub find-none : {X : Type 0} (p : X → Bool) (xs : List X) →
    AllWithin (λ x. p x ≡ false) xs 0 (length xs) → find p xs ≡ None
find-none p [] fails = refl
find-none p (x ∷ xs) fails =
    let here : p x ≡ false = fails 0 x (omega arith) (omega arith) in
    let rest : find p xs ≡ None = find-none p xs (tail_below p false x xs _ fails) in
    grind (arith, here, rest)

-- the first that passes is found
pub find-at : {X : Type 0} (p : X → Bool) (xs : List X) (i : ℕ) (d : X) → i < length xs →
    AllWithin (λ x. p x ≡ false) xs 0 i → p (get_or xs i d) ≡ true → find p xs ≡ Some (get_or xs i d)
find-at p [] i d within fails here = absurd (omega arith)
find-at p (x ∷ xs) zero d within fails here = grind (arith, here)
find-at p (x ∷ xs) (suc i) d within fails here =
    let first : p x ≡ false = fails 0 x (omega arith) (omega arith) in
    let rest : find p xs ≡ Some (get_or xs i d) =
    find-at p xs i d (omega arith) (tail_below p false x xs _ fails) here in
    grind (arith, first, rest)

-- ---- lists in order, end to end
-- each of xs is related to each of ys
abbrev pub AllBoth : {X : Type 0} → (X → X → Type 0) → List X → List X → Type 0
AllBoth {X} R xs ys = All (λ (x : X). All (R x) ys) xs

pub tail_pairs : {X : Type 0} (R : X → X → Type 0) (x : X) (xs : List X) →
    AllPairs R (x ∷ xs) → AllPairs R xs
tail_pairs R x xs h i j d lt within = h (suc i) (suc j) d (omega arith) (omega arith)

pub first_to_all : {X : Type 0} (R : X → X → Type 0) (x : X) (xs : List X) →
    AllPairs R (x ∷ xs) → All (R x) xs
first_to_all R x xs h k d within = h 0 (suc k) d (omega arith) (omega arith)

tail_all : {X : Type 0} (P : X → Type 0) (x : X) (xs : List X) → All P (x ∷ xs) → All P xs
tail_all P x xs h k d within = h (suc k) d (omega arith)

all_append : {X : Type 0} (P : X → Type 0) (xs ys : List X) → All P xs → All P ys → All P (xs ++ ys)
all_append P [] ys of_xs of_ys k d within = of_ys k d within
all_append P (x ∷ xs) ys of_xs of_ys zero d within = of_xs 0 d (omega arith)
all_append P (x ∷ xs) ys of_xs of_ys (suc k) d within =
    all_append P xs ys (tail_all P x xs of_xs) of_ys k d (omega arith)

pub all_pairs_append : {X : Type 0} (R : X → X → Type 0) (xs ys : List X) → AllPairs R xs →
    AllPairs R ys → AllBoth R xs ys → AllPairs R (xs ++ ys)
all_pairs_append R [] ys of_xs of_ys both = of_ys
all_pairs_append R (x ∷ xs) ys of_xs of_ys both =
    AllPairs-cons R x (xs ++ ys) (all_append (R x) xs ys (first_to_all R x xs of_xs) (both 0 x (omega arith)))
    (all_pairs_append R xs ys (tail_pairs R x xs of_xs) of_ys (λ k d within. both (suc k) d (omega arith)))

-- ---- a filter of what a function gives
mapped_step : {X Y : Type 0} (p : Y → Bool) (g : X → Y) (x : X) (xs : List X) (b : Bool) → p (g x) ≡ b →
    filter p (map g xs) ≡ map g (filter (λ y. p (g y)) xs) →
    filter p (map g (x ∷ xs)) ≡ map g (filter (λ y. p (g y)) (x ∷ xs))
mapped_step p g x xs true here rest = grind (arith, here, rest)
mapped_step p g x xs false here rest = grind (arith, here, rest)

pub filter_mapped : {X Y : Type 0} (p : Y → Bool) (g : X → Y) (xs : List X) → filter p (map g xs) ≡ map g (filter (λ x. p (g x)) xs)
filter_mapped p g [] = refl
filter_mapped p g (x ∷ xs) = mapped_step p g x xs (p (g x)) refl (filter_mapped p g xs)
