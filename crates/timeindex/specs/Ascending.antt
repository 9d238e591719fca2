-- Lists whose elements have ids, ascending by them.
use Rattle.std.specs.Prelude.{◌≡◌, ℕ, ◌+◌, ◌<◌, ◌≤◌, List, ◌∷◌, ◌++◌, length, filter, find, AllPairs, Option, nat_eq}
use Rattle.std.specs.List.{AllWithin, HoldsAt}
use Rattle.std.specs.Cmp.Lexicographic.{pointwise, slice_cmp}
use Rattle.std.specs.Ordering.{nat_cmp, is_lt, is_gt}
use Rattle.std.specs.declared.cmp.Ordering.{Ordering}
use Rattle.std.specs.declared.cmp.Ordering.TheVariants.{Less, Greater}

-- the byte order of ids: the first byte that differs decides, and else the shorter comes first
abbrev pub id_order : List ℕ → List ℕ → Ordering
id_order = slice_cmp nat_cmp

abbrev pub ComesBefore : {X : Type 0} → (X → List ℕ) → X → X → Type 0
ComesBefore {X} id_of x y = id_order (id_of x) (id_of y) ≡ Less

-- the id of each element comes before those of all that follow
abbrev pub IdsAscend : {X : Type 0} → (X → List ℕ) → List X → Type 0
IdsAscend {X} id_of xs = AllPairs (ComesBefore id_of) xs

-- the element with an id, where there is one
abbrev pub element_of : {X : Type 0} → (X → List ℕ) → List X → List ℕ → Option X
element_of {X} id_of xs id = find (λ x. pointwise nat_eq (id_of x) id) xs

-- the elements whose ids come before an id, and those whose ids come after it
abbrev pub before : {X : Type 0} → (X → List ℕ) → List X → List ℕ → List X
before {X} id_of xs id = filter (λ x. is_lt (id_order (id_of x) id)) xs

abbrev pub after : {X : Type 0} → (X → List ℕ) → List X → List ℕ → List X
after {X} id_of xs id = filter (λ x. is_gt (id_order (id_of x) id)) xs

-- the list with an element, in the place of any other with its id
abbrev pub with_element : {X : Type 0} → (X → List ℕ) → List X → X → List X
with_element {X} id_of xs x = before id_of xs (id_of x) ++ x ∷ after id_of xs (id_of x)

-- the list without the element of an id
abbrev pub without : {X : Type 0} → (X → List ℕ) → List X → List ℕ → List X
without {X} id_of xs id = before id_of xs id ++ after id_of xs id

-- ---- where an id stands, or would stand
-- from one place to below another each id comes before the id, or each comes after it
abbrev pub AllBefore : {X : Type 0} → (X → List ℕ) → List X → List ℕ → ℕ → ℕ → Type 0
AllBefore {X} id_of xs id low high = AllWithin (λ (x : X). id_order (id_of x) id ≡ Less) xs low high

abbrev pub AllAfter : {X : Type 0} → (X → List ℕ) → List X → List ℕ → ℕ → ℕ → Type 0
AllAfter {X} id_of xs id low high = AllWithin (λ (x : X). id_order (id_of x) id ≡ Greater) xs low high

-- the element at i has the id
pub record ElementIsAt {X : Type 0} (id_of : X → List ℕ) (xs : List X) (id : List ℕ) (i : ℕ) : Type 0 where
  pub in_range : i < length xs
  pub has_id : HoldsAt (λ (x : X). id_of x ≡ id) xs i
  pub lower : AllBefore id_of xs id 0 i
  pub higher : AllAfter id_of xs id (i + 1) (length xs)

-- none has it, and an element with it would go to the place i
pub record IsElementGap {X : Type 0} (id_of : X → List ℕ) (xs : List X) (id : List ℕ) (i : ℕ) : Type 0 where
  pub in_range : i ≤ length xs
  pub lower : AllBefore id_of xs id 0 i
  pub higher : AllAfter id_of xs id i (length xs)
