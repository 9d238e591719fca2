-- A list and one more.
use Rattle.std.proofs.Common.{◌≡◌, ◌⊎◌, inl, inr, ℕ, zero, suc, ◌+◌, ◌<◌, List, [], ◌∷◌, ◌++◌, Some, length, get_or, slice_get, slice_index_or, take, refl, sym, subst, ap, ◌∙◌, arith}
use Rattle.std.proofs.lemmas.List.{take_more}
use Rattle.std.specs.List.{range_with_len}
use Rattle.std.proofs.lemmas.Option.{none-some, same_Some, slice_get_within}

-- the elements so far, and the next one
pub take_so_far : {A : Type 0} (xs : List A) (n : ℕ) (x : A) → n < length xs → x ≡ slice_index_or xs n x
    → take n xs ++ x ∷ [] ≡ take (n + 1) xs
take_so_far xs n x below read =
    subst (λ y. take n xs ++ y ∷ [] ≡ take (n + 1) xs) (sym read) (sym (take_more xs n x below))

same_below : {A : Type 0} (xs ys : List A) (k : ℕ) → k < length xs → slice_get (xs ++ ys) k ≡ slice_get xs k
same_below [] ys k h = absurd (omega (arith, h))
same_below (z ∷ xs) ys zero h = refl
same_below (z ∷ xs) ys (suc k) h = same_below xs ys k (omega (arith, h))

-- what is there is there still
pub got_before : {A : Type 0} (xs ys : List A) (k : ℕ) (x : A) → slice_get xs k ≡ Some x → slice_get (xs ++ ys) k ≡ Some x
got_before xs ys k x e = same_below xs ys k (slice_get_within xs k x e) ∙ e

pub got_last : {A : Type 0} (xs : List A) (x : A) (k : ℕ) → k ≡ length xs → slice_get (xs ++ x ∷ []) k ≡ Some x
got_last [] x zero e = refl
got_last [] x (suc k) e = absurd (omega arith)
got_last (z ∷ xs) x zero e = absurd (omega arith)
got_last (z ∷ xs) x (suc k) e = got_last xs x k (omega arith)

-- what is there was there, or is the last one
pub got_of_more : {A : Type 0} (xs : List A) (x y : A) (k : ℕ) → slice_get (xs ++ x ∷ []) k ≡ Some y
    → (slice_get xs k ≡ Some y) ⊎ ((k ≡ length xs) × (x ≡ y))
got_of_more [] x y zero e = inr (refl, same_Some x y e)
got_of_more [] x y (suc k) e = absurd (none-some y e)
got_of_more (z ∷ xs) x y zero e = inl e
got_of_more (z ∷ xs) x y (suc k) e = elim (got_of_more xs x y k e) [
  | inl h ↦ inl h
  | inr h ↦ inr (omega (arith, h.0), h.1)
]

-- a number of the list is what it was, or the last one, or none
pub number_of_more : (xs : List ℕ) (x k : ℕ)
    → ((k < length xs) × (get_or (xs ++ x ∷ []) k 0 ≡ get_or xs k 0))
    ⊎ (((k ≡ length xs) × (get_or (xs ++ x ∷ []) k 0 ≡ x)) ⊎ ((length xs < k) × (get_or (xs ++ x ∷ []) k 0 ≡ 0)))
number_of_more [] x zero = inr (inl (refl, refl))
number_of_more [] x (suc k) = inr (inr (omega arith, refl))
number_of_more (z ∷ xs) x zero = inl (omega arith, refl)
number_of_more (z ∷ xs) x (suc k) = elim (number_of_more xs x k) [
  | inl h ↦ inl (omega (arith, h.0), h.1)
  | inr s ↦ elim s [
    | inl h ↦ inr (inl (omega (arith, h.0), h.1))
    | inr h ↦ inr (inr (omega (arith, h.0), h.1))
  ]
]

pub last_number : (xs : List ℕ) (x k : ℕ) → k ≡ length xs → get_or (xs ++ x ∷ []) k 0 ≡ x
last_number [] x zero e = refl
last_number [] x (suc k) e = absurd (omega arith)
last_number (z ∷ xs) x zero e = absurd (omega arith)
last_number (z ∷ xs) x (suc k) e = last_number xs x k (omega arith)

pub range_more : (a n : ℕ) → range_with_len a (suc n) ≡ range_with_len a n ++ (a + n) ∷ []
range_more a zero = ap (λ (k : ℕ). k ∷ []) (omega arith)
range_more a (suc n) =
    ap (λ (ks : List ℕ). a ∷ ks)
    (range_more (a + 1) n ∙ ap (λ (k : ℕ). range_with_len (a + 1) n ++ k ∷ []) (let e : a + 1 + n ≡ a + suc n = omega arith in e))

pub range_to : (n : ℕ) → range_with_len 0 n ++ n ∷ [] ≡ range_with_len 0 (n + 1)
range_to n =
    sym (ap (λ (k : ℕ). range_with_len 0 k) (let e : n + 1 ≡ suc n = omega arith in e)
    ∙ range_more 0 n
    ∙ ap (λ (k : ℕ). range_with_len 0 n ++ k ∷ []) (let e : 0 + n ≡ n = omega arith in e))
