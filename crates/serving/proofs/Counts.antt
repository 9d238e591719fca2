-- How many of a list are so, part by part.
use Rattle.std.proofs.Common.{◌≡◌, ℕ, ◌+◌, Bool, true, false, not, cond, List, [], ◌∷◌, ◌++◌, map, refl, ap, ◌∙◌, arith, count_by}
use Rattle.std.specs.List.{filter}
use Rattle.std.proofs.lemmas.List.Filters.{sum_by-filter_both}
use Rattle.std.proofs.lemmas.List.Sums.{sum_by-append, sum_by-cons}

module _ {A : Type 0} (p : A → Bool) where
  pub count_cons : (x : A) (xs : List A) → count_by p (x ∷ xs) ≡ cond (p x) 1 0 + count_by p xs
  count_cons x xs = sum_by-cons (λ y. cond (p y) 1 0) x xs

  pub count_append : (xs ys : List A) → count_by p (xs ++ ys) ≡ count_by p xs + count_by p ys
  count_append xs ys = sum_by-append (λ y. cond (p y) 1 0) xs ys

  pub count_one : (x : A) → count_by p (x ∷ []) ≡ cond (p x) 1 0
  count_one x = count_cons x [] ∙ omega arith

  pub count_push : (xs : List A) (x : A) → count_by p (xs ++ x ∷ []) ≡ count_by p xs + cond (p x) 1 0
  count_push xs x = count_append xs (x ∷ []) ∙ ap (λ n. count_by p xs + n) (count_one x)

  -- where none is so
  pub count_none : (xs : List A) → ((x : A) → p x ≡ false) → count_by p xs ≡ 0
  count_none [] never = refl
  count_none (x ∷ xs) never =
      count_cons x xs ∙ ap (λ b. cond b 1 0 + count_by p xs) (never x) ∙ omega (arith, count_none xs never)

  -- those that are kept, and those that are left out
  pub count_parts : (keep : A → Bool) (xs : List A)
      → count_by p (filter keep xs) + count_by p (filter (λ x. not (keep x)) xs) ≡ count_by p xs
  count_parts keep xs = sum_by-filter_both keep (λ x. not (keep x)) (λ x. refl) (λ y. cond (p y) 1 0) xs

  -- none of those that are left out is so
  module _ (left_out : A → Bool) (apart : (x : A) → left_out x ≡ true → p x ≡ false) where
    kept_one : (b : Bool) (x : A) (xs : List A) → left_out x ≡ b
        → count_by p (cond (not b) (x ∷ xs) xs) ≡ cond (p x) 1 0 + count_by p xs
    kept_one false x xs is = count_cons x xs
    kept_one true x xs is = omega (arith, ap {B = ℕ} (λ b. cond b 1 0) (apart x is))

    pub count_kept : (xs : List A) → count_by p (filter (λ x. not (left_out x)) xs) ≡ count_by p xs
    count_kept [] = refl
    count_kept (x ∷ xs) =
        kept_one (left_out x) x (filter (λ y. not (left_out y)) xs) refl ∙ ap (λ n. cond (p x) 1 0 + n) (count_kept xs)
        ∙ omega (arith, count_cons x xs)

-- of what a map makes
pub count_map : {A B : Type 0} (p : B → Bool) (f : A → B) (xs : List A) → count_by p (map f xs) ≡ count_by (λ x. p (f x)) xs
count_map p f [] = refl
count_map p f (x ∷ xs) =
    count_cons p (f x) (map f xs) ∙ ap (λ n. cond (p (f x)) 1 0 + n) (count_map p f xs)
    ∙ omega (arith, count_cons (λ y. p (f y)) x xs)
