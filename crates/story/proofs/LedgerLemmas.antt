-- One more step and one more line leave those before in order.
use Rattle.std.proofs.Common.{◌≡◌, ◌⊎◌, inl, inr, ℕ, zero, suc, ◌+◌, ◌<◌, ◌≤◌, List, [], ◌∷◌, ◌++◌, length, slice_get, Option, Some, None, get_or, add-one, refl, sym, ap, ◌∙◌, subst, arith}
use Rattle.std.proofs.lemmas.Option.{slice_get_within, slice_get-get_or}
use Rattle.story.specs.declared.ledger.Counts.{Counts}
use Rattle.story.specs.declared.ledger.LineBegin.{LineBegin}
use Rattle.story.specs.declared.ledger.Step.{Step}
use Rattle.story.specs.Counted.{AreWithin, BeginInOrder, NeverFall, begin_before, begin_or_zero, counts_before, ends_or_none}

-- what stands in a list behind which one more stands
pub pushed_get : {A : Type 0} (xs : List A) (x : A) (k : ℕ) (y : A) → slice_get (xs ++ x ∷ []) k ≡ Some y
    → (slice_get xs k ≡ Some y) ⊎ ((k ≡ length xs) × (y ≡ x))
pushed_get [] x zero y e = inr (refl, cc)
pushed_get [] x (suc k) y e = absurd (cc)
pushed_get (z ∷ xs) x zero y e = inl e
pushed_get (z ∷ xs) x (suc k) y e = elim (pushed_get xs x k y e) [ inl h ↦ inl h | inr h ↦ inr (ap suc h.0, h.1) ]

-- what stands below the end stands there still
pub same_below : {A : Type 0} (xs ys : List A) (k : ℕ) → k < length xs → slice_get (xs ++ ys) k ≡ slice_get xs k
same_below [] ys k h = absurd (omega (arith, h))
same_below (z ∷ xs) ys zero h = refl
same_below (z ∷ xs) ys (suc k) h = same_below xs ys k (omega (arith, h))

pub got_last : {A : Type 0} (xs : List A) (x : A) → slice_get (xs ++ x ∷ []) (length xs) ≡ Some x
got_last [] x = refl
got_last (z ∷ xs) x = got_last xs x

pub one_longer : {A : Type 0} (xs : List A) (x : A) → length (xs ++ x ∷ []) ≡ suc (length xs)
one_longer [] x = refl
one_longer (z ∷ xs) x = ap suc (one_longer xs x)

pub counts_same : (steps : List Step) (s : Step) (k : ℕ) → k ≤ length steps → counts_before (steps ++ s ∷ []) k ≡ counts_before steps k
counts_same steps s zero h = refl
counts_same steps s (suc k) h = ap ends_or_none (same_below steps (s ∷ []) k (omega (arith, h)))

-- behind the last step the lists are as long as it says
pub last_ends : (steps : List Step) (s : Step) → counts_before (steps ++ s ∷ []) (length (steps ++ s ∷ [])) ≡ s.ends
last_ends steps s =
    ap (λ (n : ℕ). counts_before (steps ++ s ∷ []) n) (one_longer steps s) ∙ ap ends_or_none (got_last steps s)

pub still_never_fall : (steps : List Step) (s : Step) → NeverFall steps → AreWithin (counts_before steps (length steps)) s.ends
    → NeverFall (steps ++ s ∷ [])
still_never_fall steps s rise last k t e =
    elim (pushed_get steps s k t e) [
      | inl h ↦ let below : k < length steps = slice_get_within steps k t h in
          subst (λ (c : Counts). AreWithin c t.ends) (sym (counts_same steps s k (omega (arith, below)))) (rise k t h)
      | inr h ↦ let here : counts_before (steps ++ s ∷ []) k ≡ counts_before steps (length steps) =
          ap (λ (n : ℕ). counts_before (steps ++ s ∷ []) n) h.0 ∙ counts_same steps s (length steps) (omega arith) in
          subst (λ (c : Counts). AreWithin c t.ends) (sym here)
          (subst (λ (c : Counts). AreWithin (counts_before steps (length steps)) c) (sym (ap (λ (x : Step). x.ends) h.1)) last)
    ]

begins_same : (lines : List LineBegin) (l : LineBegin) (k : ℕ) → k ≤ length lines → begin_before (lines ++ l ∷ []) k ≡ begin_before lines k
begins_same lines l zero h = refl
begins_same lines l (suc k) h = ap begin_or_zero (same_below lines (l ∷ []) k (omega (arith, h)))

-- of more steps
pub of_more : (lines : List LineBegin) (n m : ℕ) → n ≤ m → BeginInOrder lines n → BeginInOrder lines m
of_more lines n m more h = record { rise = h.rise; there = λ i l e. omega (arith, h.there i l e, more) }

-- the line before any one begins with a step that is there
begun_within : (lines : List LineBegin) (n i : ℕ) → BeginInOrder lines n → begin_before lines i ≤ n
begun_within lines n zero h = omega arith
begun_within lines n (suc i) h =
    let within : (o : Option LineBegin) → slice_get lines i ≡ o → begin_or_zero o ≤ n = λ o.
    elim o as (λ (q : Option LineBegin). slice_get lines i ≡ q → begin_or_zero q ≤ n) [
      | None ↦ λ e. omega arith
      | Some l ↦ λ e. h.there i l e
    ] in
    within (slice_get lines i) refl

-- one more line begins with the step that comes next
pub still_begin_in_order : (lines : List LineBegin) (l : LineBegin) (n : ℕ) → l.step ≡ n → BeginInOrder lines n
    → BeginInOrder (lines ++ l ∷ []) n
still_begin_in_order lines l n at h = record {
  rise = λ i m e. elim (pushed_get lines l i m e) [
    | inl g ↦ let below : i < length lines = slice_get_within lines i m g in
        let same : begin_before (lines ++ l ∷ []) i ≡ begin_before lines i = begins_same lines l i (omega (arith, below)) in
        omega (arith, same, h.rise i m g)
    | inr g ↦ let same : begin_before (lines ++ l ∷ []) i ≡ begin_before lines (length lines) =
        ap (λ (n : ℕ). begin_before (lines ++ l ∷ []) n) g.0 ∙ begins_same lines l (length lines) (omega arith) in
        let step : m.step ≡ l.step = ap (λ (x : LineBegin). x.step) g.1 in
        omega (arith, same, begun_within lines n (length lines) h, step, at)
  ];
  there = λ i m e. elim (pushed_get lines l i m e) [
    | inl g ↦ h.there i m g
    | inr g ↦ let step : m.step ≡ l.step = ap (λ (x : LineBegin). x.step) g.1 in omega (arith, step, at)
  ];
}

-- behind step k the lists are as long as it says
pub counts_at : (steps : List Step) (k : ℕ) (d : Step) → k < length steps → counts_before steps (k + 1) ≡ (get_or steps k d).ends
counts_at steps k d h = ap (λ (n : ℕ). counts_before steps n) (add-one k) ∙ ap ends_or_none (slice_get-get_or steps k d h)

pub begin_at : (lines : List LineBegin) (k : ℕ) (d : LineBegin) → k < length lines → begin_before lines (k + 1) ≡ (get_or lines k d).step
begin_at lines k d h = ap (λ (n : ℕ). begin_before lines n) (add-one k) ∙ ap begin_or_zero (slice_get-get_or lines k d h)

pub from_equal : (a b m : ℕ) → a ≡ b → b ≤ m → a ≤ m
from_equal a b m e h = omega (arith, e, h)

module _ (steps more : List Step) (s : Step) (e : more ≡ steps ++ s ∷ []) where
  -- of all steps, the last one among them
  pub ends_noted : counts_before more (length more) ≡ s.ends
  ends_noted = ap (λ (ss : List Step). counts_before ss (length ss)) e ∙ last_ends steps s

  pub falls_noted : NeverFall steps → AreWithin (counts_before steps (length steps)) s.ends → NeverFall more
  falls_noted rise last = subst (λ (ss : List Step). NeverFall ss) (sym e) (still_never_fall steps s rise last)

  pub lines_noted : (lines : List LineBegin) → BeginInOrder lines (length steps) → BeginInOrder lines (length more)
  lines_noted lines h =
      let longer : length more ≡ suc (length steps) = ap length e ∙ one_longer steps s in
      of_more lines (length steps) (length more) (omega (arith, longer)) h

pub equal_within : (a b : Counts) → a ≡ b → AreWithin a b
equal_within a b e = record {
  frames = omega (arith, ap (λ (c : Counts). c.frames) e);
  learnt = omega (arith, ap (λ (c : Counts). c.learnt) e);
  replies = omega (arith, ap (λ (c : Counts). c.replies) e);
  answers = omega (arith, ap (λ (c : Counts). c.answers) e);
  outcomes = omega (arith, ap (λ (c : Counts). c.outcomes) e);
}
