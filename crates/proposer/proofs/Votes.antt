-- Told votes, up to a slot.
use Rattle.std.proofs.Common.{◌≡◌, ◌≤◌, ◌⊎◌, ℕ, zero, suc, List, [], ◌∷◌, Bool, true, false, cond, filter, inl, inr, Contains, nat_le, refl}
use Rattle.std.proofs.Common.{sym, ap, ◌∙◌, subst, arith}
use Rattle.std.proofs.lemmas.Bool.{le-leb}
use Rattle.synod.specs.declared.vote.Vote.{Vote}
use Rattle.sessions.specs.declared.command.Command.{Command}
use Rattle.proposer.specs.Campaigning.{up_to}

-- ---- what is in a list
pub in_cons : {X : Type 0} (x z : X) (xs : List X) → Contains (x ∷ xs) z → (x ≡ z) ⊎ Contains xs z
in_cons x z xs (zero, l, e) = inl e
in_cons x z xs (suc k, l, e) = inr (k, omega (arith, l), e)

pub in_head : {X : Type 0} (x : X) (xs : List X) → Contains (x ∷ xs) x
in_head x xs = (0, omega arith, refl)

pub in_tail : {X : Type 0} (x z : X) (xs : List X) → Contains xs z → Contains (x ∷ xs) z
in_tail x z xs c = (suc c.0, omega (arith, c.1), c.2)

pub in_none : {X : Type 0} (x : X) → Contains [] x → ⊥
in_none x c = omega (arith, c.1)

-- ---- what a test lets through
kept_first : {X : Type 0} (test : X → Bool) (b : Bool) (y x : X) (kept : List X) → test y ≡ b → y ≡ x → test x ≡ true
    → Contains (cond b (y ∷ kept) kept) x
kept_first test true y x kept is same passes = subst (Contains (y ∷ kept)) same (in_head y kept)
kept_first test false y x kept is same passes =
    let clash : true ≡ false = sym passes ∙ sym (ap test same) ∙ is in absurd (cc)

kept_rest : {X : Type 0} (b : Bool) (y x : X) (kept : List X) → Contains kept x → Contains (cond b (y ∷ kept) kept) x
kept_rest true y x kept c = in_tail y x kept c
kept_rest false y x kept c = c

pub in_filter : {X : Type 0} (test : X → Bool) (x : X) (xs : List X) → test x ≡ true → Contains xs x → Contains (filter test xs) x
in_filter test x [] h c = c
in_filter test x (y ∷ ys) h c = elim (in_cons y x ys c) [
  | inl e ↦ kept_first test (test y) y x (filter test ys) refl e h
  | inr t ↦ kept_rest (test y) y x (filter test ys) (in_filter test x ys h t)
]

left_among : {X : Type 0} (b : Bool) (y x : X) (ys kept : List X) → (Contains kept x → Contains ys x)
    → Contains (cond b (y ∷ kept) kept) x → Contains (y ∷ ys) x
left_among true y x ys kept before c = elim (in_cons y x kept c) [
  | inl e ↦ subst (Contains (y ∷ ys)) e (in_head y ys)
  | inr t ↦ in_tail y x ys (before t)
]
left_among false y x ys kept before c = in_tail y x ys (before c)

pub out_of_filter : {X : Type 0} (test : X → Bool) (x : X) (xs : List X) → Contains (filter test xs) x → Contains xs x
out_of_filter test x [] c = c
out_of_filter test x (y ∷ ys) c = left_among (test y) y x ys (filter test ys) (out_of_filter test x ys) c

-- ---- votes
pub in_up_to : (end' : ℕ) (votes : List (Vote Command)) (v : Vote Command) → Contains votes v → v.slot ≤ end'
    → Contains (up_to end' votes) v
in_up_to end' votes v c l = in_filter (λ (u : Vote Command). nat_le u.slot end') v votes (le-leb v.slot end' l) c

pub out_of_up_to : (end' : ℕ) (votes : List (Vote Command)) (v : Vote Command) → Contains (up_to end' votes) v → Contains votes v
out_of_up_to end' votes v c = out_of_filter (λ (u : Vote Command). nat_le u.slot end') v votes c
