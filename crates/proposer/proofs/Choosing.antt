-- A leader's choice is one that the protocol allows.
use Rattle.std.proofs.Common.{◌≡◌, ◌≤◌, ◌<◌, ℕ, ◌==◌, ◌||◌, ◌+◌, List, [], ◌∷◌, Bool, true, false, cond, inl, inr, Option, Some, None}
use Rattle.std.proofs.Common.{Contains, nat_lt, refl, sym, ap, ◌∙◌, subst, arith, le_of_eq}
use Rattle.std.specs.List.{find}
use Rattle.std.proofs.lemmas.Bool.{ltb-true, ltb-false, eqb-true, eqb-false}
use Rattle.synod.specs.Ballots.{rank}
use Rattle.synod.specs.declared.vote.Vote.{Vote}
use Rattle.synod.specs.Volatile.{Volatile, IsHighest, IsUntold}
use Rattle.synod.specs.Acts.{Membership, IsFree, IsChoice}
use Rattle.sessions.specs.declared.submission.Submission.{Submission}
use Rattle.sessions.specs.declared.command.Command.{Command}
use Rattle.sessions.specs.declared.command.Command.TheVariants.{NoOp, Request}
use Rattle.proposer.specs.declared.window.Proposal.{Proposal}
use Rattle.proposer.specs.Campaigning.{Campaigning, higher, told_at, is_told_after, first_free, noop_where, request_or, free_choice}
use Rattle.proposer.specs.Campaigning.{command_or, choice}
use Rattle.proposer.proofs.Votes.{in_cons, in_head, in_tail, in_none}

-- ---- the highest of the votes told at a slot
abbrev IsToldAt : List (Vote Command) → ℕ → Option (Vote Command) → Type 0
IsToldAt told s None = IsUntold told s
IsToldAt told s (Some u) = IsHighest told s u

module _ (v : Vote Command) (vs : List (Vote Command)) (s : ℕ) where
  -- the first is the highest
  first_highest : v.slot ≡ s → ((w : Vote Command) → Contains vs w → w.slot ≡ s → rank w.ballot ≤ rank v.ballot)
      → IsHighest (v ∷ vs) s v
  first_highest at above = record {
    member = in_head v vs;
    slot = at;
    top = λ w c there. elim (in_cons v w vs c) [
      | inl same ↦ le_of_eq (ap (λ (z : Vote Command). rank z.ballot) (sym same))
      | inr rest ↦ above w rest there
    ];
  }

  higher_flag : (u : Vote Command) (b : Bool) → nat_lt (rank v.ballot) (rank u.ballot) ≡ b → v.slot ≡ s → IsHighest vs s u
      → IsHighest (v ∷ vs) s (cond b u v)
  higher_flag u true e at h = record {
    member = in_tail v u vs h.member;
    slot = h.slot;
    top = λ w c there. elim (in_cons v w vs c) [
      | inl same ↦ (let low : rank v.ballot < rank u.ballot = ltb-true (rank v.ballot) (rank u.ballot) e in
          omega (arith, low, ap (λ (z : Vote Command). rank z.ballot) same))
      | inr rest ↦ h.top w rest there
    ];
  }
  higher_flag u false e at h =
      let low : rank u.ballot ≤ rank v.ballot = ltb-false (rank v.ballot) (rank u.ballot) e in
      first_highest at (λ w c there. omega (arith, low, h.top w c there))

  higher_lem : (o : Option (Vote Command)) → v.slot ≡ s → IsToldAt vs s o → IsHighest (v ∷ vs) s (higher v o)
  higher_lem None at h = first_highest at (λ w c there. absurd (h w c there))
  higher_lem (Some u) at h = higher_flag u (nat_lt (rank v.ballot) (rank u.ballot)) refl at h

  passed_over : (o : Option (Vote Command)) → (v.slot ≡ s → ⊥) → IsToldAt vs s o → IsToldAt (v ∷ vs) s o
  passed_over None other h = λ w c there. elim (in_cons v w vs c) [
    | inl same ↦ other (ap (λ (z : Vote Command). z.slot) same ∙ there)
    | inr rest ↦ h w rest there
  ]
  passed_over (Some u) other h = record {
    member = in_tail v u vs h.member;
    slot = h.slot;
    top = λ w c there. elim (in_cons v w vs c) [
      | inl same ↦ absurd (other (ap (λ (z : Vote Command). z.slot) same ∙ there))
      | inr rest ↦ h.top w rest there
    ];
  }

  told_flag : (b : Bool) (o : Option (Vote Command)) → (v.slot == s) ≡ b → IsToldAt vs s o
      → IsToldAt (v ∷ vs) s (cond b (Some (higher v o)) o)
  told_flag true o e h = higher_lem o (eqb-true v.slot s e) h
  told_flag false o e h = passed_over o (eqb-false v.slot s e) h

told_at_lem : (told : List (Vote Command)) (s : ℕ) → IsToldAt told s (told_at told s)
told_at_lem [] s = λ v c there. in_none v c
told_at_lem (v ∷ vs) s = told_flag v vs s (v.slot == s) (told_at vs s) refl (told_at_lem vs s)

-- ---- a free choice
found_flag : (b : Bool) (x r : Submission) (xs : List Submission) (o : Option Submission) → (o ≡ Some r → Contains xs r) → cond b (Some x) o ≡ Some r
    → Contains (x ∷ xs) r
found_flag true x r xs o rest e = let same : x ≡ r = cc in subst (Contains (x ∷ xs)) same (in_head x xs)
found_flag false x r xs o rest e = in_tail x r xs (rest e)

found_among : (test : Submission → Bool) (xs : List Submission) (r : Submission) → find test xs ≡ Some r → Contains xs r
found_among test [] r e = absurd (cc)
found_among test (x ∷ xs) r e = found_flag (test x) x r xs (find test xs) (found_among test xs r) e

module _ (f : Membership Command) (m : Volatile Command) (waiting : List Submission) (noop : f.noop ≡ NoOp)
    (stand : (r : Submission) → Contains waiting r → Contains m.waiting (Request r)) where
  noop_is_free : (c : Command) → NoOp ≡ c → IsFree f m c
  noop_is_free c e = inl (sym e ∙ sym noop)

  noop_case : (b : Bool) (c : Command) → noop_where b ≡ Some c → IsFree f m c
  noop_case true c e = noop_is_free c (let same : NoOp ≡ c = cc in same)
  noop_case false c e = absurd (cc)

  request_case : (o : Option Submission) (other : Option Command) (c : Command) → ((r : Submission) → o ≡ Some r → Contains waiting r)
      → (other ≡ Some c → IsFree f m c) → request_or o other ≡ Some c → IsFree f m c
  request_case None other c among free e = free e
  request_case (Some r) other c among free e =
      let same : Request r ≡ c = cc in inr (subst (Contains m.waiting) same (stand r (among r refl)))

  free_flag : (b : Bool) (open' : List Proposal) (is_first : Bool) (c : Command) → free_choice b waiting open' is_first ≡ Some c
      → IsFree f m c
  free_flag true open' is_first c e = noop_is_free c (let same : NoOp ≡ c = cc in same)
  free_flag false open' is_first c e =
      request_case (first_free waiting open') (noop_where is_first) c (λ r. found_among _ waiting r) (noop_case is_first c) e

  choice_case : (o : Option (Vote Command)) (other : Option Command) (told : List (Vote Command)) (s : ℕ) (c : Command) → IsToldAt told s o
      → (other ≡ Some c → IsFree f m c) → command_or o other ≡ Some c → IsChoice f m told s c
  choice_case None other told s c h free e = inr (h, free e)
  choice_case (Some v) other told s c h free e = inl (v, h, let same : v.command ≡ c = cc in same)

  pub choice_lem : (k : Campaigning) (learnt_to slot : ℕ) (open' : List Proposal) (c : Command)
      → choice k waiting learnt_to slot open' ≡ Some c → IsChoice f m k.told slot c
  choice_lem k learnt_to slot open' c e =
      choice_case (told_at k.told slot)
      (free_choice (is_told_after k.told slot || nat_lt (slot + 1) learnt_to) waiting open' (slot == k.first)) k.told slot c
      (told_at_lem k.told slot)
      (free_flag (is_told_after k.told slot || nat_lt (slot + 1) learnt_to) open' (slot == k.first) c) e
