-- The members of a round, and what they refuse.
use Rattle.std.proofs.Common.{◌≡◌, ◌≢◌, ℕ, suc, ◌+◌, ◌-◌, ◌≤◌, ◌<◌, List, [], ◌∷◌, length, take, drop, Bool, true, false, Option, Some}
use Rattle.std.proofs.Common.{None, IfSome, MatchBool, MatchOption, All, AllPairs, Contains, get_or, refl, sym, ap, subst, ◌∙◌, arith}
use Rattle.std.proofs.Common.{rules, inl, inr}
use Rattle.std.specs.Prelude.{nat_lt, if◌then◌else◌}
use Rattle.std.proofs.Math.Seq.{take-length}
use Rattle.std.proofs.lemmas.Bool.{cases_Bool, cases_lt}
use Rattle.std.proofs.lemmas.List.{get_or_default}
use Rattle.std.proofs.lemmas.List.Elements.{All-cons}
use Rattle.std.proofs.lemmas.List.Kept.{AllPairs-cons}
use Rattle.tpoint.proofs.ListLemmas.{first_to_all, tail_pairs}
use Rattle.synod.specs.Ballots.{rank}
use Rattle.synod.specs.declared.ballot.Ballot.{Ballot}
use Rattle.wire.specs.declared.frames.envelope.Envelope.{Envelope}
use Rattle.world_model.specs.Worlds.{WorldState}
use Rattle.node_model.specs.Replicas.{position}
use Rattle.world_model.specs.Rounds.{IsQuorum, AreUp, IsBehind, CanMeet, refusal_in, greater, NoneRefuses, IsGreatestTold}

-- the others of a list
others_are : {X : Type 0} (y : X) (ys : List X) → take (length (y ∷ ys) - 1) (drop 1 (y ∷ ys)) ≡ ys
others_are y ys =
    let less : length (y ∷ ys) - 1 ≡ length ys = omega arith in
    ap (λ (n : ℕ). take n ys) less ∙ take-length ys

differs : (y : ℕ) (ys : List ℕ) → (Contains ys y → ⊥) → All (λ z. y ≢ z) ys
differs y ys not k d within e = not (k, within, get_or_default ys k y d within ∙ sym e)

-- a node that doesn't come again leaves it to the others
pub no_more : (all : List ℕ) (x : ℕ) (r : Bool) → 1 ≤ length all → x ≡ get_or all 0 x
    → (Contains (take (length all - 1) (drop 1 all)) x → ⊥)
    → MatchBool r (AllPairs ◌≢◌ (take (length all - 1) (drop 1 all)) → ⊥) (AllPairs ◌≢◌ (take (length all - 1) (drop 1 all)))
    → MatchBool r (AllPairs ◌≢◌ all → ⊥) (AllPairs ◌≢◌ all)
no_more [] x r some is not h = absurd (omega (arith, some))
no_more (y ∷ ys) x true some is not h = λ pairs.
    h (subst (λ (l : List ℕ). AllPairs ◌≢◌ l) (sym (others_are y ys)) (tail_pairs ◌≢◌ y ys pairs))
no_more (y ∷ ys) x false some is not h =
    let none : Contains ys y → ⊥ =
    λ there. not (subst (λ (l : List ℕ). Contains l x) (sym (others_are y ys)) (subst (λ (z : ℕ). Contains ys z) (sym is) there)) in
    AllPairs-cons ◌≢◌ y ys (differs y ys none) (subst (λ (l : List ℕ). AllPairs ◌≢◌ l) (others_are y ys) h)

-- one that does is a repeat
pub comes_again : (all : List ℕ) (x : ℕ) → 1 ≤ length all → x ≡ get_or all 0 x
    → Contains (take (length all - 1) (drop 1 all)) x → AllPairs ◌≢◌ all → ⊥
comes_again [] x some is there pairs = omega (arith, some)
comes_again (y ∷ ys) x some is there pairs =
    let again : Contains ys y = subst (λ (z : ℕ). Contains ys z) is (subst (λ (l : List ℕ). Contains l x) (others_are y ys) there) in
    first_to_all ◌≢◌ y ys pairs again.0 y again.1 (sym again.2)

-- ---- refusals
tells_none : (e : Envelope) (es : List Envelope) → refusal_in e.message ≡ None → NoneRefuses es → NoneRefuses (e ∷ es)
tells_none e es none h = All-cons (λ (f : Envelope). refusal_in f.message ≡ None) e es none h

abbrev IsAtMost : Ballot → Envelope → Type 0
IsAtMost greatest e = IfSome (refusal_in e.message) (λ b. rank b ≤ rank greatest)

later_told : (e : Envelope) (es : List Envelope) (g : Ballot) → IsAtMost g e → IsGreatestTold es g → IsGreatestTold (e ∷ es) g
later_told e es g most h = record {
  frame = h.frame;
  among = (suc h.among.0, omega (arith, h.among.1), h.among.2);
  tells = h.tells;
  most = All-cons (IsAtMost g) e es most h.most;
}

first_told : (e : Envelope) (es : List Envelope) (g : Ballot) → refusal_in e.message ≡ Some g → All (IsAtMost g) es
    → IsGreatestTold (e ∷ es) g
first_told e es g tells most = record {
  frame = e;
  among = (0, omega arith, refl);
  tells = tells;
  most = All-cons (IsAtMost g) e es (subst (λ (o : Option Ballot). IfSome o (λ b. rank b ≤ rank g)) (sym tells) (omega arith)) most;
}

none_at_most : (g : Ballot) (es : List Envelope) → NoneRefuses es → All (IsAtMost g) es
none_at_most g es none k d within =
    subst (λ (o : Option Ballot). IfSome o (λ b. rank b ≤ rank g)) (sym (none k d within)) (search rules)

lower : (one g : Ballot) (o : Option Ballot) → rank one ≤ rank g → IfSome o (λ b. rank b ≤ rank one) → IfSome o (λ b. rank b ≤ rank g)
lower one g None below h = h
lower one g (Some b) below h = omega (arith, below, h)

-- of two promises the greater one, by this test
of_two : (e : Envelope) (es : List Envelope) (one g : Ballot) (b : Bool) → nat_lt (rank one) (rank g) ≡ b → Some one ≡ refusal_in e.message
    → IsGreatestTold es g → MatchOption (if b then Some g else Some one) (NoneRefuses (e ∷ es)) (IsGreatestTold (e ∷ es))
of_two e es one g true lt is h =
    let below : rank one ≤ rank g = grind (arith, lt) in
    later_told e es g (subst (λ (o : Option Ballot). IfSome o (λ b. rank b ≤ rank g)) is below) h
of_two e es one g false lt is h =
    let above : rank g ≤ rank one = grind (arith, lt) in
    first_told e es one (sym is) (λ k d within. lower g one _ above (h.most k d within))

of_both : (e : Envelope) (es : List Envelope) (one later : Option Ballot) → one ≡ refusal_in e.message
    → MatchOption later (NoneRefuses es) (IsGreatestTold es)
    → MatchOption (greater one later) (NoneRefuses (e ∷ es)) (IsGreatestTold (e ∷ es))
of_both e es None None is h = tells_none e es (sym is) h
of_both e es None (Some g) is h =
    later_told e es g (subst (λ (o : Option Ballot). IfSome o (λ b. rank b ≤ rank g)) is (search rules)) h
of_both e es (Some one) None is h = first_told e es one (sym is) (none_at_most one es h)
of_both e es (Some one) (Some g) is h = of_two e es one g (nat_lt (rank one) (rank g)) refl is h

-- the first of a list, and the others behind it
pub told_first : (all : List Envelope) (x : Envelope) (one later : Option Ballot) → 1 ≤ length all → x ≡ get_or all 0 x
    → one ≡ refusal_in x.message
    → MatchOption later (NoneRefuses (take (length all - 1) (drop 1 all))) (IsGreatestTold (take (length all - 1) (drop 1 all)))
    → MatchOption (greater one later) (NoneRefuses all) (IsGreatestTold all)
told_first [] x one later some is tells h = absurd (omega (arith, some))
told_first (y ∷ ys) x one later some is tells h =
    of_both y ys one later (tells ∙ ap (λ (e : Envelope). refusal_in e.message) is)
    (subst (λ (l : List Envelope). MatchOption later (NoneRefuses l) (IsGreatestTold l)) (others_are y ys) h)

-- ---- members that can meet
-- members of whom none is ahead may speak of the node's position
pub can_meet : {S : Type 0} (w : WorldState S) (node : ℕ) (members : List ℕ) → IsQuorum (length w.nodes) node members → AreUp w members
    → ((m : ℕ) → Contains members m → IsBehind w node m → ⊥) → CanMeet w node members
can_meet w node members quorum up none = record {
  quorum = quorum;
  up = up;
  level = λ p m i among here there. elim (cases_lt (position p) m.acceptor.floor) [
    | inl above ↦ absurd (none i among (record { own = p; here = here; other = m; there = there; above = above }))
    | inr level ↦ level
  ];
}

-- ---- what holds of each member
-- it holds of those below a number, and of the one of the number
pub next_member : (P : ℕ → Type 0) (members : List ℕ) (k : ℕ) → ((m : ℕ) → m < k → Contains members m → P m)
    → (Contains members k → P k) → (m : ℕ) → m < k + 1 → Contains members m → P m
next_member P members k below here m less among = elim (cases_Bool (nat_lt m k)) [
  | inl lt ↦ below m (grind (arith, lt)) among
  | inr not ↦
      let same : k ≡ m = grind (arith, not, less) in
      subst (λ (j : ℕ). P j) same (here (subst (λ (j : ℕ). Contains members j) (sym same) among))
]
