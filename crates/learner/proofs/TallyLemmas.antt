-- What a list of tallies tells.
use Rattle.std.proofs.Common.{◌≡◌, ◌≢◌, ℕ, zero, suc, ◌<◌, ◌≤◌, nat_lt, get_or, ◌&&◌, ◌⊎◌, inl, inr, nat_eq, Bool, true, false, cond}
use Rattle.std.proofs.Common.{List, [], ◌∷◌, Option, Some, None, IsSome, is_some, slice_get, slice_set, length, ◌++◌, refl, sym, ap}
use Rattle.std.proofs.Common.{subst, ◌∙◌, arith, le_refl, replicate}
use Rattle.std.specs.List.{list_any, position_or_len}
use Rattle.std.proofs.lemmas.List.Sums.{passes_at_first, fails_before_first}
use Rattle.std.proofs.lemmas.Option.{get_or_from_slice_get, slice_get_within, slice_get_past, slice_get_read}
use Rattle.std.proofs.lemmas.Bool.{eq-eqb}
use Rattle.std.proofs.lemmas.Bool.Decides.{nat_tests, eqb_tells, leb_tells}
use Rattle.synod.specs.Majorities.{counted, IsMajority}
use Rattle.synod.specs.Records.{put}
use Rattle.synod.specs.declared.ballot.Ballot.{Ballot}
use Rattle.sessions.specs.declared.command.Command.{Command}
use Rattle.sessions.specs.Same.{same_command, same_command_Decides}
use Rattle.wire.specs.NodeSets.{has_node}
use Rattle.wire.specs.OneBallot.{same_ballot}
use Rattle.learner.specs.Learning.{Heard, is_same_ballot, told_too, IsDecided}
use Rattle.learner.specs.Tallies.{told_in, has_voter, IsOf, TalliesAreApart, Overlap, IsTallyPlace, voters_at, voters_of}
use Rattle.learner.specs.declared.tally.Tally.{Tally}
use Rattle.learner.proofs.MajorityLemmas.{is_majority, is_no_majority}

-- ---- tests
pub true_or_false : (x : Bool) → (x ≡ true) ⊎ (x ≡ false)
true_or_false true = inl refl
true_or_false false = inr refl

pub one_ballot : (a b : Ballot) → is_same_ballot a b ≡ true → a ≡ b
one_ballot a b e =
    let round : a.round ≡ b.round = grind (arith, nat_tests, e) in
    let node : a.node ≡ b.node = grind (arith, nat_tests, e) in
    same_ballot a b round node

ballot_itself : (b : Ballot) → is_same_ballot b b ≡ true
ballot_itself b = grind (arith, nat_tests)

both : (x y : Bool) → x ≡ true → y ≡ true → x && y ≡ true
both true true e f = refl
both true false e f = f
both false y e f = e

pub left_of : (x y : Bool) → x && y ≡ true → x ≡ true
left_of true y e = refl
left_of false y e = e

pub right_of : (x y : Bool) → x && y ≡ true → y ≡ true
right_of true y e = e
right_of false y e = absurd (let bad : false ≡ true = e in cc)

-- ---- who told what
-- the tally from which it is known what a node told under a ballot
pub record Teller (ts : List Tally) (b : Ballot) (a : ℕ) (c : Command) : Type 0 where
  pub at : ℕ
  pub tally : Tally
  pub is : slice_get ts at ≡ Some tally
  pub ballot : tally.ballot ≡ b
  pub has : has_node tally.voters a ≡ true
  pub command : tally.command ≡ c

later : (t : Tally) (ts : List Tally) (b : Ballot) (a : ℕ) (c : Command) → Teller ts b a c → Teller (t ∷ ts) b a c
later t ts b a c r = record { at = suc r.at; tally = r.tally; is = r.is; ballot = r.ballot; has = r.has; command = r.command }

pub teller : (ts : List Tally) (b : Ballot) (a : ℕ) (c : Command) → told_in ts b a ≡ Some c → Teller ts b a c
teller [] b a c e = absurd cc
teller (t ∷ ts) b a c e = elim (true_or_false (has_voter b a t)) [
  | inl has ↦
      let told : Some t.command ≡ Some c = sym (rw has refl) ∙ e in
      record {
        at = 0;
        tally = t;
        is = refl;
        ballot = one_ballot t.ballot b (left_of (is_same_ballot t.ballot b) (has_node t.voters a) has);
        has = right_of (is_same_ballot t.ballot b) (has_node t.voters a) has;
        command = cc;
      }
  | inr not ↦ later t ts b a c (teller ts b a c (sym (rw not refl) ∙ e))
]

-- a tally that has the node tells something of it
has_it : (t : Tally) (b : Ballot) (a : ℕ) → t.ballot ≡ b → has_node t.voters a ≡ true → has_voter b a t ≡ true
has_it t b a e h =
    both (is_same_ballot t.ballot b) (has_node t.voters a)
    (subst (λ d. is_same_ballot t.ballot d ≡ true) e (ballot_itself t.ballot)) h

told_something : (ts : List Tally) (k : ℕ) (t : Tally) (b : Ballot) (a : ℕ) → slice_get ts k ≡ Some t → t.ballot ≡ b
    → has_node t.voters a ≡ true → IsSome (told_in ts b a)
told_something [] k t b a is e h = absurd cc
told_something (u ∷ ts) zero t b a is e h =
    let same : u ≡ t = cc in
    let has : has_voter b a u ≡ true = subst (λ v. has_voter b a v ≡ true) (sym same) (has_it t b a e h) in
    rw has refl
told_something (u ∷ ts) (suc k) t b a is e h = elim (true_or_false (has_voter b a u)) [
  | inl has ↦ rw has refl
  | inr not ↦ rw not (told_something ts k t b a is e h)
]

some_of : {X : Type 0} (o : Option X) → IsSome o → (x : X) × (o ≡ Some x)
some_of None h = absurd (let bad : false ≡ true = h in cc)
some_of (Some x) h = (x, refl)

-- where no two tallies overlap, it tells its command
pub told_its_own : (ts : List Tally) → TalliesAreApart ts → (k : ℕ) (t : Tally) (b : Ballot) (a : ℕ) → slice_get ts k ≡ Some t → t.ballot ≡ b
    → has_node t.voters a ≡ true → told_in ts b a ≡ Some t.command
told_its_own ts apart k t b a is e h =
    let some = some_of (told_in ts b a) (told_something ts k t b a is e h) in
    let r = teller ts b a some.0 some.1 in
    let one : k ≡ r.at = apart k r.at t r.tally is r.is (e ∙ sym r.ballot) (inl (a, h, r.has)) in
    let same : Some t ≡ Some r.tally = sym is ∙ ap (slice_get ts) one ∙ r.is in
    let command : t.command ≡ some.0 = cc (same, r.command) in
    some.1 ∙ ap Some (sym command)

-- whether a node has told something is whether a tally has it
pub told_any : (ts : List Tally) (b : Ballot) (a : ℕ) → list_any (has_voter b a) ts ≡ is_some (told_in ts b a)
told_any [] b a = refl
told_any (t ∷ ts) b a = elim (true_or_false (has_voter b a t)) [
  | inl has ↦ rw has refl
  | inr not ↦ rw not (told_any ts b a)
]

-- ---- one more telling
-- two tallies overlap whichever comes first
overlap_back : (t u : Tally) → Overlap t u → Overlap u t
overlap_back t u (inl w) = inl (w.0, w.2, w.1)
overlap_back t u (inr e) = inr (sym e)

-- a voter of a tally that may be there
voter_of : (o : Option Tally) (n : ℕ) → ((m : ℕ) → has_node (voters_of None) m ≡ false) → has_node (voters_of o) n ≡ true
    → (t : Tally) × (o ≡ Some t) × (has_node t.voters n ≡ true)
voter_of None n nobody h = absurd (let bad : false ≡ true = sym (nobody n) ∙ h in cc)
voter_of (Some t) n nobody h = (t, refl, h)

not_none : {X : Type 0} (o : Option X) → IsSome o → o ≡ None → ⊥
not_none None h e = absurd (let bad : false ≡ true = h in cc)
not_none (Some x) h e = absurd cc

-- at place i stood a tally of the ballot and the command, the only one, or none; its voters are these now, among them
-- the node, whose first telling under the ballot it is
module _ (ts : List Tally) (apart : TalliesAreApart ts) (b : Ballot) (a : ℕ) (c : Command) (i : ℕ) (old : Option Tally)
    (stood : slice_get ts i ≡ old) (of : (t : Tally) → old ≡ Some t → IsOf b c t)
    (only : (k : ℕ) (t : Tally) → slice_get ts k ≡ Some t → IsOf b c t → k ≡ i)
    (voters : List Bool) (member : has_node voters a ≡ true)
    (others : (n : ℕ) → n ≢ a → has_node voters n ≡ has_node (voters_of old) n)
    (nobody : (n : ℕ) → has_node (voters_of None) n ≡ false)
    (once : told_in ts b a ≡ None) where
  told_before : (n : ℕ) → n ≢ a → has_node voters n ≡ true → told_in ts b n ≡ Some c
  told_before n other h =
      let w = voter_of old n nobody (sym (others n other) ∙ h) in
      let is_of = of w.0 w.1 in
      told_its_own ts apart i w.0 b n (stood ∙ w.1) is_of.0 w.2 ∙ ap Some is_of.1

  counted_before : (n : ℕ) → n ≢ a → told_in ts b n ≡ Some c → has_node voters n ≡ true
  counted_before n other told =
      let r = teller ts b n c told in
      let here : r.at ≡ i = only r.at r.tally r.is (r.ballot, r.command) in
      let there : old ≡ Some r.tally = sym stood ∙ ap (slice_get ts) (sym here) ∙ r.is in
      others n other ∙ ap (λ o. has_node (voters_of o) n) there ∙ r.has

  -- what is told with it
  abbrev with_it : Heard
  with_it = told_too (told_in ts) b a c

  with_it_here : with_it b a ≡ Some c
  with_it_here = grind (arith, nat_tests)

  with_it_elsewhere : (d : Ballot) (n : ℕ) → is_same_ballot d b && nat_eq n a ≡ false → with_it d n ≡ told_in ts d n
  with_it_elsewhere d n e = rw e refl

  with_it_of_others : (n : ℕ) → n ≢ a → with_it b n ≡ told_in ts b n
  with_it_of_others n other = grind (arith, nat_tests)

  -- the voters are those who have told the command under the ballot
  told_then : (n : ℕ) → has_node voters n ≡ true → with_it b n ≡ Some c
  told_then n h = elim (eqb_tells n a) [
    | inl same ↦ subst (λ m. with_it b m ≡ Some c) (sym same.1) with_it_here
    | inr other ↦ with_it_of_others n other.1 ∙ told_before n other.1 h
  ]

  counted_then : (n : ℕ) → with_it b n ≡ Some c → has_node voters n ≡ true
  counted_then n told = elim (eqb_tells n a) [
    | inl same ↦ subst (λ m. has_node voters m ≡ true) (sym same.1) member
    | inr other ↦ counted_before n other.1 (sym (with_it_of_others n other.1) ∙ told)
  ]

  pub decides : (nodes : ℕ) → IsMajority nodes (counted (has_node voters) nodes) → IsDecided nodes (told_in ts) b a c
  decides nodes most = is_majority (has_node voters) (λ n _ h. told_then n h) most

  pub decides_not : (nodes : ℕ) → (IsMajority nodes (counted (has_node voters) nodes) → ⊥) → IsDecided nodes (told_in ts) b a c → ⊥
  decides_not nodes few = is_no_majority (has_node voters) (λ n _ told. counted_then n told) few

  -- ---- the list with this tally at i
  abbrev new : Tally
  new = record { ballot = b; command = c; voters = voters }

  -- no tally elsewhere overlaps with it
  meets_none : (l : ℕ) (u : Tally) → l ≢ i → slice_get ts l ≡ Some u → u.ballot ≡ b → Overlap new u → ⊥
  meets_none l u other is e (inr same) = other (only l u is (e, sym same))
  meets_none l u other is e (inl w) = elim (eqb_tells w.0 a) [
    | inl same ↦ not_none (told_in ts b a) (told_something ts l u b a is e (subst (λ n. has_node u.voters n ≡ true) same.1 w.2)) once
    | inr another ↦
        let v = voter_of old w.0 nobody (sym (others w.0 another.1) ∙ w.1) in
        let is_of = of v.0 v.1 in
        other (sym (apart i l v.0 u (stood ∙ v.1) is (is_of.0 ∙ sym e) (inl (w.0, v.2, w.2))))
  ]

  module _ (after : List Tally) (changed : (k : ℕ) → slice_get after k ≡ put (slice_get ts) i (Some new) k) where
    at_it : (k : ℕ) → k ≡ i → slice_get after k ≡ Some new
    at_it k e = grind (arith, nat_tests, changed k)

    elsewhere : (k : ℕ) → k ≢ i → slice_get after k ≡ slice_get ts k
    elsewhere k e = grind (arith, nat_tests, changed k)

    it_is_new : (k : ℕ) (t : Tally) → k ≡ i → slice_get after k ≡ Some t → t ≡ new
    it_is_new k t e is = let same : Some t ≡ Some new = sym is ∙ at_it k e in cc

    -- still no two overlap under one ballot
    new_meets_none : (k l : ℕ) (t u : Tally) → k ≡ i → l ≢ i → slice_get after k ≡ Some t → slice_get after l ≡ Some u
        → t.ballot ≡ u.ballot → Overlap t u → ⊥
    new_meets_none k l t u at other is_t is_u e overlap =
        let same = it_is_new k t at is_t in
        meets_none l u other (sym (elsewhere l other) ∙ is_u) (sym e ∙ ap (λ (x : Tally). x.ballot) same)
        (subst (λ x. Overlap x u) same overlap)

    pub still_apart : TalliesAreApart after
    still_apart k l t u is_t is_u e overlap = elim (eqb_tells k i) [
      | inl at ↦ elim (eqb_tells l i) [
        | inl there ↦ at.1 ∙ sym there.1
        | inr other ↦ absurd (new_meets_none k l t u at.1 other.1 is_t is_u e overlap)
      ]
      | inr away ↦ elim (eqb_tells l i) [
        | inl there ↦ absurd (new_meets_none l k u t there.1 away.1 is_u is_t (sym e) (overlap_back t u overlap))
        | inr other ↦ apart k l t u (sym (elsewhere k away.1) ∙ is_t) (sym (elsewhere l other.1) ∙ is_u) e overlap
      ]
    ]

    -- it tells what was told, and the one more
    tells_it : told_in after b a ≡ Some c
    tells_it = told_its_own after still_apart i new b a (at_it i refl) refl member

    tells_no_other : (d : Ballot) (n : ℕ) → (d ≡ b → n ≡ a → ⊥) → (o : Option Command) → told_in after d n ≡ o → told_in ts d n ≡ o
    tells_no_other d n not_it (Some e) is =
        let r = teller after d n e is in
        elim (eqb_tells r.at i) [
          | inl at ↦
              let same = it_is_new r.at r.tally at.1 r.is in
              let here : d ≡ b = sym r.ballot ∙ ap (λ (x : Tally). x.ballot) same in
              let has : has_node voters n ≡ true = sym (ap (λ (x : Tally). has_node x.voters n) same) ∙ r.has in
              let command : c ≡ e = sym (ap (λ (x : Tally). x.command) same) ∙ r.command in
              subst (λ x. told_in ts x n ≡ Some e) (sym here) (told_before n (not_it here) has ∙ ap Some command)
          | inr away ↦ told_its_own ts apart r.at r.tally d n (sym (elsewhere r.at away.1) ∙ r.is) r.ballot r.has ∙ ap Some r.command
        ]
    tells_no_other d n not_it None is = none (told_in ts d n) refl
      where
        something : (e : Command) → told_in ts d n ≡ Some e → IsSome (told_in after d n)
        something e told =
            let r = teller ts d n e told in
            elim (eqb_tells r.at i) [
              | inl at ↦
                  let there : old ≡ Some r.tally = sym stood ∙ ap (slice_get ts) (sym at.1) ∙ r.is in
                  let here : d ≡ b = sym r.ballot ∙ (of r.tally there).0 in
                  let has : has_node voters n ≡ true = others n (not_it here) ∙ ap (λ o. has_node (voters_of o) n) there ∙ r.has in
                  told_something after i new d n (at_it i refl) (sym here) has
              | inr away ↦ told_something after r.at r.tally d n (elsewhere r.at away.1 ∙ r.is) r.ballot r.has
            ]

        none : (o : Option Command) → told_in ts d n ≡ o → told_in ts d n ≡ None
        none None e = e
        none (Some e) told = absurd (not_none (told_in after d n) (something e told) is)

    tells : (d : Ballot) (n : ℕ) → told_in after d n ≡ with_it d n
    tells d n = elim (true_or_false (is_same_ballot d b && nat_eq n a)) [
      | inl same ↦
          let here : d ≡ b = one_ballot d b (left_of (is_same_ballot d b) (nat_eq n a) same) in
          let node : n ≡ a = grind (arith, nat_tests, right_of (is_same_ballot d b) (nat_eq n a) same) in
          subst (λ x. told_in after x n ≡ with_it x n) (sym here)
          (subst (λ m. told_in after b m ≡ with_it b m) (sym node) (tells_it ∙ sym with_it_here))
      | inr other ↦
          let not_it : d ≡ b → n ≡ a → ⊥ = λ e f. absurd (let itself : is_same_ballot d b && nat_eq n a ≡ true =
          both (is_same_ballot d b) (nat_eq n a) (subst (λ x. is_same_ballot d x ≡ true) e (ballot_itself d))
          (grind (arith, nat_tests, f)) in
          let bad : false ≡ true = sym other ∙ itself in cc) in
          sym (tells_no_other d n not_it (told_in after d n) refl) ∙ sym (with_it_elsewhere d n other)
    ]

    pub tells_all : told_in after ≡ with_it
    tells_all = λ k d n. tells d n k

-- ---- the two changes of a list
put_later : {X : Type 0} (xs : List X) (y : X) (i : ℕ) (x : Option X) (k : ℕ)
    → put (slice_get xs) i x k ≡ put (slice_get (y ∷ xs)) (suc i) x (suc k)
put_later xs y i x k = elim (eqb_tells k i) [
  | inl same ↦ rw (same.0, eq-eqb (suc k) (suc i) (ap suc same.1)) refl
  | inr other ↦ grind (arith, nat_tests, other.1)
]

pub set_at : {X : Type 0} (xs : List X) (i : ℕ) (x : X) → i < length xs → (k : ℕ)
    → slice_get (slice_set xs i x) k ≡ put (slice_get xs) i (Some x) k
set_at [] i x l k = absurd (omega (arith, l))
set_at (y ∷ xs) zero x l zero = refl
set_at (y ∷ xs) zero x l (suc k) = grind (arith, nat_tests)
set_at (y ∷ xs) (suc i) x l zero = grind (arith, nat_tests)
set_at (y ∷ xs) (suc i) x l (suc k) = set_at xs i x (omega (arith, l)) k ∙ put_later xs y i (Some x) k

pub push_at : {X : Type 0} (xs : List X) (x : X) → (k : ℕ) → slice_get (xs ++ x ∷ []) k ≡ put (slice_get xs) (length xs) (Some x) k
push_at [] x zero = refl
push_at [] x (suc k) = grind (arith, nat_tests)
push_at (y ∷ xs) x zero = grind (arith, nat_tests)
push_at (y ∷ xs) x (suc k) = push_at xs x k ∙ put_later xs y (length xs) (Some x) k

-- ---- where a ballot and a command stand
abbrev pub is_of : Ballot → Command → Tally → Bool
is_of b c t = is_same_ballot t.ballot b && same_command t.command c

is_of_them : (b : Ballot) (c : Command) (t : Tally) → is_of b c t ≡ true → IsOf b c t
is_of_them b c t e = (
  one_ballot t.ballot b (left_of (is_same_ballot t.ballot b) (same_command t.command c) e),
  (same_command_Decides t.command c).0 (right_of (is_same_ballot t.ballot b) (same_command t.command c) e),
)

tells_of_them : (b : Ballot) (c : Command) (t : Tally) → IsOf b c t → is_of b c t ≡ true
tells_of_them b c t o =
    both (is_same_ballot t.ballot b) (same_command t.command c) (subst (λ d. is_same_ballot t.ballot d ≡ true) o.0 (ballot_itself t.ballot))
    ((same_command_Decides t.command c).1 o.1)

some_at : {X : Type 0} (xs : List X) (i : ℕ) → i < length xs → (x : X) × (slice_get xs i ≡ Some x)
some_at [] i l = absurd (omega (arith, l))
some_at (x ∷ xs) zero l = (x, refl)
some_at (x ∷ xs) (suc i) l = some_at xs i (omega (arith, l))

module _ (ts : List Tally) (apart : TalliesAreApart ts) (b : Ballot) (c : Command) where
  abbrev first : ℕ
  first = position_or_len (is_of b c) ts

  stands_first : first < length ts → (t : Tally) × (slice_get ts first ≡ Some t) × IsOf b c t
  stands_first l =
      let t = some_at ts first l in
      let here : is_of b c (get_or ts first t.0) ≡ true = passes_at_first (is_of b c) ts t.0 l in
      (t.0, t.1, is_of_them b c t.0 (subst (λ u. is_of b c u ≡ true) (get_or_from_slice_get ts first t.0 t.0 t.1) here))

  not_before : (k : ℕ) (t : Tally) → slice_get ts k ≡ Some t → IsOf b c t → first ≤ k
  not_before k t is o = elim (leb_tells first k) [
    | inl within ↦ within.1
    | inr before ↦ absurd (
        let fails : is_of b c (get_or ts k t) ≡ false = fails_before_first (is_of b c) ts k t before.1 in
        let passes : is_of b c (get_or ts k t) ≡ true =
        subst (λ u. is_of b c u ≡ true) (sym (get_or_from_slice_get ts k t t is)) (tells_of_them b c t o) in
        let bad : false ≡ true = sym fails ∙ passes in
        cc
        )
  ]

  only_first : (k : ℕ) (t : Tally) → slice_get ts k ≡ Some t → IsOf b c t → (first < length ts) × (first ≡ k)
  only_first k t is o =
      let within : first < length ts = omega (arith, not_before k t is o, slice_get_within ts k t is) in
      let u = stands_first within in
      (within, apart first k u.0 t u.1 is (u.2.0 ∙ sym o.0) (inr (u.2.1 ∙ sym o.1)))

  pub place_of : (place : Option ℕ) → place ≡ cond (nat_lt first (length ts)) (Some first) None → IsTallyPlace ts b c place
  place_of place e = elim (true_or_false (nat_lt first (length ts))) [
    | inl within ↦
        let here : place ≡ Some first = e ∙ rw within refl in
        let inside : first < length ts = grind (arith, nat_tests, within) in
        record {
          found = λ i is. (let same : Some first ≡ Some i = sym here ∙ is in let one : first ≡ i = cc in
              subst (λ k. (t : Tally) × (slice_get ts k ≡ Some t) × IsOf b c t) one (stands_first inside));
          only = λ k t is o. here ∙ ap Some (only_first k t is o).1;
        }
    | inr past ↦
        let nowhere : place ≡ None = e ∙ rw past refl in
        let outside : length ts ≤ first = grind (arith, nat_tests, past) in
        record {
          found = λ i is. absurd (let bad : None ≡ Some i = sym nowhere ∙ is in cc);
          only = λ k t is o. absurd (omega (arith, (only_first k t is o).0, outside));
        }
  ]

-- ---- one more telling, at the place of its ballot and command
nobody_of : (k n : ℕ) → get_or (replicate k false) n false ≡ false
nobody_of zero n = refl
nobody_of (suc k) zero = refl
nobody_of (suc k) (suc n) = nobody_of k n

-- what stood at the place, and where the tally is from now on
abbrev place_old : List Tally → Option ℕ → Option Tally
place_old ts None = None
place_old ts (Some i) = slice_get ts i

abbrev place_new : List Tally → Option ℕ → ℕ
place_new ts None = length ts
place_new ts (Some i) = i

module _ (ts : List Tally) (b : Ballot) (c : Command) where
  stood_at : (place : Option ℕ) → slice_get ts (place_new ts place) ≡ place_old ts place
  stood_at None = slice_get_past ts (length ts) (le_refl _)
  stood_at (Some i) = refl

  of_at : (place : Option ℕ) → IsTallyPlace ts b c place → (t : Tally) → place_old ts place ≡ Some t → IsOf b c t
  of_at None is t e = absurd cc
  of_at (Some i) is t e =
      let u = is.found i refl in
      let one : Some u.0 ≡ Some t = sym u.1 ∙ e in
      let same : u.0 ≡ t = cc in
      subst (IsOf b c) same u.2

  only_at : (place : Option ℕ) → IsTallyPlace ts b c place → (k : ℕ) (t : Tally) → slice_get ts k ≡ Some t → IsOf b c t → k ≡ place_new ts place
  only_at None is k t g o = absurd (let bad : None ≡ Some k = is.only k t g o in cc)
  only_at (Some i) is k t g o = (let one : Some i ≡ Some k = is.only k t g o in cc)

  voters_there : (place : Option ℕ) → voters_at ts place ≡ voters_of (place_old ts place)
  voters_there None = refl
  voters_there (Some i) = refl

  -- where there is none, nobody has told the command under the ballot
  pub told_by_none : (place : Option ℕ) → IsTallyPlace ts b c place → place ≡ None → (a : ℕ) → told_in ts b a ≢ Some c
  told_by_none place is nowhere a told =
      let r = teller ts b a c told in
      let bad : None ≡ Some r.at = sym nowhere ∙ is.only r.at r.tally r.is (r.ballot, r.command) in
      cc

  -- the tally that is read there
  pub read_there : (place : Option ℕ) → IsTallyPlace ts b c place → (i : ℕ) → place ≡ Some i → (t : Tally) → t ≡ get_or ts i t
      → slice_get ts i ≡ Some t
  read_there place is i e t read =
      let u = is.found i e in
      slice_get_read ts (length ts) i t refl (slice_get_within ts i u.0 u.1) read

module _ (ts : List Tally) (apart : TalliesAreApart ts) (b : Ballot) (a : ℕ) (c : Command) (place : Option ℕ) (is : IsTallyPlace ts b c place)
    (voters : List Bool) (member : has_node voters a ≡ true)
    (others : (n : ℕ) → n ≢ a → has_node voters n ≡ has_node (voters_at ts place) n) (once : told_in ts b a ≡ None) where
  others_there : (n : ℕ) → n ≢ a → has_node voters n ≡ has_node (voters_of (place_old ts place)) n
  others_there n other = others n other ∙ ap (λ set. has_node set n) (voters_there ts b c place)

  pub decides_there : (nodes : ℕ) → IsMajority nodes (counted (has_node voters) nodes) → IsDecided nodes (told_in ts) b a c
  decides_there = decides ts apart b a c (place_new ts place) (place_old ts place) (stood_at ts b c place) (of_at ts b c place is)
      (only_at ts b c place is) voters member others_there (nobody_of 7) once

  pub decides_not_there : (nodes : ℕ) → (IsMajority nodes (counted (has_node voters) nodes) → ⊥) → IsDecided nodes (told_in ts) b a c → ⊥
  decides_not_there = decides_not ts apart b a c (place_new ts place) (place_old ts place) (stood_at ts b c place) (of_at ts b c place is)
      (only_at ts b c place is) voters member others_there (nobody_of 7) once

  abbrev the_new : Tally
  the_new = record { ballot = b; command = c; voters = voters }

  -- the list with it
  module _ (after : List Tally) (changed : (k : ℕ) → slice_get after k ≡ put (slice_get ts) (place_new ts place) (Some the_new) k) where
    apart_then : TalliesAreApart after
    apart_then = still_apart ts apart b a c (place_new ts place) (place_old ts place) (stood_at ts b c place) (of_at ts b c place is)
        (only_at ts b c place is) voters member others_there (nobody_of 7) once after changed

    told_there : told_in after ≡ told_too (told_in ts) b a c
    told_there = tells_all ts apart b a c (place_new ts place) (place_old ts place) (stood_at ts b c place) (of_at ts b c place is)
        (only_at ts b c place is) voters member others_there (nobody_of 7) once after changed

  -- behind the others
  pushed : place ≡ None → (k : ℕ) → slice_get (ts ++ the_new ∷ []) k ≡ put (slice_get ts) (place_new ts place) (Some the_new) k
  pushed e k = push_at ts the_new k ∙ ap (λ p. put (slice_get ts) (place_new ts p) (Some the_new) k) (sym e)

  pub pushed_apart : place ≡ None → TalliesAreApart (ts ++ the_new ∷ [])
  pushed_apart e = apart_then (ts ++ the_new ∷ []) (pushed e)

  -- whether there was room for it or not
  pub pushed_or_not : place ≡ None → (pushes : Bool) (after : List Tally) → after ≡ cond pushes (ts ++ the_new ∷ []) ts → TalliesAreApart after
  pushed_or_not e true after is_ = subst TalliesAreApart (sym is_) (pushed_apart e)
  pushed_or_not e false after is_ = subst TalliesAreApart (sym is_) apart

  pub pushed_told : place ≡ None → told_in (ts ++ the_new ∷ []) ≡ told_too (told_in ts) b a c
  pushed_told e = told_there (ts ++ the_new ∷ []) (pushed e)

  -- in the place of what stood there
  module _ (i : ℕ) (t : Tally) (e : place ≡ Some i) (there : slice_get ts i ≡ Some t) where
    abbrev revised : List Tally
    revised = slice_set ts i (record t { voters = voters })

    same_tally : record t { voters = voters } ≡ the_new
    same_tally =
        let o = of_at ts b c place is t (ap (place_old ts) e ∙ there) in
        λ p. record { ballot = o.0 p; command = o.1 p; voters = voters }

    set_there : (k : ℕ) → slice_get revised k ≡ put (slice_get ts) (place_new ts place) (Some the_new) k
    set_there k =
        set_at ts i (record t { voters = voters }) (slice_get_within ts i t there) k
        ∙ ap (λ u. put (slice_get ts) i (Some u) k) same_tally ∙ ap (λ p. put (slice_get ts) (place_new ts p) (Some the_new) k) (sym e)

    pub revised_apart : TalliesAreApart revised
    revised_apart = apart_then revised set_there

    pub revised_told : told_in revised ≡ told_too (told_in ts) b a c
    revised_told = told_there revised set_there
