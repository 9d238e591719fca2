-- The prefix is the first slot that isn't learnt.
use Rattle.std.proofs.Common.{◌≡◌, ℕ, zero, suc, ◌+◌, ◌-◌, ◌<◌, ◌≤◌, ◌⊎◌, inl, inr, true, false, Option, Some, None, IsSome, is_some}
use Rattle.std.proofs.Common.{refl, sym, ap, subst, ◌∙◌, arith, ltb}
use Rattle.std.proofs.lemmas.Bool.{cases_Bool}
use Rattle.std.proofs.lemmas.Bool.Decides.{nat_tests}
use Rattle.synod.specs.Volatile.{Volatile}
use Rattle.learner.specs.Protocol.{LearnerStands}
use Rattle.std.proofs.lemmas.Grind.{common_steps}
use Rattle.synod.specs.Records.{put}
use Rattle.synod.specs.declared.vote.Vote.{Vote}
use Rattle.synod.proofs.Puts.{put_cases}
use Rattle.synod.specs.declared.slot.TheConstants.{SLOTS}
use Rattle.sessions.specs.declared.command.Command.{Command}
use Rattle.learner.specs.declared.learned.Learned.{Learned}
use Rattle.learner.specs.Learning.{Learning, first_unlearnt, prefix, skipped, unlearnt_from, with_learnt, HearsVote, HearsDecided}
use Rattle.learner.specs.Learning.{ignores, hears, learns, ignores_decided, learns_decided}
use Rattle.learner.specs.Prefixes.{IsLearntTo, IsPrefix}

some_or_none : {A : Type 0} (o : Option A) → (is_some o ≡ true) ⊎ (is_some o ≡ false)
some_or_none None = inr refl
some_or_none (Some a) = inl refl

same_or_not : (a b : ℕ) → (a ≡ b) ⊎ ((a < b) ⊎ (b < a))
same_or_not a b = grind (arith, common_steps)

-- one more slot is learnt
pub one_more : (learnt : ℕ → Option Command) (first s : ℕ) → IsLearntTo learnt first s → s < SLOTS → is_some (learnt s) ≡ true
    → IsLearntTo learnt first (suc s)
one_more learnt first s to here is = record {
  from = omega (arith, to.from);
  in_log = omega (arith, here);
  below = λ q l m. elim (same_or_not q s) [
    | inl e ↦ subst (λ n. IsSome (learnt n)) (sym e) is
    | inr apart ↦ to.below q l (elim apart [ inl less ↦ less | inr more ↦ absurd (omega (arith, m, more)) ])
  ];
}

-- the search for it ends at it
pub is_prefix : (learnt : ℕ → Option Command) (first s n : ℕ) → IsLearntTo learnt first s → s + n ≡ SLOTS
    → IsPrefix learnt first (first_unlearnt learnt s n)
unfolding first_unlearnt
is_prefix learnt first s zero to e = record { learnt_to = to; here = λ l _. omega (arith, e, l) }
is_prefix learnt first s (suc n) to e = elim (some_or_none (learnt s)) [
  | inl is ↦ rw is (is_prefix learnt first (suc s) n (one_more learnt first s to (omega (arith, e)) is) (omega (arith, e)))
  | inr not ↦ rw not (record { learnt_to = to; here = λ _ h. absurd (let bad : false ≡ true = sym not ∙ h in cc) })
]

-- there is one such slot
not_below : (learnt : ℕ → Option Command) (first p q : ℕ) → IsPrefix learnt first p → IsPrefix learnt first q → p < q → ⊥
not_below learnt first p q a b l =
    a.here (omega (arith, b.learnt_to.in_log, l)) (b.learnt_to.below p a.learnt_to.from l)

pub one_prefix : (learnt : ℕ → Option Command) (first p q : ℕ) → IsPrefix learnt first p → IsPrefix learnt first q → p ≡ q
one_prefix learnt first p q a b = elim (same_or_not p q) [
  | inl e ↦ e
  | inr apart ↦ elim apart [
    | inl less ↦ absurd (not_below learnt first p q a b less)
    | inr more ↦ absurd (not_below learnt first q p b a more)
  ]
]

pub prefix_is : (l : Learning) → l.first ≤ SLOTS → IsPrefix l.learnt l.first (prefix l)
unfolding prefix
prefix_is l within = is_prefix l.learnt l.first l.first (SLOTS - l.first)
    (record { from = omega arith; in_log = within; below = λ s a b. absurd (omega (arith, a, b)) }) (omega (arith, within))

pub prefix_only : (l : Learning) (p : ℕ) → IsPrefix l.learnt l.first p → p ≡ prefix l
prefix_only l p is = one_prefix l.learnt l.first p (prefix l) is
    (prefix_is l (omega (arith, is.learnt_to.from, is.learnt_to.in_log)))

-- where nothing is learnt yet, the first slot is the prefix
pub nothing_learnt_yet : (learnt : ℕ → Option Command) (first : ℕ) → first ≤ SLOTS → ((s : ℕ) → learnt s ≡ None)
    → IsPrefix learnt first first
nothing_learnt_yet learnt first within none = record {
  learnt_to = record { from = omega arith; in_log = within; below = λ s a b. absurd (omega (arith, a, b)) };
  here = λ _ some. absurd (let bad : false ≡ true = sym (ap is_some (none first)) ∙ some in cc);
}

pub unlearnt_prefix : (nodes first : ℕ) → first ≤ SLOTS → first ≡ prefix (unlearnt_from nodes first)
unlearnt_prefix nodes first within =
    prefix_only (unlearnt_from nodes first) first (nothing_learnt_yet (λ _. None) first within (λ s. refl))

-- where all that was learnt still is, as many slots are learnt in turn
pub learnt_on : (learnt learnt_then : ℕ → Option Command) (first p : ℕ) → ((s : ℕ) → IsSome (learnt s) → IsSome (learnt_then s))
    → IsLearntTo learnt first p → IsLearntTo learnt_then first p
learnt_on learnt learnt_then first p still to = record {
  from = to.from;
  in_log = to.in_log;
  below = λ s l m. still s (to.below s l m);
}

-- ---- it never falls
-- where no slot is kept, it is the first
none_kept : (learnt : ℕ → Option Command) (s n : ℕ) → n ≡ 0 → first_unlearnt learnt s n ≡ s
unfolding first_unlearnt
none_kept learnt s zero e = refl
none_kept learnt s (suc n) e = absurd (omega (arith, e))

first_of_none : (l : Learning) → SLOTS < l.first → prefix l ≡ l.first
unfolding prefix
first_of_none l beyond = none_kept l.learnt l.first (SLOTS - l.first) (omega (arith, beyond))

module _ (old new : Learning) (same : new.first ≡ old.first) (still : (s : ℕ) → IsSome (old.learnt s) → IsSome (new.learnt s)) where
  grows_within : old.first ≤ SLOTS → prefix old ≤ prefix new
  grows_within within =
      let a : IsPrefix old.learnt old.first (prefix old) = prefix_is old within in
      let b : IsPrefix new.learnt new.first (prefix new) = prefix_is new (omega (arith, within, same)) in
      elim (same_or_not (prefix old) (prefix new)) [
        | inl e ↦ omega (arith, e)
        | inr apart ↦ elim apart [
          | inl less ↦ omega (arith, less)
          | inr more ↦ absurd (b.here (omega (arith, more, a.learnt_to.in_log))
              (still (prefix new) (a.learnt_to.below (prefix new) (omega (arith, b.learnt_to.from, same)) more)))
        ]
      ]

  grows : prefix old ≤ prefix new
  grows = elim (same_or_not old.first SLOTS) [
    | inl e ↦ grows_within (omega (arith, e))
    | inr apart ↦ elim apart [
      | inl less ↦ grows_within (omega (arith, less))
      | inr more ↦ omega (arith, first_of_none old more, first_of_none new (omega (arith, more, same)), same)
    ]
  ]

-- one slot is newly learnt
one_learnt : (learnt : ℕ → Option Command) (s : ℕ) (c : Command) (t : ℕ) → IsSome (learnt t) → IsSome (put learnt s (Some c) t)
one_learnt learnt s c t is = put_cases (λ o. IsSome o) learnt s (Some c) t (λ _. refl) (λ _. is)

with_one : (old new : Learning) (s : ℕ) (c : Command) → new ≡ with_learnt old s c → prefix old ≤ prefix new
with_one old new s c same =
    grows old new (ap (λ (l : Learning). l.first) same)
    (λ t is. subst (λ (l : Learning). IsSome (l.learnt t)) (sym same) (one_learnt old.learnt s c t is))

with_none : (old new : Learning) → new.first ≡ old.first → new.learnt ≡ old.learnt → prefix old ≤ prefix new
with_none old new first learnt =
    grows old new first (λ t is. subst (λ (g : ℕ → Option Command). IsSome (g t)) (sym learnt) is)

pub vote_grows : (old new : Learning) (from : ℕ) (v : Vote Command) (learned : Option Learned) → HearsVote old from v learned new
    → prefix old ≤ prefix new
vote_grows old new from v learned (ignores never none same) =
    with_none old new (ap (λ (l : Learning). l.first) same) (ap (λ (l : Learning). l.learnt) same)
vote_grows old new from v learned (hears counts few none same) =
    with_none old new (ap (λ (l : Learning). l.first) same) (ap (λ (l : Learning). l.learnt) same)
vote_grows old new from v learned (learns counts decided is same) = with_one old new v.slot v.command same

pub decided_grows : (old new : Learning) (s : ℕ) (c : Command) (learned : Option Learned) → HearsDecided old s c learned new
    → prefix old ≤ prefix new
decided_grows old new s c learned (ignores_decided never none same) =
    with_none old new (ap (λ (l : Learning). l.first) same) (ap (λ (l : Learning). l.learnt) same)
decided_grows old new s c learned (learns_decided open' is same) = with_one old new s c same

-- ---- where slots are passed over
-- the prefix is not before the first slot
from_first : (l : Learning) → l.first ≤ prefix l
from_first l = elim (same_or_not l.first SLOTS) [
  | inl e ↦ (prefix_is l (omega (arith, e))).learnt_to.from
  | inr apart ↦ elim apart [
    | inl less ↦ (prefix_is l (omega (arith, less))).learnt_to.from
    | inr more ↦ omega (arith, first_of_none l more)
  ]
]

abbrev from_there : Learning → ℕ → Learning
from_there l position = record l { first = position }

module _ (l : Learning) (position : ℕ) where
  skip_cases : (P : Learning → Type 0) → (prefix l < position → P (from_there l position)) → (position ≤ prefix l → P l)
      → P (skipped l position)
  skip_cases P passes stays = elim (cases_Bool (ltb (prefix l) position)) [
    | inl e ↦ rw e (passes (grind (arith, nat_tests)))
    | inr e ↦ rw e (stays (grind (arith, nat_tests)))
  ]

  pub skipped_grows : prefix l ≤ prefix (skipped l position)
  skipped_grows = skip_cases (λ k. prefix l ≤ prefix k)
      (λ above. omega (arith, above, from_first (from_there l position))) (λ _. omega arith)

  pub skipped_reaches : position ≤ SLOTS → position ≤ prefix (skipped l position)
  skipped_reaches _ = skip_cases (λ k. position ≤ prefix k) (λ _. from_first (from_there l position)) (λ reached. reached)

  pub skipped_first : prefix l < position → (skipped l position).first ≡ position
  skipped_first above = skip_cases (λ k. k.first ≡ position) (λ _. refl) (λ reached. absurd (omega (arith, above, reached)))

  pub skipped_stands : (m : Volatile Command) → LearnerStands l m → LearnerStands (skipped l position) m
  skipped_stands m s = skip_cases (λ k. LearnerStands k m) (λ _. record { learnt = s.learnt; heard = s.heard }) (λ _. s)

  pub skipped_on : prefix l < position → skipped l position ≡ from_there l position
  skipped_on above = skip_cases (λ k. k ≡ from_there l position) (λ _. refl) (λ reached. absurd (omega (arith, above, reached)))

  pub skipped_none : position ≤ prefix l → skipped l position ≡ l
  skipped_none reached = skip_cases (λ k. k ≡ l) (λ above. absurd (omega (arith, above, reached))) (λ _. refl)
