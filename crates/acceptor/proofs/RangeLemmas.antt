-- The votes from a slot on, as they are found one after the other, and what a promise may tell of them.
use Rattle.std.proofs.Common.{◌≡◌, ℕ, zero, suc, ◌+◌, ◌<◌, ◌≤◌, ◌⊎◌, ◌↔◌, List, [], ◌∷◌, ◌++◌, length, Contains, Option, Some, None}
use Rattle.std.proofs.Common.{IsSome, IfSome, MatchOption, option_map, inl, inr, refl, sym, ap, ◌∙◌, subst, arith}
use Rattle.std.specs.Prelude.{⊤}
use Rattle.std.proofs.lemmas.List.{length-append}
use Rattle.std.proofs.lemmas.List.Elements.{Contains-append_left, Contains-push, Contains-push_cases}
use Rattle.synod.specs.Ballots.{rank}
use Rattle.synod.specs.declared.ballot.Ballot.{Ballot}
use Rattle.synod.specs.declared.vote.Vote.{Vote}
use Rattle.sessions.specs.declared.command.Command.{Command}
use Rattle.wire.specs.Promises.{AreTold}
use Rattle.slot_table.specs.Values.{value_at, IsEmptyFrom, IsFirstFrom}
use Rattle.slot_table.specs.declared.slot_table.SlotTable.{SlotTable}
use Rattle.slot_table.proofs.ValueLemmas.{tells}
use Rattle.acceptor.specs.AcceptedValues.{vote_at}
use Rattle.acceptor.specs.Ranges.{IsPromiseFrom, StandsFrom}
use Rattle.acceptor.specs.declared.accepted_value.AcceptedValue.{AcceptedValue}

-- ---- lists
in_cons : {X : Type 0} (x z : X) (xs : List X) → Contains (x ∷ xs) z → (x ≡ z) ⊎ Contains xs z
in_cons x z xs (zero, l, e) = inl e
in_cons x z xs (suc k, l, e) = inr (k, omega (arith, l), e)

in_head : {X : Type 0} (x : X) (xs : List X) → Contains (x ∷ xs) x
in_head x xs = (0, omega arith, refl)

in_tail : {X : Type 0} (x z : X) (xs : List X) → Contains xs z → Contains (x ∷ xs) z
in_tail x z xs c = (suc c.0, omega (arith, c.1), c.2)

-- ---- slots that ascend
-- each vote is of a slot above those before it, and none below the first
abbrev pub Ascends : ℕ → List (Vote Command) → Type 0
Ascends from [] = ⊤
Ascends from (v ∷ vs) = (from ≤ v.slot) × Ascends (v.slot + 1) vs

-- a vote of a slot above all of them goes behind them
ascends_push : (from : ℕ) (told : List (Vote Command)) (v : Vote Command) → Ascends from told → from ≤ v.slot
    → ((w : Vote Command) → Contains told w → w.slot < v.slot) → Ascends from (told ++ v ∷ [])
ascends_push from [] v asc le low = (le, tt)
ascends_push from (u ∷ told) v asc le low = (
  asc.0,
  ascends_push (u.slot + 1) told v asc.1 (let here = low u (in_head u told) in omega arith) (λ w c. low w (in_tail u w told c)),
)

-- none that a promise may tell is below its first slot
pub told_from : (b : Ballot) (from last : ℕ) (vs : List (Vote Command)) → AreTold b from last vs → (w : Vote Command) → Contains vs w
    → from ≤ w.slot
told_from b from last [] told w c = absurd (omega (arith, c.1))
told_from b from last (v ∷ vs) told w c = elim (in_cons v w vs c) [
  | inl e ↦ subst (λ (x : Vote Command). from ≤ x.slot) e told.0.not_before
  | inr t ↦ (let rest = told_from b (v.slot + 1) last vs told.1 w t in let low = told.0.not_before in omega arith)
]

-- a promise may tell them
told_in_order : (b : Ballot) (from last : ℕ) (told : List (Vote Command)) → Ascends from told
    → ((w : Vote Command) → Contains told w → (w.slot ≤ last) × (rank w.ballot ≤ rank b)) → AreTold b from last told
told_in_order b from last [] asc fits = tt
told_in_order b from last (v ∷ told) asc fits =
    let here = fits v (in_head v told) in (
      record { not_before = asc.0; not_after = here.0; not_above = here.1 },
      told_in_order b (v.slot + 1) last told asc.1 (λ w c. fits w (in_tail v w told c)),
    )

-- ---- what was told
-- these are the votes at the slots from one up to another, the other left out; a promise has room for them
pub record IsToldTo (vote : ℕ → Option (Vote Command)) (first end : ℕ) (told : List (Vote Command)) : Type 0 where
  pub from : first ≤ end
  pub stand : (v : Vote Command) → Contains told v → (vote v.slot ≡ Some v) × (v.slot < end)
  pub all : (s : ℕ) (v : Vote Command) → first ≤ s → s < end → vote s ≡ Some v → Contains told v
  pub ascend : Ascends first told
  pub few : length told ≤ 4

-- up to where the votes are told, where this is the next slot to look at
abbrev pub end_of : Option ℕ → ℕ
end_of None = 65536
end_of (Some next) = next

module _ (votes : SlotTable AcceptedValue) (first : ℕ) where
  abbrev pub held : ℕ → Option (Vote Command)
  held s = option_map (vote_at s) (value_at votes s)

  not_held : (s : ℕ) (v : Vote Command) → value_at votes s ≡ None → held s ≡ Some v → ⊥
  not_held s v none some = let bad : None ≡ Some v = sym (ap (option_map (vote_at s)) none) ∙ some in absurd cc

  pub none_told : IsToldTo held first first []
  none_told = record {
    from = omega arith;
    stand = λ v c. absurd (omega (arith, c.1));
    all = λ s v from to e. absurd (omega (arith, from, to));
    ascend = tt;
    few = omega arith;
  }

  -- the first vote that is found joins those that were told
  pub one_told : (next slot : ℕ) (cast : AcceptedValue) (told : List (Vote Command)) → IsToldTo held first next told
      → IsFirstFrom (value_at votes) next slot cast → length told < 4 → IsToldTo held first (slot + 1) (told ++ vote_at slot cast ∷ [])
  one_told next slot cast told is found room =
      let from = is.from in
      let behind = found.from in
      let v : Vote Command = vote_at slot cast in
      let stands : held slot ≡ Some v = ap (option_map (vote_at slot)) found.stands in
      record {
        from = omega arith;
        stand = λ w c. elim (Contains-push_cases told v w c) [
          | inl old ↦ ((is.stand w old).0, (let low = (is.stand w old).1 in omega arith))
          | inr new ↦ subst (λ (x : Vote Command). (held x.slot ≡ Some x) × (x.slot < slot + 1)) new (stands, omega arith)
        ];
        all = λ s w le to e. elim (tells s next) [
          | inl low ↦ Contains-append_left told (v ∷ []) w (is.all s w le low.1 e)
          | inr high ↦ elim (tells s slot) [
            | inl before ↦ absurd (not_held s w (found.none_before s high.1 before.1) e)
            | inr there ↦ (let above = there.1 in
                let at : s ≡ slot = omega arith in
                let same : Some v ≡ Some w = sym stands ∙ subst (λ i. held i ≡ Some w) at e in
                let one : v ≡ w = cc in
                subst (λ (x : Vote Command). Contains (told ++ v ∷ []) x) one (Contains-push told v))
          ]
        ];
        ascend = ascends_push first told v is.ascend (omega arith) (λ w c. let low = (is.stand w c).1 in omega arith);
        few = subst (λ n. n ≤ 4) (sym (length-append told (v ∷ []))) (omega (arith, room));
      }

  -- there is a next slot to look at
  pub so_far : (o : Option ℕ) (next : ℕ) (told : List (Vote Command)) → o ≡ Some next → IsToldTo held first (end_of o) told
      → IsToldTo held first next told
  so_far o next told some is = subst (λ x. IsToldTo held first (end_of x) told) some is

  -- there is no slot left to look at
  pub all_looked_at : (o : Option ℕ) (told : List (Vote Command)) → o ≡ None → IsToldTo held first (end_of o) told
      → IsToldTo held first 65536 told
  all_looked_at o told none is = subst (λ x. IsToldTo held first (end_of x) told) none is

  -- there is none from a slot on
  pub nothing_more : (next : ℕ) (told : List (Vote Command)) → IsToldTo held first next told → IsEmptyFrom (value_at votes) next
      → next < 65536 → IsToldTo held first 65536 told
  nothing_more next told is none le =
      let from = is.from in
      record {
        from = omega arith;
        stand = λ v c. ((is.stand v c).0, (let low = (is.stand v c).1 in omega arith));
        all = λ s v le to e. elim (tells s next) [
          | inl low ↦ is.all s v le low.1 e
          | inr high ↦ absurd (not_held s v (none s high.1) e)
        ];
        ascend = is.ascend;
        few = is.few;
      }

  -- where the next look begins
  pub told_to_next : (told : List (Vote Command)) (slot n : ℕ) (o : Option ℕ) → n ≡ slot → slot < 65536 → IsSome o ↔ (n + 1 < 65536)
      → IfSome o (λ s. s ≡ n + 1) → IsToldTo held first (slot + 1) told → IsToldTo held first (end_of o) told
  told_to_next told slot n None is lt valid value listed =
      elim (tells (n + 1) 65536) [
        | inl more ↦ absurd (let bad : IsSome {T = ℕ} None = valid.1 more.1 in cc)
        | inr end ↦ (let last = end.1 in subst (λ m. IsToldTo held first m told) (omega arith) listed)
      ]
  told_to_next told slot n (Some s) is lt valid value listed =
      subst (λ m. IsToldTo held first m told) (omega (arith, value, is)) listed

  -- a vote that is found stands at the first slot, or at a later one
  pub found_from : (next slot : ℕ) (cast : AcceptedValue) (told : List (Vote Command)) → IsToldTo held first next told
      → IsFirstFrom (value_at votes) next slot cast → StandsFrom held first
  found_from next slot cast told is found = record {
    slot = slot;
    from = (let from = is.from in let behind = found.from in omega arith);
    stands = subst IsSome (sym (ap (option_map (vote_at slot)) found.stands)) refl;
  }

  -- a slot before which votes were told has one before it
  some_told : (next : ℕ) (told : List (Vote Command)) → IsToldTo held first next told → length told ≡ 4 → first < next
  some_told next [] is four = absurd (omega (arith, four))
  some_told next (v ∷ told) is four =
      let low = is.ascend.0 in let below = (is.stand v (in_head v told)).1 in omega arith

  pub has_one_before : (o : Option ℕ) (next slot : ℕ) (cast : AcceptedValue) (told : List (Vote Command)) → IsToldTo held first next told
      → IsFirstFrom (value_at votes) next slot cast → length told ≡ 4 → MatchOption o (slot ≡ 0) (λ s. s + 1 ≡ slot) → IsSome o
  has_one_before None next slot cast told is found four none =
      let some = some_told next told is four in let behind = found.from in absurd (omega (arith, none))
  has_one_before (Some s) next slot cast told is found four before = refl

  -- no vote that is held is above the ballot
  abbrev pub IsUpTo : Ballot → Type 0
  IsUpTo b = (s : ℕ) (w : Vote Command) → held s ≡ Some w → rank w.ballot ≤ rank b

  -- the promise that has no room for the next vote
  pub full_promise : (b : Ballot) (next slot last : ℕ) (cast : AcceptedValue) (told : List (Vote Command)) → IsToldTo held first next told
      → IsFirstFrom (value_at votes) next slot cast → length told ≡ 4 → last + 1 ≡ slot → slot < 65536 → IsUpTo b
      → IsPromiseFrom held b first (record { ballot = b; first = first; last = last; entries = told })
  full_promise b next slot last cast told is found four at lt up =
      let behind = found.from in
      let some = some_told next told is four in
      record {
        of_the_ballot = refl;
        from = refl;
        may_be_said = record {
          in_order = omega arith;
          few = omega (arith, four);
          told = told_in_order b first last told is.ascend
              (λ w c. ((let low = (is.stand w c).1 in omega arith), up w.slot w (is.stand w c).0));
        };
        tells = record {
          stand = λ v c. (is.stand v c).0;
          all = λ s v from to e. elim (tells s next) [
            | inl low ↦ is.all s v from low.1 e
            | inr high ↦ absurd (not_held s v (found.none_before s high.1 (omega arith)) e)
          ];
        };
        reaches = inr (
          omega arith,
          four,
          subst (λ s. IsSome (held s)) (sym at) (subst IsSome (sym (ap (option_map (vote_at slot)) found.stands)) refl),
        );
      }

  -- the promise that reaches to the log's last slot
  pub last_promise : (b : Ballot) (last : ℕ) (told : List (Vote Command)) → IsToldTo held first 65536 told → last + 1 ≡ 65536
      → first < 65536 → IsUpTo b → IsPromiseFrom held b first (record { ballot = b; first = first; last = last; entries = told })
  last_promise b last told is at lt up = record {
    of_the_ballot = refl;
    from = refl;
    may_be_said = record {
      in_order = omega arith;
      few = is.few;
      told = told_in_order b first last told is.ascend
          (λ w c. ((let low = (is.stand w c).1 in omega arith), up w.slot w (is.stand w c).0));
    };
    tells = record { stand = λ v c. (is.stand v c).0; all = λ s v from to e. is.all s v from (omega arith) e };
    reaches = inl at;
  }
