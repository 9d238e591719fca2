-- What records in memory hold, and how their keys are listed.
use Rattle.std.proofs.Common.{◌≡◌, ℕ, suc, ◌+◌, ◌<◌, ◌≤◌, ◌↔◌, List, [], ◌∷◌, ◌++◌, Option, Some, None}
use Rattle.std.proofs.Common.{IsSome, Contains, Vec, Global, refl, sym, ap, subst, ◌∙◌, eqb, is_some, IfSome}
use Rattle.std.proofs.Common.{zero, length, slice_get, slice_set, slice_index_or, if◌then◌else◌}
use Rattle.std.proofs.Common.{MatchOption, option_copied, Bor, true, false, inl, inr, arith, option_map}
use Rattle.std.specs.List.{AllByRecursion}
use Rattle.std.specs.List.Sorted.{IsStrictlySortedBy}
use Rattle.std.specs.declared.cmp.Ordering.TheVariants.{Less}
use Rattle.std.proofs.lemmas.Bool.{eq-eqb}
use Rattle.std.proofs.lemmas.Bool.Decides.{eqb_tells}
use Rattle.std.proofs.lemmas.List.Elements.{Contains-push, Contains-push_cases, Contains-append_left}
use Rattle.synod.specs.Records.{put}
use Rattle.slot_table.specs.Values.{place_or, value_at, without_below, IsEmptyFrom, IsFirstFrom}
use Rattle.slot_table.specs.declared.slot_table.SlotTable.{SlotTable}
use Rattle.slot_table.proofs.ValueLemmas.{less, tells, written_of, unwritten_of}
use Rattle.stable.specs.Listing.{ListsTo}
use Rattle.stable.specs.Memory.{stored}
use Rattle.stable.specs.Records.{Records, rank, slot_in, key_cmp, KeysAscend, no_records, with_record, without_votes_below}
use Rattle.stable.specs.declared.key.Key.{Key}
use Rattle.stable.specs.declared.key.Key.TheVariants.{Checkpoint, Promise, Round, Vote}
use Rattle.stable.specs.declared.memory.MemStable.{MemStable}
use Rattle.stable.proofs.KeyLemmas.{same_rank}

-- ---- what is held
pub none_stored : (votes : SlotTable (Vec ℕ Global)) → value_at votes ≡ (λ _. None)
    → stored (record { fixed = None ∷ None ∷ None ∷ []; votes = votes }) ≡ no_records
none_stored votes none = λ k q. at q k
  where
    at : (q : Key) → stored (record { fixed = None ∷ None ∷ None ∷ []; votes = votes }) q ≡ None
    at Checkpoint = refl
    at Promise = refl
    at Round = refl
    at (Vote s) = ap (λ (f : ℕ → Option (Vec ℕ Global)). option_map (λ v. v.items) (f s)) none

-- nothing has changed of the votes
pub same_stored : (a : MemStable) (votes : SlotTable (Vec ℕ Global)) → value_at votes ≡ value_at a.votes
    → stored (record { fixed = a.fixed; votes = votes }) ≡ stored a
same_stored a votes same = λ k q. at q k
  where
    at : (q : Key) → stored (record { fixed = a.fixed; votes = votes }) q ≡ stored a q
    at Checkpoint = refl
    at Promise = refl
    at Round = refl
    at (Vote s) = ap (λ (f : ℕ → Option (Vec ℕ Global)). option_map (λ v. v.items) (f s)) same

apart : (m n : ℕ) → (m ≡ n → ⊥) → eqb m n ≡ false
apart m n other = elim (eqb_tells m n) [
  | inl same ↦ absurd (other same.1)
  | inr told ↦ told.0
]

some_not_none : {X : Type 0} (o : Option X) → IsSome o → o ≡ None → ⊥
some_not_none (Some x) h e = absurd cc
some_not_none None h e = absurd cc

-- a vote was put
pub vote_stored : (a : MemStable) (votes : SlotTable (Vec ℕ Global)) (slot : ℕ) (copy : Vec ℕ Global) (key : Key) (bytes : List ℕ)
    → key ≡ Vote slot → copy.items ≡ bytes → value_at votes ≡ put (value_at a.votes) slot (Some copy)
    → stored (record { fixed = a.fixed; votes = votes }) ≡ with_record (stored a) key bytes
vote_stored a votes slot copy key bytes is copied changed = λ k q. (at q ∙ ap (λ (j : Key). with_record (stored a) j bytes q) (sym is)) k
  where
    at : (q : Key) → stored (record { fixed = a.fixed; votes = votes }) q ≡ with_record (stored a) (Vote slot) bytes q
    at Checkpoint = rw (apart 0 (slot + 3) (λ e. omega (arith, e))) refl
    at Promise = rw (apart 1 (slot + 3) (λ e. omega (arith, e))) refl
    at Round = rw (apart 2 (slot + 3) (λ e. omega (arith, e))) refl
    at (Vote s) = ap (λ (f : ℕ → Option (Vec ℕ Global)). option_map (λ v. v.items) (f s)) changed ∙ elim (eqb_tells s slot) [
      | inl same ↦ rw (same.0, eq-eqb (s + 3) (slot + 3) (ap (λ n. n + 3) same.1), copied) refl
      | inr other ↦ rw (other.0, apart (s + 3) (slot + 3) (λ e. other.1 (omega (arith, e)))) refl
    ]

-- where no vote stands at the slot, its key holds no record
pub no_vote_stored : (a : MemStable) (key : Key) (slot : ℕ) → key ≡ Vote slot → value_at a.votes slot ≡ None → IsSome (stored a key) → ⊥
no_vote_stored a key slot is none held = some_not_none (stored a key) held
    (ap (stored a) is ∙ ap (option_map (λ v. v.items)) none)

-- a vote's key is none of the fixed ones
pub no_fixed_key : (key : Key) (slot : ℕ) → key ≡ Vote slot → slot_in key ≡ None → ⊥
no_fixed_key key slot is none = let bad : Some slot ≡ None = sym (ap slot_in is) ∙ none in absurd cc

fixed_rank : (key : Key) → ((slot : ℕ) → key ≡ Vote slot → ⊥) → rank key < 3
fixed_rank Checkpoint no_vote = omega arith
fixed_rank Promise no_vote = omega arith
fixed_rank Round no_vote = omega arith
fixed_rank (Vote s) no_vote = absurd (no_vote s refl)

-- a record of a fixed key was put
pub fixed_stored : (a : MemStable) (fixed : List (Option (Vec ℕ Global))) (key : Key) (copy : Vec ℕ Global)
    → ((slot : ℕ) → key ≡ Vote slot → ⊥) → length a.fixed ≡ 3 → fixed ≡ slice_set a.fixed (rank key) (Some copy)
    → stored (record { fixed = fixed; votes = a.votes }) ≡ with_record (stored a) key copy.items
fixed_stored a fixed key copy no_vote three set = λ k q. (at q) k
  where
    low : rank key < 3
    low = fixed_rank key no_vote

    place : (n : ℕ) → option_map (λ v. v.items) (place_or (slice_get fixed n) None)
        ≡ (if eqb n (rank key) then Some copy.items else option_map (λ v. v.items) (place_or (slice_get a.fixed n) None))
    place n = elim (eqb_tells n (rank key)) [
      | inl same ↦ rw (set, same.0, same.1, written_of a.fixed (rank key) (Some copy) (omega (arith, low, three))) refl
      | inr other ↦ rw (set, other.0, unwritten_of a.fixed (rank key) n (Some copy) other.1) refl
    ]

    at : (q : Key) → stored (record { fixed = fixed; votes = a.votes }) q ≡ with_record (stored a) key copy.items q
    at Checkpoint = place 0
    at Promise = place 1
    at Round = place 2
    at (Vote s) = rw (apart (s + 3) (rank key) (λ e. omega (arith, e, low))) refl

-- votes below a slot are gone
pub votes_trimmed : (a : MemStable) (votes : SlotTable (Vec ℕ Global)) (below : ℕ) → value_at votes ≡ without_below (value_at a.votes) below
    → stored (record { fixed = a.fixed; votes = votes }) ≡ without_votes_below (stored a) below
votes_trimmed a votes below changed = λ k q. (at q) k
  where
    at : (q : Key) → stored (record { fixed = a.fixed; votes = votes }) q ≡ without_votes_below (stored a) below q
    at Checkpoint = refl
    at Promise = refl
    at Round = refl
    at (Vote s) = ap (λ (f : ℕ → Option (Vec ℕ Global)). option_map (λ v. v.items) (f s)) changed ∙ elim (tells s below) [
      | inl low ↦ rw low.0 refl
      | inr high ↦ rw high.0 refl
    ]

-- ---- keys in order
all_push : (P : Key → Type 0) (keys : List Key) (k : Key) → AllByRecursion P keys → P k → AllByRecursion P (keys ++ k ∷ [])
all_push P [] k all here = (here, tt)
all_push P (j ∷ keys) k all here = (all.0, all_push P keys k all.1 here)

in_tail : (j : Key) (keys : List Key) (q : Key) → Contains keys q → Contains (j ∷ keys) q
in_tail j keys q c = (suc c.0, omega (arith, c.1), c.2)

-- a key above those that ascend goes behind them
ascending_push : (keys : List Key) (k : Key) → KeysAscend keys → ((q : Key) → Contains keys q → rank q < rank k)
    → KeysAscend (keys ++ k ∷ [])
unfolding IsStrictlySortedBy
ascending_push [] k sorted below = (tt, tt)
ascending_push (j ∷ keys) k sorted below = (
  all_push (λ y. key_cmp j y ≡ Less) keys k sorted.0 (less (rank j) (rank k) (below j (0, omega arith, refl))),
  ascending_push keys k sorted.1 (λ q c. below q (in_tail j keys q c)),
)

module _ (records : Records) (end : ℕ) (keys : List Key) (listed : ListsTo records end keys) where
  -- no key of these places holds a record
  pub none_more : (more : ℕ) → end ≤ more → ((q : Key) → end ≤ rank q → rank q < more → records q ≡ None) → ListsTo records more keys
  none_more more le none = record {
    told = λ q. (
      λ c. (let low = ((listed.told q).0 c).0 in omega arith, ((listed.told q).0 c).1),
      λ h. elim (tells (rank q) end) [
        | inl low ↦ (listed.told q).1 (low.1, h.1)
        | inr high ↦ absurd (let there = h.1 in let no_ = none q high.1 h.0 in some_not_none (records q) there no_)
      ],
    );
    ascending = listed.ascending;
  }

  -- a key that holds one, and none before it from there on does
  pub one_more : (k : Key) → end ≤ rank k → IsSome (records k) → ((q : Key) → end ≤ rank q → rank q < rank k → records q ≡ None)
      → ListsTo records (rank k + 1) (keys ++ k ∷ [])
  one_more k le some none = record {
    told = λ q. (
      λ c. elim (Contains-push_cases keys k q c) [
        | inl old ↦ (let low = ((listed.told q).0 old).0 in omega arith, ((listed.told q).0 old).1)
        | inr new ↦ subst (λ (j : Key). (rank j < rank k + 1) × IsSome (records j)) new (omega arith, some)
      ],
      λ h. elim (tells (rank q) end) [
        | inl low ↦ Contains-append_left keys (k ∷ []) q ((listed.told q).1 (low.1, h.1))
        | inr high ↦ elim (tells (rank q) (rank k)) [
          | inl low ↦ absurd (some_not_none (records q) h.1 (none q high.1 low.1))
          | inr above ↦ (let at = h.0 in let from = above.1 in
              subst (λ (j : Key). Contains (keys ++ k ∷ []) j) (same_rank k q (omega arith)) (Contains-push keys k))
        ]
      ],
    );
    ascending = ascending_push keys k listed.ascending (λ q c. let low = ((listed.told q).0 c).0 in omega arith);
  }

  -- no key from there on holds a record, so all are listed
  pub all_listed : ((q : Key) → end ≤ rank q → records q ≡ None) → (q : Key) → Contains keys q ↔ IsSome (records q)
  all_listed none q = (
    λ c. ((listed.told q).0 c).1,
    λ h. elim (tells (rank q) end) [
      | inl low ↦ (listed.told q).1 (low.1, h)
      | inr high ↦ absurd (some_not_none (records q) h (none q high.1))
    ],
  )

pub none_listed : (records : Records) → ListsTo records 0 []
unfolding IsStrictlySortedBy
none_listed records = record { told = λ q. (λ c. absurd (omega (arith, c.1)), λ h. absurd (omega (arith, h.0))); ascending = tt }

-- what a borrowed record holds is held
pub found_some : (o : Option (Bor (Vec ℕ Global))) (held : Option (List ℕ)) → option_map (λ v. v.items) (option_copied o) ≡ held
    → is_some o ≡ true → IsSome held
found_some None held is yes_ = absurd (let bad : false ≡ true = yes_ in cc)
found_some (Some x) held is yes_ = subst IsSome is refl

pub found_none : (o : Option (Bor (Vec ℕ Global))) (held : Option (List ℕ)) → option_map (λ v. v.items) (option_copied o) ≡ held
    → is_some o ≡ false → held ≡ None
found_none None held is no_ = sym is
found_none (Some x) held is no_ = absurd (let bad : true ≡ false = no_ in cc)

-- the key's own place
pub none_here : (records : Records) (k : Key) → records k ≡ None → (q : Key) → rank k ≤ rank q → rank q < rank k + 1 → records q ≡ None
none_here records k none q from to = subst (λ (j : Key). records j ≡ None) (same_rank k q (omega arith)) none

pub between_none : (records : Records) (n : ℕ) (q : Key) → n ≤ rank q → rank q < n → records q ≡ None
between_none records n q from to = absurd (omega (arith, from, to))

-- ---- the keys of votes
module _ (s : MemStable) (first : ℕ) where
  pub votes_before : (slot : ℕ) (bytes : Vec ℕ Global) → IsFirstFrom (value_at s.votes) first slot bytes
      → (q : Key) → first + 3 ≤ rank q → rank q < slot + 3 → stored s q ≡ None
  votes_before slot bytes is Checkpoint from to = absurd (omega (arith, from))
  votes_before slot bytes is Promise from to = absurd (omega (arith, from))
  votes_before slot bytes is Round from to = absurd (omega (arith, from))
  votes_before slot bytes is (Vote t) from to = ap (option_map (λ v. v.items)) (is.none_before t (omega (arith, from)) (omega (arith, to)))

  pub no_votes : IsEmptyFrom (value_at s.votes) first → (q : Key) → first + 3 ≤ rank q → stored s q ≡ None
  no_votes is Checkpoint from = absurd (omega (arith, from))
  no_votes is Promise from = absurd (omega (arith, from))
  no_votes is Round from = absurd (omega (arith, from))
  no_votes is (Vote t) from = ap (option_map (λ v. v.items)) (is t (omega (arith, from)))

-- where the next look begins, and what is listed by then
pub next_place : (records : Records) (keys : List Key) (slot n : ℕ) (o : Option ℕ) → n ≡ slot → slot < 65536
    → IsSome o ↔ (n + 1 < 65536) → IfSome o (λ s. s ≡ n + 1) → ListsTo records (slot + 3 + 1) keys
    → MatchOption o (ListsTo records 65539 keys) (λ first. ListsTo records (first + 3) keys)
next_place records keys slot n None is lt valid value listed =
    elim (tells (n + 1) 65536) [
      | inl more ↦ absurd (let bad : IsSome {T = ℕ} None = valid.1 more.1 in cc)
      | inr end ↦ (let last = end.1 in subst (λ m. ListsTo records m keys) (omega arith) listed)
    ]
next_place records keys slot n (Some s) is lt valid value listed = subst (λ m. ListsTo records m keys) (omega (arith, value, is)) listed

-- a vote that is found first joins the list
pub vote_listed : (s : MemStable) (first slot : ℕ) (bytes : Vec ℕ Global) (keys : List Key) → ListsTo (stored s) (first + 3) keys
    → IsFirstFrom (value_at s.votes) first slot bytes → ListsTo (stored s) (slot + 3 + 1) (keys ++ Vote slot ∷ [])
vote_listed s first slot bytes keys listed is =
    let from = is.from in
    let some : IsSome (stored s (Vote slot)) = rw is.stands refl in
    one_more (stored s) (first + 3) keys listed (Vote slot) (omega arith) some (votes_before s first slot bytes is)
