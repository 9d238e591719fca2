-- Keys, their spelling, and what the rows have for them.
use Rattle.std.proofs.Common.{◌≡◌, ◌≢◌, ◌⊎◌, ◌↔◌, inl, inr, ℕ, suc, ◌+◌, ◌*◌, ◌/◌, ◌%◌, ◌<◌, ◌≤◌, ◌^◌, ◌==◌, ◌&&◌, nat_lt, min, arith, List, [], ◌∷◌, ◌++◌, map}
use Rattle.std.proofs.Common.{drop, length, Bool, true, false, if◌then◌else◌, Option, Some, None, IsSome, refl, sym, ap, subst, ◌∙◌}
use Rattle.std.proofs.Common.{true≢false, Contains}
use Rattle.std.specs.Int.{w32, to_be_bytes, from_be_bytes}
use Rattle.std.specs.List.{AllByRecursion}
use Rattle.std.specs.Prelude.{slice_index_or}
use Rattle.std.specs.List.Sorted.{IsStrictlySortedBy}
use Rattle.std.specs.Ordering.{is_ge, is_lt, nat_cmp, ordering_reverse}
use Rattle.std.specs.declared.cmp.Ordering.{Ordering}
use Rattle.std.proofs.lemmas.List.{get_or-map, length-map, map-append}
use Rattle.sqlite_value.proofs.OrderLemmas.{value_cmp-Blob}
use Rattle.std.specs.Cmp.Lexicographic.{slice_cmp}
use Rattle.std.specs.declared.cmp.Ordering.TheVariants.{Less, Equal, Greater}
use Rattle.std.proofs.lemmas.Bool.{cases_Bool, ltb-true, ltb-false, eqb-true, eq-eqb}
use Rattle.std.proofs.lemmas.Cmp.{ranked, nat_list_cmp_total}
use Rattle.std.specs.Cmp.{nat_cmp_is}
use Rattle.std.proofs.lemmas.Map.Lookups.{exact_unsigned, exact_bytes}
use Rattle.sqlite_value.proofs.KeyLemmas.{then_below}
use Rattle.std.proofs.lemmas.Nat.{from_be_bytes-to_be_bytes_4}
use Rattle.sqlite_value.specs.declared.value.Value.{Value}
use Rattle.sqlite_value.specs.declared.value.Value.TheVariants.{Blob}
use Rattle.sqlite_value.specs.Order.{Row, column, bytes, value_cmp}
use Rattle.sqlite_rules.specs.Lists.{Has}
use Rattle.sqlite_trees.specs.Tree.{IsAscending}
use Rattle.sqlite_trees.proofs.ListLemmas.{all_weaker, all-append, map-map, ascending-map, ascending_weaker, ascending_from_map}
use Rattle.stable.specs.Records.{with_record, without_votes_below, rank, key_cmp}
use Rattle.stable.specs.declared.key.Key.{Key}
use Rattle.stable.specs.declared.key.Key.TheVariants.{Checkpoint, Promise, Round, Vote}
use Rattle.stable.proofs.KeyLemmas.{same_rank}
use Rattle.sqlstable.specs.Rows.{has_key, value_at, HasOwnKeys, PutsRow, TrimsRows, goes, is_between, is_bytes, Differ}
use Rattle.sqlstable.specs.Lists.{ListsKeys, key_row}
use Rattle.sqlstable.specs.Keys.{spelled, vote_key, is_valid, records_in, HasStray, AreKeysOf}
use Rattle.sqlite_rules.proofs.ListLemmas.{all_has, has_contained, contains_had}
use Rattle.sqlstable.proofs.Rows.{blob_is, is_bytes-self, value_has, value_none, value_same, value_some}
use Rattle.sqlstable.proofs.Selects.{has_mapped, mapped_has}
use Rattle.sqlstable.proofs.OnePut.{reads_put, reads_others}

vote_apart : (m n : ℕ) → m < 65536 → n < 65536 → to_be_bytes w32 m ≡ to_be_bytes w32 n → m ≡ n
vote_apart m n p q e = sym (from_be_bytes-to_be_bytes_4 m (omega (arith, p))) ∙ ap (from_be_bytes w32) e
    ∙ from_be_bytes-to_be_bytes_4 n (omega (arith, q))

first : {xs ys : List ℕ} → xs ≡ ys → slice_index_or xs 0 0 ≡ slice_index_or ys 0 0
first e = ap (λ (l : List ℕ). slice_index_or l 0 0) e

pub spelled_apart : (a b : Key) → is_valid a ≡ true → is_valid b ≡ true → spelled a ≡ spelled b → a ≡ b
spelled_apart Checkpoint Checkpoint p q e = refl
spelled_apart Checkpoint Promise p q e = absurd (let h : 67 ≡ 80 = first e in omega (arith, h))
spelled_apart Checkpoint Round p q e = absurd (let h : 67 ≡ 82 = first e in omega (arith, h))
spelled_apart Checkpoint (Vote t) p q e = absurd (let h : 67 ≡ 86 = first e in omega (arith, h))
spelled_apart Promise Checkpoint p q e = absurd (let h : 80 ≡ 67 = first e in omega (arith, h))
spelled_apart Promise Promise p q e = refl
spelled_apart Promise Round p q e = absurd (let h : 80 ≡ 82 = first e in omega (arith, h))
spelled_apart Promise (Vote t) p q e = absurd (let h : 80 ≡ 86 = first e in omega (arith, h))
spelled_apart Round Checkpoint p q e = absurd (let h : 82 ≡ 67 = first e in omega (arith, h))
spelled_apart Round Promise p q e = absurd (let h : 82 ≡ 80 = first e in omega (arith, h))
spelled_apart Round Round p q e = refl
spelled_apart Round (Vote t) p q e = absurd (let h : 82 ≡ 86 = first e in omega (arith, h))
spelled_apart (Vote s) Checkpoint p q e = absurd (let h : 86 ≡ 67 = first e in omega (arith, h))
spelled_apart (Vote s) Promise p q e = absurd (let h : 86 ≡ 80 = first e in omega (arith, h))
spelled_apart (Vote s) Round p q e = absurd (let h : 86 ≡ 82 = first e in omega (arith, h))
spelled_apart (Vote s) (Vote t) p q e =
    let m : s < 65536 = ltb-true s 65536 p in
    let n : t < 65536 = ltb-true t 65536 q in
    let same : to_be_bytes w32 s ≡ to_be_bytes w32 t = ap (drop 1) e in
    ap Vote (vote_apart s t m n same)

-- ---- a put sets its key, and no other

pub puts_records : (key : Key) (v : List ℕ) (old new : List Row) → is_valid key ≡ true → PutsRow (spelled key) v old new
    → records_in new ≡ with_record (records_in old) key v
puts_records key v old new valid p = λ i q. at q i
  where
    other : (q : Key) → (rank q == rank key) ≡ false → (b : Bool) → is_valid q ≡ b
        → (if b then value_at (spelled q) new else None) ≡ (if b then value_at (spelled q) old else None)
    other q differs false e = refl
    other q differs true e = reads_others (spelled key) v (spelled q) old new p
        (λ same. true≢false (sym (eq-eqb (rank q) (rank key) (ap rank (spelled_apart q key e valid same))) ∙ differs))

    at : (q : Key) → records_in new q ≡ with_record (records_in old) key v q
    at q = elim (cases_Bool (rank q == rank key)) [
      | inl hit ↦
          let is : q ≡ key = same_rank q key (eqb-true (rank q) (rank key) hit) in
          let found : records_in new key ≡ Some v = rw valid (reads_put (spelled key) v old new p) in
          rw hit (ap (records_in new) is ∙ found)
      | inr differs ↦ rw differs (other q differs (is_valid q) refl)
    ]

pub puts_stray : (key : Key) (v : List ℕ) (old new : List Row) → is_valid key ≡ true → PutsRow (spelled key) v old new
    → HasStray new ↔ HasStray old
puts_stray key v old new valid p = (
  λ (r, h, stray). (r, p.was r h (stray key valid), stray),
  λ (r, h, stray). (r, p.kept r h (stray key valid), stray),
)

-- ---- the keys of the rows

tell_at : (rows : List Row) (keys : List Key) (k : Key) → map (λ row. column row 0) rows ≡ map (λ k. Blob (spelled k)) keys
    → Has keys k → (row : Row) × Has rows row × (column row 0 ≡ Blob (spelled k))
tell_at rows keys k tell h =
    let it = mapped_has (λ row. column row 0) rows (Blob (spelled k))
    (subst (λ vs. Has vs (Blob (spelled k))) (sym tell) (has_mapped (λ k. Blob (spelled k)) keys k h)) in
    (it.0, it.1, sym it.2)

told_at : (rows : List Row) (keys : List Key) (row : Row) → map (λ row. column row 0) rows ≡ map (λ k. Blob (spelled k)) keys
    → Has rows row → (k : Key) × Has keys k × (column row 0 ≡ Blob (spelled k))
told_at rows keys row tell h = mapped_has (λ k. Blob (spelled k)) keys (column row 0)
    (subst (λ vs. Has vs (column row 0)) tell (has_mapped (λ row. column row 0) rows row h))

blob_apart : {a b : List ℕ} → Blob a ≡ Blob b → a ≡ b
blob_apart e = cc

pub keys_tell : (table rows : List Row) (keys : List Key) → HasOwnKeys table → ListsKeys table rows → AreKeysOf rows keys → (k : Key)
    → Contains keys k ↔ IsSome (records_in table k)
keys_tell table rows keys own l a k = (there, back)
  where
    there : Contains keys k → IsSome (records_in table k)
    there h =
        let had = has_contained keys k h in
        let row = tell_at rows keys k a.tell had in
        let r = l.from row.0 row.1 in
        let is : column r.0 1 ≡ Blob (spelled k) = ap (λ (c : Row). column c 0) (sym r.2) ∙ row.2 in
        let hit : has_key (spelled k) r.0 ≡ true = ap (is_bytes (spelled k)) is ∙ is_bytes-self (spelled k) in
        let valid = all_has (λ k. is_valid k ≡ true) keys k a.valid had in
        let found : records_in table k ≡ Some (bytes (column r.0 2)) = rw valid (value_has (spelled k) table r.0 own r.1 hit) in
        subst IsSome (sym found) refl

    back_from : (b : Bool) → is_valid k ≡ b → (o : Option (List ℕ)) → value_at (spelled k) table ≡ o → IsSome (if b then o else None)
        → Contains keys k
    back_from false e o f h = absurd (true≢false (sym h))
    back_from true e None f h = absurd (true≢false (sym h))
    back_from true e (Some v) f h =
        let r = value_some (spelled k) table v f in
        let row = l.to r.0 r.1 in
        let q = told_at rows keys (key_row r.0) a.tell row in
        let same : spelled q.0 ≡ spelled k = blob_apart (sym q.2 ∙ blob_is (spelled k) (column r.0 1) r.2) in
        let is : q.0 ≡ k = spelled_apart q.0 k (all_has (λ k. is_valid k ≡ true) keys q.0 a.valid q.1) e same in
        contains_had keys k (subst (Has keys) is q.1)

    back : IsSome (records_in table k) → Contains keys k
    back h = back_from (is_valid k) refl (value_at (spelled k) table) refl h

-- ---- the order of the spellings

below : (x y : ℕ) → nat_cmp x y ≡ Less → x < y
below x y h = ranked x y Less (sym h)

above_first : (x y : ℕ) (xs ys : List ℕ) → slice_cmp nat_cmp (x ∷ xs) (y ∷ ys) ≡ Less
    → (x < y) ⊎ ((x ≡ y) × (slice_cmp nat_cmp xs ys ≡ Less))
above_first x y xs ys h = elim (then_below (nat_cmp x y) (slice_cmp nat_cmp xs ys) h)
    [ inl less ↦ inl (below x y less) | inr both ↦ inr (exact_unsigned x y both.0, both.1) ]

lex : (a b c d e f g h m n : ℕ) → m ≡ a * 16777216 + b * 65536 + c * 256 + d → n ≡ e * 16777216 + f * 65536 + g * 256 + h → b < 256
    → c < 256 → d < 256
    → slice_cmp nat_cmp (a ∷ b ∷ c ∷ d ∷ []) (e ∷ f ∷ g ∷ h ∷ []) ≡ Less → m < n
lex a b c d e f g h m n p q u v w less = elim (above_first a e (b ∷ c ∷ d ∷ []) (f ∷ g ∷ h ∷ []) less) [
  | inl x ↦ omega (arith, p, q, u, v, w, x)
  | inr x ↦ elim (above_first b f (c ∷ d ∷ []) (g ∷ h ∷ []) x.1) [
    | inl y ↦ omega (arith, p, q, v, w, x.0, y)
    | inr y ↦ elim (above_first c g (d ∷ []) (h ∷ []) y.1) [
      | inl z ↦ omega (arith, p, q, w, x.0, y.0, z)
      | inr z ↦ elim (above_first d h [] [] z.1) [
        | inl last ↦ omega (arith, p, q, x.0, y.0, z.0, last)
        | inr last ↦ absurd (let e = last.1 in cc)
      ]
    ]
  ]
]

digits : (m : ℕ) → m < 65537 → m ≡ m / 256 ^ 3 % 256 * 16777216 + m / 256 ^ 2 % 256 * 65536 + m / 256 ^ 1 % 256 * 256 + m % 256
digits m p = omega (arith, p)

byte_below : (m : ℕ) → m % 256 < 256
byte_below m = omega arith

-- which of two numbers is the lesser, as four digits tell
digits_less : (m n : ℕ) → m < 65537 → n < 65537 → slice_cmp nat_cmp (to_be_bytes w32 m) (to_be_bytes w32 n) ≡ Less → m < n
digits_less m n p q h = lex _ _ _ _ _ _ _ _ m n (digits m p) (digits n q) (byte_below (m / 256 ^ 2)) (byte_below (m / 256 ^ 1))
    (byte_below m) h

nat_less : (x y : ℕ) → x < y → nat_cmp x y ≡ Less
nat_less x y h = sym (nat_cmp_is x y Less h)

pub spelled_less : (a b : Key) → is_valid a ≡ true → is_valid b ≡ true → slice_cmp nat_cmp (spelled a) (spelled b) ≡ Less
    → key_cmp a b ≡ Less
spelled_less Checkpoint Checkpoint p q h = absurd (let e : Equal ≡ Less = h in cc)
spelled_less Checkpoint Promise p q h = refl
spelled_less Checkpoint Round p q h = refl
spelled_less Checkpoint (Vote t) p q h = nat_less 0 (t + 3) (omega arith)
spelled_less Promise Checkpoint p q h = absurd (let e : Greater ≡ Less = h in cc)
spelled_less Promise Promise p q h = absurd (let e : Equal ≡ Less = h in cc)
spelled_less Promise Round p q h = refl
spelled_less Promise (Vote t) p q h = nat_less 1 (t + 3) (omega arith)
spelled_less Round Checkpoint p q h = absurd (let e : Greater ≡ Less = h in cc)
spelled_less Round Promise p q h = absurd (let e : Greater ≡ Less = h in cc)
spelled_less Round Round p q h = absurd (let e : Equal ≡ Less = h in cc)
spelled_less Round (Vote t) p q h = nat_less 2 (t + 3) (omega arith)
spelled_less (Vote s) Checkpoint p q h = absurd (let e : Greater ≡ Less = h in cc)
spelled_less (Vote s) Promise p q h = absurd (let e : Greater ≡ Less = h in cc)
spelled_less (Vote s) Round p q h = absurd (let e : Greater ≡ Less = h in cc)
spelled_less (Vote s) (Vote t) p q h =
    let l = digits_less s t (omega (arith, ltb-true s 65536 p)) (omega (arith, ltb-true t 65536 q)) h in nat_less (s + 3) (t + 3) (omega (arith, l))

-- ---- a trim takes out the votes at lower slots, and no other record

digits_apart : (m n : ℕ) → m < 65537 → n < 65537 → to_be_bytes w32 m ≡ to_be_bytes w32 n → m ≡ n
digits_apart m n p q e = sym (from_be_bytes-to_be_bytes_4 m (omega (arith, p))) ∙ ap (from_be_bytes w32) e
    ∙ from_be_bytes-to_be_bytes_4 n (omega (arith, q))

digits_below : (m n : ℕ) → m < n → n < 65537 → slice_cmp nat_cmp (to_be_bytes w32 m) (to_be_bytes w32 n) ≡ Less
digits_below m n lt q = go (slice_cmp nat_cmp (to_be_bytes w32 m) (to_be_bytes w32 n)) refl
  where
    p : m < 65537
    p = omega (arith, lt, q)

    go : (o : Ordering) → slice_cmp nat_cmp (to_be_bytes w32 m) (to_be_bytes w32 n) ≡ o → o ≡ Less
    go Less e = refl
    go Equal e = absurd (let same = digits_apart m n p q (exact_bytes _ _ e) in omega (arith, lt, same))
    go Greater e =
        let back : slice_cmp nat_cmp (to_be_bytes w32 n) (to_be_bytes w32 m) ≡ Less =
        nat_list_cmp_total.antisymm (to_be_bytes w32 n) (to_be_bytes w32 m) ∙ ap ordering_reverse e in
        let l = digits_less n m q p back in
        absurd (omega (arith, lt, l))

vote_between : (below slot : ℕ) → below < 65537 → slot < below → is_between (0x56 ∷ []) (vote_key below) (Blob (vote_key slot)) ≡ true
vote_between below slot q lt = ap is_lt (digits_below slot below lt q)

vote_above : (below slot : ℕ) → below < 65537 → slot < 65537 → below ≤ slot
    → is_between (0x56 ∷ []) (vote_key below) (Blob (vote_key slot)) ≡ false
vote_above below slot q p le = go (slice_cmp nat_cmp (to_be_bytes w32 slot) (to_be_bytes w32 below)) refl
  where
    go : (o : Ordering) → slice_cmp nat_cmp (to_be_bytes w32 slot) (to_be_bytes w32 below) ≡ o → is_lt o ≡ false
    go Less e = absurd (let l = digits_less slot below p q e in omega (arith, le, l))
    go Equal e = refl
    go Greater e = refl

module _ (below : ℕ) (old new : List Row) (le : below ≤ 65536) (t : TrimsRows (0x56 ∷ []) (vote_key below) old new) where
  -- the rows of a key stay, which doesn't lie between
  kept_at : (k : List ℕ) → is_between (0x56 ∷ []) (vote_key below) (Blob k) ≡ false → value_at k new ≡ value_at k old
  kept_at k apart = value_same k old new t.own_keys
      (λ r h is. t.kept r h (ap (is_between (0x56 ∷ []) (vote_key below)) (blob_is k (column r 1) is) ∙ apart))
      (λ r h is. (t.was r h).0)

  gone_at : (k : List ℕ) → is_between (0x56 ∷ []) (vote_key below) (Blob k) ≡ true → value_at k new ≡ None
  gone_at k between = value_none k new (λ r h. elim (cases_Bool (has_key k r)) [
    | inl hit ↦ absurd (true≢false (sym between
        ∙ sym (ap (is_between (0x56 ∷ []) (vote_key below)) (blob_is k (column r 1) hit)) ∙ (t.was r h).1))
    | inr none ↦ none
  ])

  pub trims_records : records_in new ≡ without_votes_below (records_in old) below
  trims_records = λ i q. at q i
    where
      vote : (slot : ℕ) → (b : Bool) → nat_lt slot 65536 ≡ b
          → (if b then value_at (vote_key slot) new else None)
          ≡ (if nat_lt slot below then None else (if b then value_at (vote_key slot) old else None))
      vote slot false e = elim (cases_Bool (nat_lt slot below)) [ inl lower ↦ rw lower refl | inr other ↦ rw other refl ]
      vote slot true e = elim (cases_Bool (nat_lt slot below)) [
        | inl lower ↦ rw lower (gone_at (vote_key slot)
            (vote_between below slot (omega (arith, le)) (ltb-true slot below lower)))
        | inr other ↦ rw other (kept_at (vote_key slot)
            (vote_above below slot (omega (arith, le)) (omega (arith, ltb-true slot 65536 e)) (ltb-false slot below other)))
      ]

      at : (q : Key) → records_in new q ≡ without_votes_below (records_in old) below q
      at Checkpoint = kept_at (0x43 ∷ []) refl
      at Promise = kept_at (0x50 ∷ []) refl
      at Round = kept_at (0x52 ∷ []) refl
      at (Vote slot) = vote slot (nat_lt slot 65536) refl

either : (b : Bool) → (if◌then◌else◌ {A = Option (List ℕ)} b None None) ≡ None
either true = refl
either false = refl

-- behind the log's end there is no vote
pub at_most_all : (below : ℕ) (rows : List Row)
    → without_votes_below (records_in rows) (min below 65536) ≡ without_votes_below (records_in rows) below
at_most_all below rows = λ i q. at q i
  where
    vote : (slot : ℕ) → (b : Bool) → nat_lt slot 65536 ≡ b
        → (if nat_lt slot (min below 65536) then None else (if b then value_at (vote_key slot) rows else None))
        ≡ (if nat_lt slot below then None else (if b then value_at (vote_key slot) rows else None))
    vote slot false e = elim (cases_Bool (nat_lt slot below)) [
      | inl lower ↦ rw lower (either (nat_lt slot (min below 65536)))
      | inr other ↦ rw other (either (nat_lt slot (min below 65536)))
    ]
    vote slot true e = ap (λ t. if t then None else value_at (vote_key slot) rows) same
      where
        same : nat_lt slot (min below 65536) ≡ nat_lt slot below
        same = grind arith

    at : (q : Key) → without_votes_below (records_in rows) (min below 65536) q ≡ without_votes_below (records_in rows) below q
    at Checkpoint = refl
    at Promise = refl
    at Round = refl
    at (Vote slot) = vote slot (nat_lt slot 65536) refl

pub trims_stray : (below : ℕ) (old new : List Row) → TrimsRows (0x56 ∷ []) (vote_key below) old new → HasStray new → HasStray old
trims_stray below old new t (r, h, stray) = (r, (t.was r h).0, stray)

-- ---- the keys ascend

abbrev list_cmp : List ℕ → List ℕ → Ordering
list_cmp = slice_cmp nat_cmp

before : (xs : List ℕ) (ys : List ℕ) → is_lt (list_cmp ys xs) ≡ false → xs ≢ ys → list_cmp xs ys ≡ Less
before xs ys h apart = go (list_cmp ys xs) refl
  where
    go : (o : Ordering) → list_cmp ys xs ≡ o → list_cmp xs ys ≡ Less
    go Less e = absurd (true≢false (ap is_lt (sym e) ∙ h))
    go Equal e = absurd (apart (sym (exact_bytes ys xs e)))
    go Greater e = nat_list_cmp_total.antisymm xs ys ∙ ap ordering_reverse e

prepend : (x y : List ℕ) (ys : List (List ℕ)) → list_cmp x y ≡ Less → IsStrictlySortedBy list_cmp (y ∷ ys)
    → IsStrictlySortedBy list_cmp (x ∷ y ∷ ys)
unfolding IsStrictlySortedBy
prepend x y ys less rest = (
  (less, all_weaker (λ z. list_cmp y z ≡ Less) (λ z. list_cmp x z ≡ Less) (λ z h. nat_list_cmp_total.trans x y z less h) ys rest.0),
  rest,
)

-- in order, and no two alike, so each below those after it
strictly : (xs : List (List ℕ)) → ((k : ℕ) (d : List ℕ) → suc k < length xs
    → is_lt (list_cmp (slice_index_or xs (suc k) d) (slice_index_or xs k d)) ≡ false)
    → IsAscending (λ x y. x ≢ y) xs → IsStrictlySortedBy list_cmp xs
unfolding IsStrictlySortedBy
strictly [] sorted apart = tt
strictly (x ∷ []) sorted apart = (tt, tt)
strictly (x ∷ y ∷ ys) sorted apart =
    prepend x y ys (before x y (sorted 0 x (omega arith)) apart.0.0)
    (strictly (y ∷ ys) (λ k d h. sorted (suc k) d (omega (arith, h))) apart.1)

keys_rise : (keys : List Key) → AllByRecursion (λ k. is_valid k ≡ true) keys → IsStrictlySortedBy list_cmp (map spelled keys)
    → IsStrictlySortedBy key_cmp keys
unfolding IsStrictlySortedBy
keys_rise [] valid up = tt
keys_rise (k ∷ ks) valid up = (each ks valid.1 up.0, keys_rise ks valid.1 up.1)
  where
    each : (qs : List Key) → AllByRecursion (λ q. is_valid q ≡ true) qs
        → AllByRecursion (λ y. list_cmp (spelled k) y ≡ Less) (map spelled qs) → AllByRecursion (λ q. key_cmp k q ≡ Less) qs
    each [] v h = tt
    each (q ∷ qs) v h = (spelled_less k q valid.0 v.0 h.0, each qs v.1 h.1)

pub keys_ascend : (table rows : List Row) (keys : List Key) → HasOwnKeys table → ListsKeys table rows → AreKeysOf rows keys
    → IsStrictlySortedBy key_cmp keys
keys_ascend table rows keys own l a = keys_rise keys a.valid (strictly (map spelled keys) sorted apart)
  where
    values : map (λ row. column row 0) rows ≡ map Blob (map spelled keys)
    values = a.tell ∙ sym (map-map Blob spelled keys)

    long : length rows ≡ length (map spelled keys)
    long = sym (length-map rows (λ (row : Row). column row 0)) ∙ ap length values ∙ length-map (map spelled keys) Blob

    at : (k : ℕ) (d : List ℕ) (e : Row) → k < length (map spelled keys)
        → column (slice_index_or rows k e) 0 ≡ Blob (slice_index_or (map spelled keys) k d)
    at k d e h = sym (get_or-map (λ (row : Row). column row 0) rows k e (Blob d) (omega (arith, h, long)))
        ∙ ap (λ vs. slice_index_or vs k (Blob d)) values ∙ get_or-map Blob (map spelled keys) k d (Blob d) h

    sorted : (k : ℕ) (d : List ℕ) → suc k < length (map spelled keys)
        → is_lt (list_cmp (slice_index_or (map spelled keys) (suc k) d) (slice_index_or (map spelled keys) k d)) ≡ false
    sorted k d h =
        let e : Row = Blob d ∷ [] in
        let next : k + 1 ≡ suc k = omega arith in
        let was = l.sorted k e (omega (arith, h, long)) in
        ap is_lt (sym (value_cmp-Blob (slice_index_or (map spelled keys) (suc k) d) (slice_index_or (map spelled keys) k d)))
        ∙ ap (λ v. is_lt (value_cmp v (Blob (slice_index_or (map spelled keys) k d)))) (sym (at (suc k) d e h))
        ∙ ap (λ v. is_lt (value_cmp (column (slice_index_or rows (suc k) e) 0) v)) (sym (at k d e (omega (arith, h))))
        ∙ subst (λ n. is_lt (value_cmp (column (slice_index_or rows n e) 0) (column (slice_index_or rows k e) 0)) ≡ false) next was

    apart : IsAscending (λ x y. x ≢ y) (map spelled keys)
    apart =
        let vs = subst (IsAscending Differ) values (ascending-map Differ (λ (row : Row). column row 0) rows (l.apart own)) in
        ascending_weaker (λ x y. Differ (Blob x) (Blob y)) (λ x y. x ≢ y)
        (λ x y d same. true≢false (sym (is_bytes-self x) ∙ subst (λ z. is_bytes x (Blob z) ≡ false) (sym same) (d x (is_bytes-self x))))
        _
        (ascending_from_map Differ Blob (map spelled keys) vs)

-- ---- a stray key

pub stray_row : (table rows : List Row) (row : Row) → ListsKeys table rows → Has rows row
    → ((k : Key) → is_valid k ≡ true → is_bytes (spelled k) (column row 0) ≡ false) → HasStray table
stray_row table rows row l h stray = let r = l.from row h in
    (r.0, r.1, λ k valid. ap (λ (c : Row). is_bytes (spelled k) (column c 0)) (sym r.2) ∙ stray k valid)

-- a list of keys leaves no row for a stray one
pub no_stray_row : (table rows : List Row) (keys : List Key) → ListsKeys table rows → AreKeysOf rows keys → ¬ HasStray table
no_stray_row table rows keys l a (r, h, stray) =
    let it = told_at rows keys (key_row r) a.tell (l.to r h) in
    let valid = all_has (λ k. is_valid k ≡ true) keys it.0 a.valid it.1 in
    let hit : has_key (spelled it.0) r ≡ true = ap (is_bytes (spelled it.0)) it.2 ∙ is_bytes-self (spelled it.0) in
    true≢false (sym hit ∙ stray it.0 valid)

-- what is no blob is no key
pub not_a_blob : (v : Value) (k : List ℕ) → ¬ ((b : List ℕ) × (v ≡ Blob b)) → is_bytes k v ≡ false
not_a_blob v k none = elim (cases_Bool (is_bytes k v)) [ inl hit ↦ absurd (none (k, blob_is k v hit)) | inr other ↦ other ]

pub other_blob : (v : Value) (k b : List ℕ) → v ≡ Blob b → k ≢ b → is_bytes k v ≡ false
other_blob v k b is apart = elim (cases_Bool (is_bytes k v))
    [ inl hit ↦ absurd (apart (blob_apart (sym (blob_is k v hit) ∙ is))) | inr other ↦ other ]

pub no_keys : AreKeysOf [] []
no_keys = record { valid = tt; tell = refl }

pub one_more_key : (rows : List Row) (keys : List Key) (row : Row) (key : Key) → AreKeysOf rows keys → is_valid key ≡ true
    → column row 0 ≡ Blob (spelled key) → AreKeysOf (rows ++ row ∷ []) (keys ++ key ∷ [])
one_more_key rows keys row key a valid is = record {
  valid = all-append (λ k. is_valid k ≡ true) keys (key ∷ []) a.valid (valid, tt);
  tell = map-append (λ (r : Row). column r 0) rows (row ∷ []) ∙ ap (λ vs. vs ++ column row 0 ∷ []) a.tell
      ∙ ap (λ v. map (λ k. Blob (spelled k)) keys ++ v ∷ []) is ∙ sym (map-append (λ k. Blob (spelled k)) keys (key ∷ []));
}
