-- Records under some keys, taken in one after the other.
use Rattle.std.proofs.Common.{◌≡◌, ◌↔◌, ℕ, suc, ◌+◌, ◌<◌, ◌≤◌, Bool, true, false, eqb, List, [], ◌∷◌, ◌++◌, length, take, drop, get_or}
use Rattle.std.proofs.Common.{None, Contains, IsSome, IfSome, refl, sym, ap, subst, ◌∙◌, arith, inl, inr}
use Rattle.std.specs.declared.cmp.Ordering.TheVariants.{Less}
use Rattle.std.specs.List.{list_any, AllByRecursion}
use Rattle.std.specs.List.Sorted.{IsStrictlySortedBy}
use Rattle.std.proofs.lemmas.Bool.{cases_Bool, ne_eqb}
use Rattle.std.proofs.lemmas.Bool.Decides.{eqb_tells}
use Rattle.std.proofs.lemmas.Cmp.{ranked, on_equiv, nat_eq_equiv}
use Rattle.std.proofs.lemmas.List.{take_more, take-append-drop, append-nil}
use Rattle.std.proofs.Math.ListN.{drop_of_length-le}
use Rattle.std.proofs.lemmas.Map.Views.{list_any-from_Contains}
use Rattle.std.proofs.Math.Seq.{drop-cons}
use Rattle.sessions.specs.Machines.{MachineState}
use Rattle.stable.specs.Records.{Records, key_cmp}
use Rattle.stable.specs.Records.{rank as place}
use Rattle.stable.specs.declared.key.Key.{Key}
use Rattle.stable.specs.declared.key.Key.TheVariants.{Checkpoint}
use Rattle.stable.proofs.KeyLemmas.{same_rank as same_key}
use Rattle.acceptor.specs.Accepting.{Accepting, RecordsSay}
use Rattle.acceptor.specs.Forms.{IsOfItsForm, AreOfTheirForm}
use Rattle.acceptor.specs.Loading.{with_seen, records_at, MachineBeginsWith}
use Rattle.acceptor.proofs.CheckpointLemmas.{begins_same}
use Rattle.acceptor.proofs.RecordLemmas.{RecordsSay-same, none_unless}

-- whether a key is among keys
abbrev among : Key → List Key → Bool
among q keys = list_any (λ k. eqb (place q) (place k)) keys

-- the records under these keys are of their form
abbrev pub OfTheirForm : Records → List Key → Type 0
OfTheirForm r keys = (q : Key) → among q keys ≡ true → IfSome (r q) (IsOfItsForm q)

-- ---- one key more
among_last : (q : Key) (keys : List Key) (k : Key) → eqb (place q) (place k) ≡ true → among q (keys ++ k ∷ []) ≡ true
among_last q [] k e = rw e refl
among_last q (x ∷ keys) k e =
    elim (cases_Bool (eqb (place q) (place x))) [
      | inl has ↦ rw has refl
      | inr lacks ↦ rw lacks (among_last q keys k e)
    ]

among_front : (q : Key) (keys : List Key) (k : Key) → eqb (place q) (place k) ≡ false → among q (keys ++ k ∷ []) ≡ among q keys
among_front q [] k e = rw e refl
among_front q (x ∷ keys) k e =
    elim (cases_Bool (eqb (place q) (place x))) [
      | inl has ↦ rw has refl
      | inr lacks ↦ rw lacks (among_front q keys k e)
    ]

records_more : (r : Records) (keys : List Key) (k q : Key) → records_at r (keys ++ k ∷ []) q ≡ with_seen (records_at r keys) k (r k) q
records_more r keys k q =
    elim (eqb_tells (place q) (place k)) [
      | inl same ↦ rw (among_last q keys k same.0, same.0) (ap r (same_key q k same.1))
      | inr apart ↦ rw (among_front q keys k apart.0, apart.0) refl
    ]

forms_more : (r : Records) (keys : List Key) (k : Key) → OfTheirForm r keys → IfSome (r k) (IsOfItsForm k) → OfTheirForm r (keys ++ k ∷ [])
forms_more r keys k before now q has =
    elim (eqb_tells (place q) (place k)) [
      | inl same ↦ subst (λ (x : Key). IfSome (r x) (IsOfItsForm x)) (sym (same_key q k same.1)) now
      | inr apart ↦ before q (rw (among_front q keys k apart.0) at has)
    ]

-- ---- keys that ascend
middle : (P : Key → Type 0) (front back : List Key) (k : Key) → AllByRecursion P (front ++ k ∷ back) → P k
middle P [] back k all = all.0
middle P (x ∷ front) back k all = middle P front back k all.1

apart_from : (x k : Key) → key_cmp x k ≡ Less → eqb (place k) (place x) ≡ false
apart_from x k less =
    let below : place x < place k = ranked (place x) (place k) Less (sym less) in
    ne_eqb (place k) (place x) (λ e. omega arith)

-- a key is none of those before it
not_among : (front back : List Key) (k : Key) → IsStrictlySortedBy key_cmp (front ++ k ∷ back) → among k front ≡ false
unfolding IsStrictlySortedBy
not_among [] back k sorted = refl
not_among (x ∷ front) back k sorted =
    rw (apart_from x k (middle (λ y. key_cmp x y ≡ Less) front back k sorted.0)) (not_among front back k sorted.1)

split_at : (keys : List Key) (i : ℕ) (d : Key) → i < length keys → keys ≡ take i keys ++ (get_or keys i d ∷ drop (suc i) keys)
split_at keys i d lt = sym (take-append-drop i keys) ∙ ap (λ xs. take i keys ++ xs) (drop-cons keys i d lt)

-- ---- the loop
fresh_at : (r : Records) (keys : List Key) (i : ℕ) (d : Key) → IsStrictlySortedBy key_cmp keys → i < length keys
    → records_at r (take i keys) (get_or keys i d) ≡ None
fresh_at r keys i d sorted lt =
    let apart : IsStrictlySortedBy key_cmp (take i keys ++ (get_or keys i d ∷ drop (suc i) keys)) =
    subst (IsStrictlySortedBy key_cmp) (split_at keys i d lt) sorted in
    rw (not_among (take i keys) (drop (suc i) keys) (get_or keys i d) apart) refl

one_more : (keys : List Key) (i : ℕ) (key : Key) → i < length keys → key ≡ get_or keys i key → take (i + 1) keys ≡ take i keys ++ key ∷ []
one_more keys i key lt is = take_more keys i key lt ∙ ap (λ (k : Key). take i keys ++ k ∷ []) (sym is)

-- a key more is taken in, whose record is what it was at the start
unseen : (r : Records) (keys : List Key) (i : ℕ) (key : Key) → IsStrictlySortedBy key_cmp keys → i < length keys → key ≡ get_or keys i key
    → records_at r (take i keys) key ≡ None
unseen r keys i key sorted lt is =
    subst (λ (k : Key). records_at r (take i keys) k ≡ None) (sym is) (fresh_at r keys i key sorted lt)

seen_then : (r now : Records) (keys : List Key) (i : ℕ) (key : Key) → i < length keys → key ≡ get_or keys i key → now ≡ r
    → (q : Key) → records_at r (take (i + 1) keys) q ≡ with_seen (records_at r (take i keys)) key (now key) q
seen_then r now keys i key lt is same q =
    let step : records_at r (take (i + 1) keys) q ≡ with_seen (records_at r (take i keys)) key (r key) q =
    rw (one_more keys i key lt is) (records_more r (take i keys) key q) in
    step ∙ ap (λ (x : Records). with_seen (records_at r (take i keys)) key (x key) q) (sym same)

pub says_more : (r now : Records) (keys : List Key) (i : ℕ) (key : Key) (a b : Accepting) → IsStrictlySortedBy key_cmp keys
    → i < length keys
    → key ≡ get_or keys i key → now ≡ r
    → ((seen : Records) → seen key ≡ None → RecordsSay seen a → RecordsSay (with_seen seen key (now key)) b)
    → RecordsSay (records_at r (take i keys)) a → RecordsSay (records_at r (take (i + 1) keys)) b
says_more r now keys i key a b sorted lt is same taken says =
    let seen : Records = records_at r (take i keys) in
    RecordsSay-same (with_seen seen key (now key)) (records_at r (take (i + 1) keys)) b (seen_then r now keys i key lt is same)
    (taken seen (unseen r keys i key sorted lt is) says)

pub begins_more : (r now : Records) (keys : List Key) (i : ℕ) (key : Key) (m n : MachineState) → IsStrictlySortedBy key_cmp keys
    → i < length keys
    → key ≡ get_or keys i key → now ≡ r
    → ((seen : Records) → seen key ≡ None → MachineBeginsWith seen m → MachineBeginsWith (with_seen seen key (now key)) n)
    → MachineBeginsWith (records_at r (take i keys)) m → MachineBeginsWith (records_at r (take (i + 1) keys)) n
begins_more r now keys i key m n sorted lt is same taken begins =
    let seen : Records = records_at r (take i keys) in
    begins_same (with_seen seen key (now key)) (records_at r (take (i + 1) keys)) n (seen_then r now keys i key lt is same Checkpoint)
    (taken seen (unseen r keys i key sorted lt is) begins)

pub forms_at : (r now : Records) (keys : List Key) (i : ℕ) (key : Key) → i < length keys → key ≡ get_or keys i key → now ≡ r
    → OfTheirForm r (take i keys) → IfSome (now key) (IsOfItsForm key) → OfTheirForm r (take (i + 1) keys)
forms_at r now keys i key lt is same before form =
    let here : IfSome (r key) (IsOfItsForm key) = subst (λ (x : Records). IfSome (x key) (IsOfItsForm key)) same form in
    let all : OfTheirForm r (take i keys ++ key ∷ []) = forms_more r (take i keys) key before here in
    subst (λ (xs : List Key). OfTheirForm r xs) (sym (one_more keys i key lt is)) all

-- ---- all keys
absent : (r : Records) (keys : List Key) → ((k : Key) → Contains keys k ↔ IsSome (r k)) → (q : Key) → among q keys ≡ false → r q ≡ None
absent r keys told q lacks =
    none_unless (r q) (λ there.
    let has : among q keys ≡ true = list_any-from_Contains (on_equiv place nat_eq_equiv) q keys ((told q).1 there) in
    absurd cc)

-- the records under all keys that hold one are the records
all_at : (r : Records) (keys : List Key) → ((k : Key) → Contains keys k ↔ IsSome (r k)) → (q : Key) → r q ≡ records_at r keys q
all_at r keys told q = elim (cases_Bool (among q keys)) [
  | inl has ↦ rw has refl
  | inr lacks ↦ rw lacks (absent r keys told q lacks)
]

pub says_all : (r : Records) (keys : List Key) (a : Accepting) → ((k : Key) → Contains keys k ↔ IsSome (r k))
    → RecordsSay (records_at r keys) a → RecordsSay r a
says_all r keys a told says = RecordsSay-same (records_at r keys) r a (all_at r keys told) says

pub begins_all : (r : Records) (keys : List Key) (m : MachineState) → ((k : Key) → Contains keys k ↔ IsSome (r k))
    → MachineBeginsWith (records_at r keys) m → MachineBeginsWith r m
begins_all r keys m told begins = begins_same (records_at r keys) r m (all_at r keys told Checkpoint) begins

pub forms_all : (r : Records) (keys : List Key) → ((k : Key) → Contains keys k ↔ IsSome (r k)) → OfTheirForm r keys → AreOfTheirForm r
forms_all r keys told forms q =
    elim (cases_Bool (among q keys)) [
      | inl has ↦ forms q has
      | inr lacks ↦ rw (absent r keys told q lacks) tt
    ]

pub take_all : (keys : List Key) (i : ℕ) → length keys ≤ i → take i keys ≡ keys
take_all keys i past =
    let end : take i keys ++ drop i keys ≡ keys = take-append-drop i keys in
    sym (append-nil (take i keys)) ∙ ap (λ xs. take i keys ++ xs) (sym (drop_of_length-le keys past)) ∙ end
