-- What a map by slot says of each slot.
use Rattle.std.proofs.Common.{◌≡◌, ◌≢◌, ℕ, [], Bool, Option, Some, None, IsSome, unwrap_or, Result, Ok, Err, IfOk, OnErr, false, true, inl}
use Rattle.std.proofs.Common.{inr, refl, sym, ap, subst, ◌∙◌, arith}
use Rattle.std.specs.BTreeMap.{BTreeMap, get, Updates}
use Rattle.std.specs.Ordering.{nat_cmp}
use Rattle.std.specs.declared.alloc.AllocError.{AllocError}
use Rattle.std.proofs.lemmas.Grind.{common_steps}
use Rattle.std.proofs.lemmas.Bool.Decides.{nat_tests, eqb_tells}
use Rattle.synod.specs.Records.{put}
use Rattle.synod.specs.declared.ballot.Ballot.{Ballot}
use Rattle.synod.specs.declared.vote.Vote.{Vote}
use Rattle.sessions.specs.declared.command.Command.{Command}
use Rattle.learner.specs.Learning.{Heard}
use Rattle.learner.specs.Places.{place_learnt, place_heard, PlaceHears, Turns, ignores, keeps, decides}
use Rattle.learner.specs.Slots.{learnt_of, heard_of, SlotHears}
use Rattle.learner.specs.Tallies.{told_in}
use Rattle.learner.specs.declared.place.Place.{Place}
use Rattle.learner.specs.declared.place.Place.TheVariants.{Told}
use Rattle.learner.specs.declared.slots.Slots.{Slots}
use Rattle.learner.specs.declared.tallies.Tallies.{Tallies}

-- what is so anyway is so where memory is refused
pub where_refused : {T E P : Type 0} (r : Result T E) → P → OnErr r P
where_refused (Ok x) p = tt
where_refused (Err e) p = p

-- a change of a map at one slot is a change there of what is read of it
updated : {X B : Type 0} (read : Option X → B) (m n : BTreeMap ℕ X) (slot : ℕ) (w : Option X) → Updates nat_cmp m n slot w
    → (s : ℕ) → read (get nat_cmp n s) ≡ put (λ i. read (get nat_cmp m i)) slot (read w) s
updated read m n slot w u s =
    let there : get nat_cmp n s ≡ put (get nat_cmp m) slot w s = grind (arith, common_steps, nat_tests, u.0 s) in
    ap read there ∙ elim (eqb_tells s slot) [
      | inl same ↦ rw same.0 refl
      | inr apart ↦ rw apart.0 refl
    ]

pub all_updated : {X B : Type 0} (read : Option X → B) (m n : BTreeMap ℕ X) (slot : ℕ) (w : Option X) → Updates nat_cmp m n slot w
    → (λ s. read (get nat_cmp n s)) ≡ put (λ s. read (get nat_cmp m s)) slot (read w)
all_updated read m n slot w u = λ i s. updated read m n slot w u s i

-- what is read of a place that is there from now on is what was read of the slot
pub record IsReadAlike (o : Option Place) (p : Place) : Type 0 where
  pub learnt : place_learnt (Some p) ≡ place_learnt o
  pub heard : place_heard (Some p) ≡ place_heard o

read_opened : (o : Option Place) (none : Tallies) → none.tallies.items ≡ [] → IsReadAlike o (unwrap_or o (Told none))
read_opened None none e = record { learnt = refl; heard = ap told_in e }
read_opened (Some p) none e = record { learnt = refl; heard = refl }

-- the entry of a slot, which is made where there was none
pub opened : (o found : Option Place) (none : Tallies) (p : Place) → found ≡ o → none.tallies.items ≡ [] → p ≡ unwrap_or found (Told none)
    → IsReadAlike o p
opened o found none p same e is = subst (λ x. IsReadAlike x p) same (subst (IsReadAlike found) (sym is) (read_opened found none e))

-- where a growth is refused at a place, what is said of what was read of it is so of what was read of the slot
module _ (o : Option Place) (p : Place) (alike : IsReadAlike o p) where
  pub unlearnt_before : (r : Result Bool AllocError) → OnErr r (place_learnt (Some p) ≡ None) → OnErr r (place_learnt o ≡ None)
  unlearnt_before (Ok learns) none = tt
  unlearnt_before (Err e) none = sym alike.learnt ∙ none

  pub unheard_before : (b : Ballot) (a : ℕ) (r : Result Bool AllocError) → OnErr r (place_heard (Some p) b a ≡ None)
      → OnErr r (place_heard o b a ≡ None)
  unheard_before b a (Ok learns) none = tt
  unheard_before b a (Err e) none = ap (λ (heard : Heard). heard b a) (sym alike.heard) ∙ none

  pub untold_before : (b : Ballot) (c : Command) (r : Result Bool AllocError)
      → OnErr r ((a : ℕ) → place_heard (Some p) b a ≢ Some c) → OnErr r ((a : ℕ) → place_heard o b a ≢ Some c)
  untold_before b c (Ok learns) none = tt
  untold_before b c (Err e) none = λ a told. none a (ap (λ (heard : Heard). heard b a) alike.heard ∙ told)

-- a function that is given at a place what it has there
pub put_same : {A : Type 0} (f : ℕ → A) (i : ℕ) (x : A) → x ≡ f i → put f i x ≡ f
put_same f i x e = λ k s. at s k
  where
    at : (s : ℕ) → put f i x s ≡ f s
    at s = elim (eqb_tells s i) [
      | inl same ↦ rw same.0 (e ∙ ap f (sym same.1))
      | inr other ↦ rw other.0 refl
    ]

-- the news of a vote reaches the place of its slot
module _ (nodes from : ℕ) (v : Vote Command) (m n : Slots) (now : BTreeMap ℕ Place) (p q : Place) (is : n.by_slot ≡ now)
    (changes : Updates nat_cmp m.by_slot now v.slot (Some q)) (alike : IsReadAlike (get nat_cmp m.by_slot v.slot) p) where
  changed : Updates nat_cmp m.by_slot n.by_slot v.slot (Some q)
  changed = subst (λ map. Updates nat_cmp m.by_slot map v.slot (Some q)) (sym is) changes

  here : get nat_cmp n.by_slot v.slot ≡ Some q
  here = changed.1

  slot_hears : (learns : Bool) → PlaceHears nodes (Some p) from v.ballot v.command learns (Some q)
      → SlotHears nodes (learnt_of m) (heard_of m) from v learns (learnt_of n) (heard_of n)
  slot_hears learns hears = record {
    turns = subst (λ (z : Option Command × Heard × Option Command × Heard). Turns nodes from v.ballot v.command z.0 z.1 learns z.2 z.3)
        (λ k. (alike.learnt k, alike.heard k, place_learnt (sym here k), place_heard (sym here k))) hears;
    learnt_elsewhere = all_updated place_learnt m.by_slot n.by_slot v.slot (Some q) changed
        ∙ ap (λ o. put (learnt_of m) v.slot (place_learnt o)) (sym here);
    heard_elsewhere = all_updated place_heard m.by_slot n.by_slot v.slot (Some q) changed
        ∙ ap (λ o. put (heard_of m) v.slot (place_heard o)) (sym here);
  }

  pub hears_there : (r : Result Bool AllocError) → IfOk r (λ learns. PlaceHears nodes (Some p) from v.ballot v.command learns (Some q))
      → IfOk r (λ learns. SlotHears nodes (learnt_of m) (heard_of m) from v learns (learnt_of n) (heard_of n))
  hears_there (Ok learns) hears = slot_hears learns hears
  hears_there (Err e) hears = tt

  pub learnt_stays : (r : Result Bool AllocError) → OnErr r (place_learnt (Some q) ≡ place_learnt (Some p))
      → OnErr r (learnt_of n ≡ learnt_of m)
  learnt_stays (Ok learns) same = tt
  learnt_stays (Err e) same =
      all_updated place_learnt m.by_slot n.by_slot v.slot (Some q) changed
      ∙ put_same (learnt_of m) v.slot (place_learnt (Some q)) (same ∙ alike.learnt)

  pub heard_stays : (r : Result Bool AllocError) → OnErr r (place_heard (Some q) ≡ place_heard (Some p)) → OnErr r (heard_of n ≡ heard_of m)
  heard_stays (Ok learns) same = tt
  heard_stays (Err e) same =
      all_updated place_heard m.by_slot n.by_slot v.slot (Some q) changed
      ∙ put_same (heard_of m) v.slot (place_heard (Some q)) (same ∙ alike.heard)

-- ---- what becomes of what is learnt and heard
module _ {nodes : ℕ} {learnt : ℕ → Option Command} {heard : ℕ → Heard} {from : ℕ} {v : Vote Command}
    {learnt_then : ℕ → Option Command} {heard_then : ℕ → Heard} where
  -- nothing is newly learnt
  pub nothing_learnt : SlotHears nodes learnt heard from v false learnt_then heard_then → learnt_then ≡ learnt
  nothing_learnt h = h.learnt_elsewhere ∙ put_same learnt v.slot (learnt_then v.slot) (same h.turns)
    where
      same : Turns nodes from v.ballot v.command (learnt v.slot) (heard v.slot) false (learnt_then v.slot) (heard_then v.slot)
          → learnt_then v.slot ≡ learnt v.slot
      same (ignores never e l k) = l
      same (keeps none once few e l k) = l ∙ sym none
      same (decides none once most e l k) = absurd (let bad : false ≡ true = e in cc)

  -- the slot is newly learnt, and all that was learnt stays
  pub learnt_before : SlotHears nodes learnt heard from v true learnt_then heard_then → (s : ℕ) → IsSome (learnt s) → IsSome (learnt_then s)
  learnt_before h s was = still (h.turns)
    where
      still : Turns nodes from v.ballot v.command (learnt v.slot) (heard v.slot) true (learnt_then v.slot) (heard_then v.slot)
          → IsSome (learnt_then s)
      still (ignores never e l k) = absurd (let bad : true ≡ false = e in cc)
      still (keeps none once few e l k) = absurd (let bad : true ≡ false = e in cc)
      still (decides none once most e l k) = elim (eqb_tells s v.slot) [
        | inl same ↦ subst (λ i. IsSome (learnt_then i)) (sym same.1) (subst IsSome (sym l) refl)
        | inr other ↦ subst IsSome (sym (ap (λ f. f s) h.learnt_elsewhere ∙ rw other.0 refl)) was
      ]

-- the same, where it is known whether the slot is newly learnt
module _ {nodes : ℕ} {learnt : ℕ → Option Command} {heard : ℕ → Heard} {from : ℕ} {v : Vote Command}
    {learnt_then : ℕ → Option Command} {heard_then : ℕ → Heard} (learns known : Bool) where
  pub hears_so : learns ≡ known → SlotHears nodes learnt heard from v learns learnt_then heard_then
      → SlotHears nodes learnt heard from v known learnt_then heard_then
  hears_so e h = subst (λ b. SlotHears nodes learnt heard from v b learnt_then heard_then) e h

-- one slot more is learnt
pub some_put : (learnt : ℕ → Option Command) (slot : ℕ) (c : Command) (learnt_then : ℕ → Option Command)
    → learnt_then ≡ put learnt slot (Some c) → (s : ℕ) → IsSome (learnt s) → IsSome (learnt_then s)
some_put learnt slot c learnt_then e s was = subst IsSome (sym (ap (λ f. f s) e)) (elim (eqb_tells s slot) [
  | inl same ↦ rw same.0 refl
  | inr other ↦ rw other.0 was
])
