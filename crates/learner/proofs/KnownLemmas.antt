-- What is known of slots of which some lie in a row.
use Rattle.std.proofs.Common.{◌≡◌, ◌≢◌, ℕ, zero, suc, ◌+◌, ◌-◌, ◌<◌, ◌≤◌, ◌++◌, ◌∷◌, [], length, List, Option, Some, None}
use Rattle.std.proofs.Common.{slice_get, is_some, Bool, true, false, Result, Ok, Err, OnOk, IfOk, refl}
use Rattle.std.proofs.Common.{sym, ap, ◌∙◌, inl, inr, arith}
use Rattle.std.proofs.lemmas.Bool.{cases_lt}
use Rattle.std.proofs.lemmas.Bool.Decides.{eqb_tells, leb_tells}
use Rattle.synod.specs.Records.{put}
use Rattle.sessions.specs.declared.command.Command.{Command}
use Rattle.synod.specs.declared.vote.Vote.{Vote}
use Rattle.learner.specs.Known.{read_or, in_row, row_from}
use Rattle.learner.specs.Learning.{Heard, unheard}
use Rattle.learner.specs.Places.{place_learnt, place_heard, ignores}
use Rattle.learner.specs.Slots.{SlotHears}
use Rattle.learner.specs.declared.place.Place.{Place}
use Rattle.learner.specs.declared.place.Place.TheVariants.{Told, Learnt}
use Rattle.learner.proofs.SlotLemmas.{put_same}

-- ---- a row
-- a slot below the first isn't of it, and one from there on has its place in it
below_row : (first : ℕ) (row : List Command) (s : ℕ) → s < first → row_from first row s ≡ None
below_row first row s below = elim (leb_tells first s) [
  | inl from ↦ absurd (omega (arith, below, from.1))
  | inr not ↦ rw not.0 refl
]

in_its_place : (first : ℕ) (row : List Command) (s : ℕ) → first ≤ s → row_from first row s ≡ slice_get row (s - first)
in_its_place first row s from = elim (leb_tells first s) [
  | inl is ↦ rw is.0 refl
  | inr not ↦ absurd (omega (arith, from, not.1))
]

-- behind a list there is nothing
none_behind : (row : List Command) → slice_get row (length row) ≡ None
none_behind [] = refl
none_behind (c ∷ row) = none_behind row

-- a command that joins a list is its last
last_of : (row : List Command) (c : Command) → slice_get (row ++ c ∷ []) (length row) ≡ Some c
last_of [] c = refl
last_of (d ∷ row) c = last_of row c

-- and nothing else of it changes
others_of : (row : List Command) (c : Command) (s : ℕ) → s ≢ length row → slice_get (row ++ c ∷ []) s ≡ slice_get row s
others_of [] c zero apart = absurd (apart refl)
others_of [] c (suc s) apart = refl
others_of (d ∷ row) c zero apart = refl
others_of (d ∷ row) c (suc s) apart = others_of row c s (λ e. apart (ap suc e))

module _ (first : ℕ) (row : List Command) (n : ℕ) (next : n ≡ first + length row) where
  from_the_first : first ≤ n
  from_the_first = omega (arith, next)

  at_the_end : n - first ≡ length row
  at_the_end = omega (arith, next)

  -- the next slot of a row isn't of it
  next_is_free : row_from first row n ≡ None
  next_is_free = in_its_place first row n from_the_first ∙ ap (slice_get row) at_the_end ∙ none_behind row

  -- a command that joins it is that of its next slot
  next_is_last : (c : Command) → row_from first (row ++ c ∷ []) n ≡ Some c
  next_is_last c = in_its_place first (row ++ c ∷ []) n from_the_first ∙ ap (slice_get (row ++ c ∷ [])) at_the_end ∙ last_of row c

  -- and of no other slot
  others_stay : (c : Command) (s : ℕ) → s ≢ n → row_from first (row ++ c ∷ []) s ≡ row_from first row s
  others_stay c s apart = elim (cases_lt s first) [
    | inl below ↦ below_row first (row ++ c ∷ []) s below ∙ sym (below_row first row s below)
    | inr from ↦
        let elsewhere : s - first ≢ length row = λ e. apart (omega (arith, e, from, next)) in
        in_its_place first (row ++ c ∷ []) s from ∙ others_of row c (s - first) elsewhere ∙ sym (in_its_place first row s from)
  ]

-- ---- what is known
-- a change at a slot that isn't of the row is a change there
pub row_put : {B : Type 0} (read : Command → B) (row : ℕ → Option Command) (f : ℕ → B) (i : ℕ) (x : B) → row i ≡ None
    → in_row read row (put f i x) ≡ put (in_row read row f) i x
row_put read row f i x behind = λ k s. at s k
  where
    at : (s : ℕ) → in_row read row (put f i x) s ≡ put (in_row read row f) i x s
    at s = elim (eqb_tells s i) [
      | inl same ↦ rw (same.0, same.1, behind) refl
      | inr other ↦ rw other.0 refl
    ]

-- a slot at which nothing is learnt isn't of the row
pub not_of_row : (o other : Option Command) → read_or Some o other ≡ None → o ≡ None
not_of_row None other e = refl
not_of_row (Some c) other e = e

-- at a slot of the row something is learnt
pub is_there : (o other : Option Command) → is_some o ≡ true → read_or Some o other ≡ None → ⊥
is_there None other e none = let bad : false ≡ true = e in cc
is_there (Some c) other e none = let bad : Some c ≡ None = none in cc

-- there is none
pub is_not_there : (o : Option Command) → is_some o ≡ false → o ≡ None
is_not_there None e = refl
is_not_there (Some c) e = absurd (let bad : true ≡ false = e in cc)

-- of such a slot that is read which is otherwise so
behind_reads : {B : Type 0} (read : Command → B) (row : ℕ → Option Command) (f : ℕ → B) (i : ℕ) → row i ≡ None
    → in_row read row f i ≡ f i
behind_reads read row f i behind = rw behind refl

-- a change of what is kept behind the row, where it is made
pub row_put_ok : {A E B : Type 0} (r : Result A E) (read : Command → B) (row : ℕ → Option Command) (f g : ℕ → B) (i : ℕ) (x : B)
    → row i ≡ None → OnOk r (g ≡ put f i x) → OnOk r (in_row read row g ≡ put (in_row read row f) i x)
row_put_ok (Ok a) read row f g i x behind e = ap (in_row read row) e ∙ row_put read row f i x behind
row_put_ok (Err e) read row f g i x behind same = tt

-- where something is learnt nothing else is kept of what was told
pub learnt_unheard : (o : Option Place) (c : Command) → place_learnt o ≡ Some c → place_heard o ≡ unheard
learnt_unheard None c e = refl
learnt_unheard (Some (Told tallies)) c e = absurd (let bad : None ≡ Some c = e in cc)
learnt_unheard (Some (Learnt d)) c e = refl

-- what is read of a slot joins the row
module _ {B : Type 0} (read : Command → B) (first : ℕ) (row : List Command) (c : Command) (f g : ℕ → B) (n : ℕ)
    (next : n ≡ first + length row) where
  abbrev before : (ℕ → B) → ℕ → B
  before = in_row read (row_from first row)

  abbrev after : (ℕ → B) → ℕ → B
  after = in_row read (row_from first (row ++ c ∷ []))

  -- all slots read as before
  row_longer : f n ≡ read c → ((s : ℕ) → s ≢ n → g s ≡ f s) → after g ≡ before f
  row_longer here elsewhere = λ k s. at s k
    where
      at : (s : ℕ) → after g s ≡ before f s
      at s = elim (eqb_tells s n) [
        | inl same ↦
            ap (λ i. after g i) same.1 ∙ rw (next_is_last first row n next c) refl
            ∙ sym here ∙ sym (rw (next_is_free first row n next) refl) ∙ ap (λ i. before f i) (sym same.1)
        | inr other ↦ rw (others_stay first row n next c s other.1, elsewhere s other.1) refl
      ]

  -- the next command is taken into the row
  pub row_takes : (x : B) → f n ≡ read c → g ≡ put f n x → after g ≡ before f
  row_takes x here e = row_longer here (λ s apart. ap (λ h. h s) e ∙ elsewhere s apart)
    where
      elsewhere : (s : ℕ) → s ≢ n → put f n x s ≡ f s
      elsewhere s apart = elim (eqb_tells s n) [
        | inl same ↦ absurd (apart same.1)
        | inr other ↦ rw other.0 refl
      ]

  -- and nothing goes from behind it
  pub row_covers : f n ≡ read c → g ≡ f → after g ≡ before f
  row_covers here e = row_longer here (λ s apart. ap (λ h. h s) e)

  -- a command is learnt at the next slot of the row, and joins it: what was kept of the slot behind the row is no more read
  pub row_joined : (x : B) → g ≡ put f n x → after g ≡ put (before f) n (read c)
  row_joined x e = λ k s. at s k
    where
      at : (s : ℕ) → after g s ≡ put (before f) n (read c) s
      at s = elim (eqb_tells s n) [
        | inl same ↦ rw same.0 (ap (λ i. after g i) same.1 ∙ rw (next_is_last first row n next c) refl)
        | inr other ↦
            let elsewhere : g s ≡ f s = ap (λ h. h s) e ∙ rw other.0 refl in
            rw (other.0, others_stay first row n next c s other.1, elsewhere) refl
      ]

-- the news of a vote, for a slot that is not of the row
module _ (nodes from : ℕ) (v : Vote Command) (row : ℕ → Option Command) (learnt learnt_then : ℕ → Option Command)
    (heard heard_then : ℕ → Heard) where
  abbrev Hears : Bool → Type 0
  Hears learns = SlotHears nodes (in_row Some row learnt) (in_row (λ _. unheard) row heard) from v learns
      (in_row Some row learnt_then) (in_row (λ _. unheard) row heard_then)

  hears_behind : (learns : Bool) → row v.slot ≡ None → SlotHears nodes learnt heard from v learns learnt_then heard_then
      → Hears learns
  hears_behind learns behind h = record {
    turns = rw behind h.turns;
    learnt_elsewhere = moved Some learnt learnt_then h.learnt_elsewhere;
    heard_elsewhere = moved (λ _. unheard) heard heard_then h.heard_elsewhere;
  }
    where
      moved : {B : Type 0} (read : Command → B) (f g : ℕ → B) → g ≡ put f v.slot (g v.slot)
          → in_row read row g ≡ put (in_row read row f) v.slot (in_row read row g v.slot)
      moved read f g e =
          ap (in_row read row) e ∙ row_put read row f v.slot (g v.slot) behind
          ∙ ap (put (in_row read row f) v.slot) (sym (behind_reads read row g v.slot behind))

  pub hears_behind_ok : {E : Type 0} (r : Result Bool E) → row v.slot ≡ None
      → IfOk r (λ learns. SlotHears nodes learnt heard from v learns learnt_then heard_then) → IfOk r Hears
  hears_behind_ok (Ok learns) behind h = hears_behind learns behind h
  hears_behind_ok (Err e) behind h = tt

-- of a slot that is of the row nothing is heard any more
pub hears_settled : (nodes from : ℕ) (v : Vote Command) (learnt : ℕ → Option Command) (heard : ℕ → Heard) → (learnt v.slot ≡ None → ⊥)
    → SlotHears nodes learnt heard from v false learnt heard
hears_settled nodes from v learnt heard there = record {
  turns = ignores (λ none once. there none) refl refl refl;
  learnt_elsewhere = sym (put_same learnt v.slot (learnt v.slot) refl);
  heard_elsewhere = sym (put_same heard v.slot (heard v.slot) refl);
}

-- where nothing is learnt at the next slot of the row
pub none_next : (first : ℕ) (row : List Command) (f : ℕ → Option Command) (n : ℕ) → n ≡ first + length row → f n ≡ None
    → false ≡ is_some (in_row Some (row_from first row) f n)
none_next first row f n next none = rw (next_is_free first row n next, none) refl

-- whether a slot is learnt, told of equal functions
pub tells_of : (f g : ℕ → Option Command) → f ≡ g → (n s : ℕ) → s ≡ n → {b : Bool} → is_some (f s) ≡ b → is_some (g n) ≡ b
tells_of f g same n s there {b} is = ap is_some (sym (ap (λ h. h n) same)) ∙ ap (λ i. is_some (f i)) (sym there) ∙ is
