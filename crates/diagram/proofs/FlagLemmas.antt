-- Flags of steps, and the places of those that are set.
use Rattle.std.proofs.Common.{◌≡◌, ◌∙◌, ◌⊎◌, inl, inr, ℕ, zero, suc, ◌+◌, ◌-◌, ◌*◌, ◌^◌, ◌<◌, ◌≤◌, max, min, List, [], ◌∷◌, ◌++◌, length, take, replicate, slice_get, slice_index_or, slice_set, Bool, true, false, Some, if◌then◌else◌, refl, sym, subst, ap, arith}
use Rattle.std.proofs.lemmas.Bool.{cases_lt, false≢true}
use Rattle.std.proofs.lemmas.List.{get_or_append_left, get_or_past}
use Rattle.std.proofs.lemmas.Option.{none-some, same_Some}
use Rattle.diagram.specs.Places.{HaveRoom, Stands, down, further}
use Rattle.diagram.specs.Shown.{IsJust, IsLayout, IsSet, IsStepOf, IsStepOfFrames, Sets, StandWhereSet, first_step, frame, label, label_step, last_step, mark, mark_step}
use Rattle.diagram.specs.declared.arrows.Passage.{Passage}
use Rattle.diagram.specs.declared.layout.Window.{Window}
use Rattle.diagram.specs.declared.scene.Scene.{Scene}
use Rattle.diagram.proofs.ListLemmas.{got_before, got_last, got_of_more, last_number, number_of_more, take_so_far}

-- ---- sets of flags
pub sets_none : (P : ℕ → Type 0) (flags : List Bool) → ((step : ℕ) → ¬ (P step)) → Sets P flags flags
sets_none P flags never = record {
  long = refl;
  kept = λ step h. h;
  set = λ step below p. absurd (never step p);
  only = λ step h. inl h;
}

-- flags of one kind and then of another are those of either
pub sets_then : (P Q R : ℕ → Type 0) (a b c : List Bool) → Sets P a b → Sets Q b c → ((step : ℕ) → R step → P step ⊎ Q step)
    → ((step : ℕ) → P step → R step) → ((step : ℕ) → Q step → R step) → Sets R a c
sets_then P Q R a b c p q either left right = record {
  long = q.long ∙ p.long;
  kept = λ step h. q.kept step (p.kept step h);
  set = λ step below r. elim (either step r) [
    | inl x ↦ q.kept step (p.set step below x)
    | inr y ↦ q.set step (subst (λ (n : ℕ). step < n) (sym p.long) below) y
  ];
  only = λ step h. elim (q.only step h) [
    | inl x ↦ elim (p.only step x) [ inl u ↦ inl u | inr v ↦ inr (left step v) ]
    | inr y ↦ inr (right step y)
  ];
}

-- the same flags, said in other words
pub sets_same : (P R : ℕ → Type 0) (a b : List Bool) → Sets P a b → ((step : ℕ) → R step → P step) → ((step : ℕ) → P step → R step)
    → Sets R a b
sets_same P R a b p from to = record {
  long = p.long;
  kept = p.kept;
  set = λ step below r. p.set step below (from step r);
  only = λ step h. elim (p.only step h) [ inl u ↦ inl u | inr v ↦ inr (to step v) ];
}

-- ---- one flag
set_there : (flags : List Bool) (i : ℕ) → i < length flags → slice_get (slice_set flags i true) i ≡ Some true
set_there [] i h = absurd (omega (arith, h))
set_there (b ∷ flags) zero h = refl
set_there (b ∷ flags) (suc i) h = set_there flags i (omega (arith, h))

set_long : (flags : List Bool) (i : ℕ) → length (slice_set flags i true) ≡ length flags
set_long [] i = refl
set_long (b ∷ flags) zero = refl
set_long (b ∷ flags) (suc i) = ap (λ (n : ℕ). suc n) (set_long flags i)

set_keeps : (flags : List Bool) (i k : ℕ) → IsSet flags k → IsSet (slice_set flags i true) k
set_keeps [] i k h = h
set_keeps (b ∷ flags) zero zero h = refl
set_keeps (b ∷ flags) zero (suc k) h = h
set_keeps (b ∷ flags) (suc i) zero h = h
set_keeps (b ∷ flags) (suc i) (suc k) h = set_keeps flags i k h

set_only : (flags : List Bool) (i k : ℕ) → IsSet (slice_set flags i true) k → IsSet flags k ⊎ (i ≡ k)
set_only [] i k h = inl h
set_only (b ∷ flags) zero zero h = inr refl
set_only (b ∷ flags) zero (suc k) h = inl h
set_only (b ∷ flags) (suc i) zero h = inl h
set_only (b ∷ flags) (suc i) (suc k) h = elim (set_only flags i k h) [ inl x ↦ inl x | inr e ↦ inr (ap (λ (n : ℕ). suc n) e) ]

pub sets_one : (flags new : List Bool) (i : ℕ) → new ≡ slice_set flags i true → Sets (λ step. i ≡ step) flags new
sets_one flags new i is = subst (λ (xs : List Bool). Sets (λ step. i ≡ step) flags xs) (sym is) (record {
  long = set_long flags i;
  kept = λ k h. set_keeps flags i k h;
  set = λ k below e.
      subst (λ (n : ℕ). IsSet (slice_set flags i true) n) e (set_there flags i (subst (λ (n : ℕ). n < length flags) (sym e) below));
  only = λ k h. set_only flags i k h;
})

-- one past the end sets none
pub sets_past : (flags : List Bool) (i : ℕ) → length flags ≤ i → Sets (λ step. i ≡ step) flags flags
sets_past flags i past = record {
  long = refl;
  kept = λ k h. h;
  set = λ k below e. absurd (omega (arith, past, below, e));
  only = λ k h. inl h;
}

-- ---- the steps of things
module _ {A : Type 0} (step_of : A → ℕ) (first last : ℕ) where
  pub no_steps : (flags : List Bool) → Sets (IsStepOf step_of [] first last) flags flags
  no_steps flags = sets_none (IsStepOf step_of [] first last) flags (λ step h. none-some h.thing h.there)

  step_of_more : (things : List A) (x : A) (step : ℕ) → IsStepOf step_of (things ++ x ∷ []) first last step
      → IsStepOf step_of things first last step ⊎ IsJust (step_of x) first last step
  step_of_more things x step h = elim (got_of_more things x h.thing h.number h.there) [
    | inl there ↦ inl (record { number = h.number; thing = h.thing; there = there; is = h.is; from = h.from; to = h.to })
    | inr e ↦ inr (record { is = ap step_of e.1 ∙ h.is; from = h.from; to = h.to })
  ]

  steps_more : (things : List A) (x : A) (a b c : List Bool) → Sets (IsStepOf step_of things first last) a b
      → Sets (IsJust (step_of x) first last) b c → Sets (IsStepOf step_of (things ++ x ∷ []) first last) a c
  steps_more things x a b c before now =
      sets_then (IsStepOf step_of things first last) (IsJust (step_of x) first last) (IsStepOf step_of (things ++ x ∷ []) first last) a b c
      before now (step_of_more things x)
      (λ step h. record {
        number = h.number;
        thing = h.thing;
        there = got_before things (x ∷ []) h.number h.thing h.there;
        is = h.is;
        from = h.from;
        to = h.to;
      })
      (λ step h. record { number = length things; thing = x; there = got_last things x (length things) refl; is = h.is; from = h.from; to = h.to })

  pub one_more_step : (things : List A) (i : ℕ) (x : A) (a b c : List Bool) → i < length things → x ≡ slice_index_or things i x
      → Sets (IsStepOf step_of (take i things) first last) a b → Sets (IsJust (step_of x) first last) b c
      → Sets (IsStepOf step_of (take (i + 1) things) first last) a c
  one_more_step things i x a b c below read before now =
      let more = take_so_far things i x below read in
      subst (λ (xs : List A). Sets (IsStepOf step_of xs first last) a c) more (steps_more (take i things) x a b c before now)

-- ---- the steps of frames
module _ (passages : List Passage) where
  pub no_frames : (n : ℕ) (flags : List Bool) → Sets (IsStepOfFrames passages n n) flags flags
  no_frames n flags = sets_none (IsStepOfFrames passages n n) flags (λ step h. omega (arith, h.from, h.below))

  -- what the frames before it have, and that one
  frame_of_more : (first n step : ℕ) → IsStepOfFrames passages first (n + 1) step
      → IsStepOfFrames passages first n step ⊎ IsStepOfFrames passages n (n + 1) step
  frame_of_more first n step h = elim (cases_lt h.number n) [
    | inl below ↦ inl (record { number = h.number; from = h.from; below = below; passage = h.passage; there = h.there; is = h.is })
    | inr from ↦ inr (record { number = h.number; from = from; below = h.below; passage = h.passage; there = h.there; is = h.is })
  ]

  pub one_more_frame : (first n : ℕ) (a b c : List Bool) → first ≤ n → Sets (IsStepOfFrames passages first n) a b
      → Sets (IsStepOfFrames passages n (n + 1)) b c → Sets (IsStepOfFrames passages first (n + 1)) a c
  one_more_frame first n a b c ordered before now =
      sets_then (IsStepOfFrames passages first n) (IsStepOfFrames passages n (n + 1)) (IsStepOfFrames passages first (n + 1)) a b c
      before now (frame_of_more first n)
      (λ step h. record {
        number = h.number;
        from = h.from;
        below = omega (arith, h.below);
        passage = h.passage;
        there = h.there;
        is = h.is;
      })
      (λ step h. record {
        number = h.number;
        from = omega (arith, ordered, h.from);
        below = h.below;
        passage = h.passage;
        there = h.there;
        is = h.is;
      })

-- ---- places
pub none_stand : (bottom : ℕ) → StandWhereSet [] [] bottom
none_stand bottom = record {
  stands = λ step h. absurd (none-some true h);
  set = λ step h. absurd (omega (arith, h));
  stacked = record { apart = λ i j ordered h k. absurd (omega (arith, h)); inside = λ step. omega arith };
}

-- the next step stands at this height, if its flag is set
abbrev pub place_if : Bool → ℕ → ℕ
place_if flag height = if flag then height else 0

-- the next step, if it stands, is so far below those so far as it wants
module _ (ends : List ℕ) (low : ℕ) (inside : (step : ℕ) → down ends step ≤ low) (gap : ℕ → ℕ)
    (apart : (i j : ℕ) → i < j → Stands ends i → Stands ends j → further (down ends i) (gap j) ≤ down ends j) where
  pub apart_more : (e : ℕ) → (0 < e → further low (gap (length ends)) ≤ e) → (i j : ℕ) → i < j → Stands (ends ++ e ∷ []) i
      → Stands (ends ++ e ∷ []) j → further (down (ends ++ e ∷ []) i) (gap j) ≤ down (ends ++ e ∷ []) j
  apart_more e far i j ordered h k = elim (number_of_more ends e j) [
    | inl b ↦
        let a = get_or_append_left ends (e ∷ []) 0 i (omega (arith, ordered, b.0)) in
        omega (arith, apart i j ordered (omega (arith, h, a)) (omega (arith, k, b.1)), a, b.1)
    | inr s ↦ elim s [
      | inl b ↦
          let a = get_or_append_left ends (e ∷ []) 0 i (omega (arith, ordered, b.0)) in
          omega (arith, inside i, a, b.1, far (omega (arith, k, b.1)), ap gap b.0)
      | inr b ↦ absurd (omega (arith, b.1, k))
    ]
  ]

-- so there is room for the next step's lines of text
pub room_more : (texts ends : List ℕ) (low e : ℕ) → ((step : ℕ) → down ends step ≤ low) → HaveRoom texts ends
    → (0 < e → further low (max 450 (slice_index_or texts (length ends) 0 * 900)) ≤ e) → HaveRoom texts (ends ++ e ∷ [])
room_more texts ends low e inside room far =
    record { each = apart_more ends low inside (λ (j : ℕ). max 450 (slice_index_or texts j 0 * 900)) room.each e far }

pub room_if : (flag : Bool) (low high row lines count : ℕ) → (flag ≡ true → high ≡ further low row) → lines ≡ count
    → max 450 (min (count * 900) (2 ^ 32 - 1)) ≤ row → 0 < place_if flag high → further low (max 450 (lines * 900)) ≤ place_if flag high
room_if true low high row lines count is same much up = omega (arith, is refl, same, much)
room_if false low high row lines count is same much up = absurd (omega (arith, up))

module _ (ends : List ℕ) (low : ℕ) (flags : List Bool) (same : length ends ≡ length flags) (stand : StandWhereSet flags ends low) where
  stood : (step : ℕ) → Stands ends step → step < length ends
  stood step h = elim (cases_lt step (length ends)) [
    | inl k ↦ k
    | inr k ↦ absurd (omega (arith, h, get_or_past ends step 0 k))
  ]

  still : (e step : ℕ) → step < length ends → down (ends ++ e ∷ []) step ≡ down ends step
  still e step h = get_or_append_left ends (e ∷ []) 0 step h

  stands_still : (e step : ℕ) → Stands ends step → Stands (ends ++ e ∷ []) step
  stands_still e step h = omega (arith, h, still e step (stood step h))

  apart_still : (e i j : ℕ) → (0 < e → further low 450 ≤ e) → i < j → Stands (ends ++ e ∷ []) i → Stands (ends ++ e ∷ []) j
      → further (down (ends ++ e ∷ []) i) 450 ≤ down (ends ++ e ∷ []) j
  apart_still e i j far ordered h k =
      apart_more ends low stand.stacked.inside (λ (n : ℕ). 450) stand.stacked.apart e far i j ordered h k

  inside_still : (e high : ℕ) → low ≤ high → e ≤ high → (step : ℕ) → down (ends ++ e ∷ []) step ≤ high
  inside_still e high lower top step = elim (number_of_more ends e step) [
    | inl h ↦ omega (arith, stand.stacked.inside step, h.1, lower)
    | inr s ↦ elim s [
      | inl h ↦ omega (arith, h.1, top)
      | inr h ↦ omega (arith, h)
    ]
  ]

  stand_more : (flag : Bool) (e high : ℕ) → (flag ≡ true → 0 < e) → (0 < e → flag ≡ true) → (0 < e → further low 450 ≤ e) → low ≤ high
      → e ≤ high → StandWhereSet (flags ++ flag ∷ []) (ends ++ e ∷ []) high
  stand_more flag e high up flagged far lower top = record {
    stands = λ step h. elim (got_of_more flags flag true step h) [
      | inl set ↦ stands_still e step (stand.stands step set)
      | inr k ↦ omega (arith, last_number ends e step (k.0 ∙ sym same), up k.1)
    ];
    set = λ step h. elim (number_of_more ends e step) [
      | inl k ↦ got_before flags (flag ∷ []) step true (stand.set step (omega (arith, h, k.1)))
      | inr s ↦ elim s [
        | inl k ↦ got_last flags flag step (k.0 ∙ same) ∙ ap (λ (b : Bool). Some b) (flagged (omega (arith, h, k.1)))
        | inr k ↦ absurd (omega (arith, h, k.1))
      ]
    ];
    stacked = record {
      apart = λ i j ordered h k. apart_still e i j far ordered h k;
      inside = inside_still e high lower top;
    };
  }

  pub stand_if : (flag : Bool) (high : ℕ) → low ≤ high → 0 < high → (flag ≡ true → further low 450 ≤ high)
      → StandWhereSet (flags ++ flag ∷ []) (ends ++ place_if flag high ∷ []) high
  stand_if true high lower up far = stand_more true high high (λ e. up) (λ h. refl) (λ h. far refl) lower (omega arith)
  stand_if false high lower up far =
      stand_more false 0 high (λ e. absurd (false≢true e)) (λ h. absurd (omega (arith, h))) (λ h. absurd (omega (arith, h))) lower
      (omega arith)

-- ---- the layout
never_set : (n step : ℕ) → ¬ (IsSet (replicate n false) step)
never_set zero step h = none-some true h
never_set (suc n) zero h = false≢true (same_Some false true h)
never_set (suc n) (suc step) h = never_set n step h

module _ (s : Scene) (window : Window) (first last : ℕ) (from : first ≡ first_step s window) (to : last ≡ last_step s window) where
  between : {A : Type 0} (step_of : A → ℕ) (things : List A) (a b : List Bool) → Sets (IsStepOf step_of things first last) a b
      → Sets (IsStepOf step_of things (first_step s window) (last_step s window)) a b
  between step_of things a b h =
      subst (λ (n : ℕ). Sets (IsStepOf step_of things (first_step s window) n) a b) to
      (subst (λ (n : ℕ). Sets (IsStepOf step_of things n last) a b) from h)

  pub layout : (n : ℕ) (a b c d : List Bool) (ends : List ℕ) (bottom : ℕ) → a ≡ replicate n false → s.steps ≤ length a
      → Sets (IsStepOfFrames s.passages.now window.first window.end) a b → Sets (IsStepOf mark_step s.marks.now first last) b c
      → Sets (IsStepOf label_step s.labels.now first last) c d → StandWhereSet d ends bottom
      → IsLayout s window ends bottom
  layout n a b c d ends bottom empty steps frames marks_so labels_so stand =
      let marks = between mark_step s.marks.now b c marks_so in
      let labels = between label_step s.labels.now c d labels_so in record {
        stands = λ step below told. stand.stands step (elim told [
          | frame h ↦ labels.kept step (marks.kept step (frames.set step (omega (arith, below, steps)) h))
          | mark h ↦ labels.kept step (marks.set step (omega (arith, below, steps, frames.long)) h)
          | label h ↦ labels.set step (omega (arith, below, steps, frames.long, marks.long)) h
        ]);
        tells = λ step h. elim (labels.only step (stand.set step h)) [
          | inr told ↦ label told
          | inl x ↦ elim (marks.only step x) [
            | inr told ↦ mark told
            | inl y ↦ elim (frames.only step y) [
              | inr told ↦ frame told
              | inl z ↦ absurd (never_set n step (subst (λ (flags : List Bool). IsSet flags step) empty z))
            ]
          ]
        ];
        stacked = stand.stacked;
      }
