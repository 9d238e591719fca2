-- Which votes a node's acts add: that of the accept that has come, at a slot from the floor on, and it stands there unless the floor has
-- risen above it.
use Rattle.std.proofs.Common.{◌≡◌, ◌⊎◌, ℕ, ◌≤◌, List, [], ◌∷◌, ◌++◌, Some, Contains, inl, inr, sym, subst, arith, le_refl}
use Rattle.std.proofs.lemmas.Bool.{le-ltb}
use Rattle.std.proofs.lemmas.List.Elements.{Contains-push_cases}
use Rattle.synod.specs.Messages.{Accept}
use Rattle.synod.specs.Records.{LoggedWrite, VoteWrite, PromiseWrite, RoundWrite, CheckpointWrite}
use Rattle.synod.specs.Acts as act
use Rattle.synod.specs.Acts.{Membership, Local, Input, Came, Nothing, Act, Brings, MayAct, MayDo, acted, done, Does}
use Rattle.synod.specs.declared.vote.Vote.{Vote}
use Rattle.synod.proofs.Puts.{put_same}
use Rattle.synod.proofs.Running.{done_writes}

-- an input brings one accept
one_brought : {C : Type 0} (input : Input C) (u v : Vote C) → Brings input (Accept u) → Brings input (Accept v) → u ≡ v
one_brought (Came sender message) u v e d = cc
one_brought Nothing u v e d = absurd e

module _ {C : Type 0} (f : Membership C) (i : ℕ) (input : Input C) where
  -- ---- the floor rises
  act_floor : (x : Local C) (a : Act C) → MayAct f i input x a → x.records.floor ≤ (acted i x a).records.floor
  act_floor x (act.Promises b) m = le_refl _
  act_floor x (act.Tells to b first last told) m = le_refl _
  act_floor x (act.Votes v) m = le_refl _
  act_floor x (act.Confirms to v) m = le_refl _
  act_floor x (act.Checkpoints floor) m = m
  act_floor x act.Trims m = le_refl _
  act_floor x (act.Begins b end) m = le_refl _
  act_floor x (act.Counts k a last votes end told) m = le_refl _
  act_floor x (act.Leads k) m = le_refl _
  act_floor x (act.Proposes k to s c) m = le_refl _
  act_floor x (act.Repeats k to s c) m = le_refl _
  act_floor x (act.Closes k proposals) m = le_refl _
  act_floor x (act.Gathers k end) m = le_refl _
  act_floor x act.Quits m = le_refl _
  act_floor x (act.Hears a v) m = le_refl _
  act_floor x (act.Learns s c) m = le_refl _
  act_floor x (act.Reports to s c) m = le_refl _
  act_floor x (act.Submits c) m = le_refl _
  act_floor x (act.Advances position) m = le_refl _
  act_floor x (act.Says to) m = le_refl _
  act_floor x (act.Drops heard waiting) m = le_refl _
  act_floor x act.Forgets m = le_refl _

  pub done_floor : (x : Local C) (acts : List (Act C)) → MayDo f i input x acts → x.records.floor ≤ (done i x acts).records.floor
  done_floor x [] m = le_refl _
  done_floor x (a ∷ acts) m = omega (arith, act_floor x a m.0, done_floor (acted i x a) acts m.1)

  -- ---- the vote of the accept that has come stands from then on, at a slot from the floor on
  abbrev Stands : Local C → Vote C → Type 0
  Stands x v = x.records.vote v.slot ≡ Some v

  act_stands : (x : Local C) (a : Act C) (v : Vote C) → Brings input (Accept v) → MayAct f i input x a → x.records.floor ≤ v.slot
      → Stands x v → Stands (acted i x a) v
  act_stands x (act.Promises b) v came m low e = e
  act_stands x (act.Tells to b first last told) v came m low e = e
  act_stands x (act.Votes u) v came m low e =
      subst (λ (w : Vote C). Stands (acted i x (act.Votes w)) v) (sym (one_brought input u v m.0 came))
      (put_same x.records.vote v.slot (Some v))
  act_stands x (act.Confirms to u) v came m low e = e
  act_stands x (act.Checkpoints floor) v came m low e = e
  act_stands x act.Trims v came m low e = rw (le-ltb v.slot x.records.floor low) e
  act_stands x (act.Begins b end) v came m low e = e
  act_stands x (act.Counts k a last votes end told) v came m low e = e
  act_stands x (act.Leads k) v came m low e = e
  act_stands x (act.Proposes k to s c) v came m low e = e
  act_stands x (act.Repeats k to s c) v came m low e = e
  act_stands x (act.Closes k proposals) v came m low e = e
  act_stands x (act.Gathers k end) v came m low e = e
  act_stands x act.Quits v came m low e = e
  act_stands x (act.Hears a u) v came m low e = e
  act_stands x (act.Learns s c) v came m low e = e
  act_stands x (act.Reports to s c) v came m low e = e
  act_stands x (act.Submits c) v came m low e = e
  act_stands x (act.Advances position) v came m low e = e
  act_stands x (act.Says to) v came m low e = e
  act_stands x (act.Drops heard waiting) v came m low e = e
  act_stands x act.Forgets v came m low e = e

  done_stands : (x : Local C) (acts : List (Act C)) (v : Vote C) → Brings input (Accept v) → MayDo f i input x acts
      → (done i x acts).records.floor ≤ v.slot → Stands x v → Stands (done i x acts) v
  done_stands x [] v came m low e = e
  done_stands x (a ∷ acts) v came m low e =
      done_stands (acted i x a) acts v came m.1 low
      (act_stands x a v came m.0 (omega (arith, low, done_floor x (a ∷ acts) m)) e)

  -- ---- which votes are new
  -- the vote was cast; or it is that of the accept, from the floor on, and stands where the floor hasn't risen above it
  pub record IsNew (x y : Local C) (v : Vote C) : Type 0 where
    pub brought : Brings input (Accept v)
    pub above : x.records.floor ≤ v.slot
    pub stands : y.records.floor ≤ v.slot → Stands y v

  another_write : (ws : List (LoggedWrite C)) (w : LoggedWrite C) (v : Vote C) → (w ≡ VoteWrite v → ⊥) → Contains (ws ++ w ∷ []) (VoteWrite v)
      → Contains ws (VoteWrite v)
  another_write ws w v apart c = elim (Contains-push_cases ws w (VoteWrite v) c) [ inl old ↦ old | inr new ↦ absurd (apart new) ]

  act_casts : (x : Local C) (a : Act C) (v : Vote C) → MayAct f i input x a → Contains (acted i x a).records.writes (VoteWrite v)
      → Contains x.records.writes (VoteWrite v) ⊎ IsNew x (acted i x a) v
  act_casts x (act.Promises b) v m c = inl (another_write x.records.writes (PromiseWrite b) v (λ e. cc) c)
  act_casts x (act.Tells to b first last told) v m c = inl c
  act_casts x (act.Votes u) v m c = elim (Contains-push_cases x.records.writes (VoteWrite u) (VoteWrite v) c) [
    | inl old ↦ inl old
    | inr new ↦
        let same : u ≡ v = cc in
        inr (subst (λ (w : Vote C). IsNew x (acted i x (act.Votes u)) w) same (record {
          brought = m.0;
          above = m.2;
          stands = λ top. put_same x.records.vote u.slot (Some u);
        }))
  ]
  act_casts x (act.Confirms to u) v m c = inl c
  act_casts x (act.Checkpoints floor) v m c = inl (another_write x.records.writes (CheckpointWrite floor) v (λ e. cc) c)
  act_casts x act.Trims v m c = inl c
  act_casts x (act.Begins b end) v m c = inl (another_write x.records.writes (RoundWrite b.round) v (λ e. cc) c)
  act_casts x (act.Counts k a last votes end told) v m c = inl c
  act_casts x (act.Leads k) v m c = inl c
  act_casts x (act.Proposes k to s d) v m c = inl c
  act_casts x (act.Repeats k to s d) v m c = inl c
  act_casts x (act.Closes k proposals) v m c = inl c
  act_casts x (act.Gathers k end) v m c = inl c
  act_casts x act.Quits v m c = inl c
  act_casts x (act.Hears a u) v m c = inl c
  act_casts x (act.Learns s d) v m c = inl c
  act_casts x (act.Reports to s d) v m c = inl c
  act_casts x (act.Submits d) v m c = inl c
  act_casts x (act.Advances position) v m c = inl c
  act_casts x (act.Says to) v m c = inl c
  act_casts x (act.Drops heard waiting) v m c = inl c
  act_casts x act.Forgets v m c = inl c

  done_casts : (x : Local C) (acts : List (Act C)) (v : Vote C) → MayDo f i input x acts
      → Contains (done i x acts).records.writes (VoteWrite v)
      → Contains x.records.writes (VoteWrite v) ⊎ IsNew x (done i x acts) v
  done_casts x [] v m c = inl c
  done_casts x (a ∷ acts) v m c = elim (done_casts (acted i x a) acts v m.1 c) [
    | inl before ↦ elim (act_casts x a v m.0 before) [
      | inl old ↦ inl old
      | inr now ↦ inr (record {
        brought = now.brought;
        above = now.above;
        stands = λ top. done_stands (acted i x a) acts v now.brought m.1 top
            (now.stands (omega (arith, top, done_floor (acted i x a) acts m.1)));
      })
    ]
    | inr later ↦ inr (record {
      brought = later.brought;
      above = omega (arith, act_floor x a m.0, later.above);
      stands = later.stands;
    })
  ]

  -- what was voted before stays so
  pub does_votes : (x y : Local C) → Does f i input x y → (v : Vote C) → Contains x.records.writes (VoteWrite v)
      → Contains y.records.writes (VoteWrite v)
  does_votes x y d v c = subst (λ (z : Local C). Contains z.records.writes (VoteWrite v)) (sym d.leaves)
      (done_writes i x d.acts (VoteWrite v) c)

  pub does_casts : (x y : Local C) → Does f i input x y → (v : Vote C) → Contains y.records.writes (VoteWrite v)
      → Contains x.records.writes (VoteWrite v) ⊎ IsNew x y v
  does_casts x y d v c =
      subst (λ (z : Local C). Contains x.records.writes (VoteWrite v) ⊎ IsNew x z v) (sym d.leaves)
      (done_casts x d.acts v d.allowed (subst (λ (z : Local C). Contains z.records.writes (VoteWrite v)) d.leaves c))
