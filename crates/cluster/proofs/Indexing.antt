-- The index of a cluster: it stays right as frames are sent, and as one more is entered; what it has is what a datagram is.
use Rattle.std.proofs.Common.{◌≡◌, ◌≢◌, ℕ, zero, suc, ◌+◌, ◌<◌, ◌≤◌, List, [], ◌∷◌, ◌++◌, length, nat_eq, Bool, false, cond, slice_get}
use Rattle.std.proofs.Common.{slice_index_or}
use Rattle.std.proofs.Common.{◌⊎◌, Result, Ok, Err, OnOk, OnErr, IfOk, IfErr, IsErrOf, append-nil, is_some, Option, Some, None, IfSome}
use Rattle.std.proofs.Common.{option_map, refl, sym, ap, subst, ◌∙◌, inl, inr, arith}
use Rattle.std.proofs.Math.Nat.{eq-or-lt_of_le}
use Rattle.std.proofs.lemmas.Bool.{cases_Bool, cond-true, cond-false, false_from_ne_true}
use Rattle.std.proofs.lemmas.List.{map-append, length-map, length-append}
use Rattle.std.proofs.lemmas.Option.{slice_get-map, slice_get_within, slice_get_cases, slice_get_read}
use Rattle.std.specs.Cmp.Lexicographic.{pointwise, bytes_decides}
use Rattle.std.specs.Global.{Vec}
use Rattle.std.specs.HashMap.{HashMap, Updates}
use Rattle.std.specs.Map.{lookup, KeepsOthers}
use Rattle.wire.specs.FrameSpelling.{spelling}
use Rattle.wire.specs.declared.frames.envelope.Envelope.{Envelope}
use Rattle.stable.specs.Script.{Script}
use Rattle.stable.specs.declared.stable.Stable.{Ghosts}
use Rattle.events.specs.declared.event.Event.{Event}
use Rattle.events.specs.declared.fault.WorldFault.{WorldFault}
use Rattle.events.specs.declared.fault.WorldFault.TheVariants as fault
use Rattle.world_model.specs.declared.round_end.RoundEnd.{RoundEnd}
use Rattle.world_model.specs.Rounds.{RoundEnds, IsPartOfRound}
use Rattle.world_model.specs.Worlds.{WorldState, Steps}
use Rattle.world_model.proofs.Progress.FramesGrow.{BeginWith, step_grows, round_grows}
use Rattle.world_model.proofs.Progress.Handing.{within_more}
use Rattle.cluster.specs.Indexes.{Indexes, IsFirstSpelled, NoneBelow, number_of, spellings}
use Rattle.cluster.specs.Lowest.{GoesAs, IsLowestFrame, IsStranger}

-- ---- lists
stays_at : {A : Type 0} (xs ys : List A) (k : ℕ) (x : A) → slice_get xs k ≡ Some x → slice_get (xs ++ ys) k ≡ Some x
stays_at [] ys k x e = absurd (cc)
stays_at (a ∷ xs) ys zero x e = e
stays_at (a ∷ xs) ys (suc k) x e = stays_at xs ys k x e

same_some : {A : Type 0} (x y : A) → Some x ≡ Some y → x ≡ y
same_some x y e = cc

no_two : (a b : List ℕ) → pointwise nat_eq a b ≡ false → a ≢ b
no_two a b e same = let yes = (bytes_decides a b).1 same in absurd (cc)

ne_apart : (a b : List ℕ) → a ≢ b → pointwise nat_eq a b ≡ false
ne_apart a b apart = false_from_ne_true (pointwise nat_eq a b) (λ e. apart ((bytes_decides a b).0 e))

-- ---- what is entered
module _ {S : Type 0} (spelled : List (List ℕ)) (numbers : HashMap (Vec ℕ) ℕ S) (n : ℕ) (h : Indexes spelled numbers n) where
  not_past : (more : List (List ℕ)) (bytes : List ℕ) (end : ℕ) → end ≤ length spelled → NoneBelow spelled bytes end
      → NoneBelow (spelled ++ more) bytes end
  not_past more bytes end within none i less e = none i less (within_more spelled more i bytes (omega (arith, less, within)) e)

  -- more frames are sent
  pub still_indexes : (more : List (List ℕ)) → Indexes (spelled ++ more) numbers n
  still_indexes more = record {
    within = omega (arith, h.within, length-append spelled more);
    found = λ bytes k e. let f = h.found bytes k e in let less = slice_get_within spelled k bytes f.here in record {
      here = stays_at spelled more k bytes f.here;
      first = not_past more bytes k (omega (arith, less)) f.first;
    };
    absent = λ bytes e. not_past more bytes n h.within (h.absent bytes e);
  }

  -- the next one is there already, as a lower one
  pub known_indexes : (bytes : List ℕ) (k : ℕ) → slice_get spelled n ≡ Some bytes → number_of numbers bytes ≡ Some k
      → Indexes spelled numbers (n + 1)
  known_indexes bytes k next known = record {
    within = let less = slice_get_within spelled n bytes next in omega (arith, less);
    found = h.found;
    absent = λ other none i less e. elim (eq-or-lt_of_le (let l : i ≤ n = omega (arith, less) in l)) [
      | inl last ↦ absurd (
          let one : Some bytes ≡ Some other = sym next ∙ sym (ap (λ j. slice_get spelled j) last) ∙ e in
          let known_other : number_of numbers other ≡ Some k =
          subst (λ (b : List ℕ). number_of numbers b ≡ Some k) (same_some bytes other one) known in
          cc)
      | inr before ↦ h.absent other none i before e
    ];
  }

  -- the next one is new, and entered
  pub new_indexes : (bytes : List ℕ) (more : HashMap (Vec ℕ) ℕ S) → slice_get spelled n ≡ Some bytes → number_of numbers bytes ≡ None
      → ((other : List ℕ) → number_of more other ≡ cond (pointwise nat_eq bytes other) (Some n) (number_of numbers other))
      → Indexes spelled more (n + 1)
  new_indexes bytes more next new entered = record {
    within = let less = slice_get_within spelled n bytes next in omega (arith, less);
    found = λ other k e. elim (cases_Bool (pointwise nat_eq bytes other)) [
      | inl same ↦
          let equal : bytes ≡ other = (bytes_decides bytes other).0 same in
          let here : Some n ≡ Some k = sym (entered other ∙ cond-true (pointwise nat_eq bytes other) _ _ same) ∙ e in
          subst (λ j. IsFirstSpelled spelled other j) (same_some n k here)
          (subst (λ (b : List ℕ). IsFirstSpelled spelled b n) equal (record { here = next; first = h.absent bytes new }))
      | inr another ↦ h.found other k (sym (entered other ∙ cond-false (pointwise nat_eq bytes other) _ _ another) ∙ e)
    ];
    absent = λ other none i less e. elim (cases_Bool (pointwise nat_eq bytes other)) [
      | inl same ↦ absurd (
          let here : number_of more other ≡ Some n = entered other ∙ cond-true (pointwise nat_eq bytes other) _ _ same in
          cc)
      | inr another ↦
          let before : number_of numbers other ≡ None =
          sym (entered other ∙ cond-false (pointwise nat_eq bytes other) _ _ another) ∙ none in
          elim (eq-or-lt_of_le (let l : i ≤ n = omega (arith, less) in l)) [
            | inl last ↦ absurd (
                let one : Some bytes ≡ Some other = sym next ∙ sym (ap (λ j. slice_get spelled j) last) ∙ e in
                let same = (bytes_decides bytes other).1 (same_some bytes other one) in
                cc)
            | inr less_ ↦ h.absent other before i less_ e
          ]
    ];
  }

-- a number under a key, and the other keys as they were
pub entered_alone : {S : Type 0} (key : Vec ℕ) (n : ℕ) (old new : HashMap (Vec ℕ) ℕ S)
    → Updates (λ a b. pointwise nat_eq a.items b.items) old new key (Some n) → (other : List ℕ)
    → number_of new other ≡ cond (pointwise nat_eq key.items other) (Some n) (number_of old other)
unfolding KeepsOthers
entered_alone key n old new updates other = elim (cases_Bool (pointwise nat_eq key.items other)) [
  | inl same ↦
      let equal : key.items ≡ other = (bytes_decides key.items other).0 same in
      subst (λ (b : List ℕ). number_of new b ≡ Some n) equal updates.1
      ∙ sym (cond-true (pointwise nat_eq key.items other) (Some n) (number_of old other) same)
  | inr another ↦
      updates.3 (λ k. pointwise nat_eq other k.items)
      (λ x y e. let equal : other ≡ x.items = (bytes_decides other x.items).0 e in ap (λ b. pointwise nat_eq b y.items) equal)
      (λ k e. let equal : key.items ≡ k.items = (bytes_decides key.items k.items).0 e in
      ne_apart other k.items (λ same. no_two key.items other another (equal ∙ sym same)))
      ∙ sym (cond-false (pointwise nat_eq key.items other) (Some n) (number_of old other) another)
]

-- nothing is there
pub not_there : {A : Type 0} (o : Option A) (b : Bool) → b ≡ is_some o → b ≡ false → o ≡ None
not_there None b e absent = refl
not_there (Some x) b e absent = absurd (cc)

-- the same entries
pub same_indexes : {S : Type 0} (spelled : List (List ℕ)) (numbers same : HashMap (Vec ℕ) ℕ S) (n : ℕ) → same.entries ≡ numbers.entries
    → Indexes spelled numbers n → Indexes spelled same n
same_indexes spelled numbers same n e h = record {
  within = h.within;
  found = λ bytes k there. h.found bytes k (ap (λ es. lookup (λ (key : Vec ℕ). pointwise nat_eq bytes key.items) es) (sym e) ∙ there);
  absent = λ bytes none. h.absent bytes (ap (λ es. lookup (λ (key : Vec ℕ). pointwise nat_eq bytes key.items) es) (sym e) ∙ none);
}

-- ---- worlds
begun : {S : Type 0} (w : WorldState S) → BeginWith w.frames w
begun w = record { more = []; all = sym (append-nil w.frames) }

-- a world goes on
pub goes_on : {S M : Type 0} (old new : WorldState S) (numbers : HashMap (Vec ℕ) ℕ M) (n : ℕ) → BeginWith old.frames new
    → Indexes (spellings old.frames) numbers n → Indexes (spellings new.frames) numbers n
goes_on old new numbers n grown h =
    subst (λ (spelled : List (List ℕ)). Indexes spelled numbers n)
    (sym (ap spellings grown.all ∙ map-append spelling old.frames grown.more))
    (still_indexes (spellings old.frames) numbers n h (spellings grown.more))

-- ---- what a datagram is
-- a frame that is read at its number
frame_at : (read frames : List Envelope) (k : ℕ) (frame : Envelope) → read ≡ frames → k < length frames
    → frame ≡ slice_index_or read k frame
    → slice_get frames k ≡ Some frame
frame_at read frames k frame same less is =
    subst (λ (fs : List Envelope). slice_get fs k ≡ Some frame) same
    (slice_get_read read (length read) k frame refl (subst (λ (fs : List Envelope). k < length fs) (sym same) less) is)

-- equal bytes go to one node
one_receiver : (a b : Envelope) → spelling a ≡ spelling b → a.to ≡ b.to
one_receiver a b e = same_some a.to b.to (ap (λ (l : List ℕ). slice_get l 5) e)

spelled_at : (frames : List Envelope) (k : ℕ) (frame : Envelope) → slice_get frames k ≡ Some frame
    → slice_get (spellings frames) k ≡ Some (spelling frame)
spelled_at frames k frame e = slice_get-map spelling frames k ∙ ap (λ o. option_map spelling o) e

-- the k-th frame is spelled so
sent_at : (frames : List Envelope) (k : ℕ) (bytes : List ℕ) → slice_get (spellings frames) k ≡ Some bytes
    → (frame : Envelope) × (slice_get frames k ≡ Some frame) × (spelling frame ≡ bytes)
sent_at frames k bytes e = elim (slice_get_cases frames k).1 [
  | inl p ↦ (p.0, p.2, same_some (spelling p.0) bytes (sym (spelled_at frames k p.0 p.2) ∙ e))
  | inr p ↦ absurd (
      let past = p.0 in
      let less = slice_get_within (spellings frames) k bytes e in
      omega (arith, past, less, length-map frames spelling))
]

none_goes : (frames : List Envelope) (node : ℕ) (bytes : List ℕ) (i : ℕ) → slice_get (spellings frames) i ≢ Some bytes
    → IfSome (slice_get frames i) (λ other. ¬ GoesAs node bytes other)
none_goes frames node bytes i not_here = elim (slice_get_cases frames i).1 [
  | inl p ↦ subst (λ (o : Option Envelope). IfSome o (λ other. ¬ GoesAs node bytes other)) (sym p.2)
      (λ goes. not_here (spelled_at frames i p.0 p.2 ∙ ap Some goes.spelled))
  | inr p ↦ subst (λ (o : Option Envelope). IfSome o (λ other. ¬ GoesAs node bytes other)) (sym p.1) tt
]

module _ {S : Type 0} (frames : List Envelope) (numbers : HashMap (Vec ℕ) ℕ S) (n : ℕ) (h : Indexes (spellings frames) numbers n)
    (all : n ≡ length frames) (node : ℕ) (bytes : List ℕ) where
  -- the number that the index has, where that frame goes to the node
  lowest_found : (k : ℕ) (frame : Envelope) → number_of numbers bytes ≡ Some k → slice_get frames k ≡ Some frame → frame.to ≡ node
      → IsLowestFrame frames node bytes k
  lowest_found k frame found here to =
      let f = h.found bytes k found in
      let sent = sent_at frames k bytes f.here in
      let same : sent.0 ≡ frame = same_some sent.0 frame (sym sent.1 ∙ here) in
      record {
        frame = frame;
        sent = here;
        goes = record { receiver = to; spelled = sym (ap spelling same) ∙ sent.2 };
        lowest = λ i less. none_goes frames node bytes i (f.first i less);
      }

  -- where it goes to another node, none goes to this one
  another_receives : (k : ℕ) (frame : Envelope) → number_of numbers bytes ≡ Some k → slice_get frames k ≡ Some frame → frame.to ≢ node
      → IsStranger frames node bytes
  another_receives k frame found here to i =
      let f = h.found bytes k found in
      let sent = sent_at frames k bytes f.here in
      let same : sent.0 ≡ frame = same_some sent.0 frame (sym sent.1 ∙ here) in
      let spelled : spelling frame ≡ bytes = sym (ap spelling same) ∙ sent.2 in
      elim (slice_get_cases frames i).1 [
        | inl p ↦ subst (λ (o : Option Envelope). IfSome o (λ other. ¬ GoesAs node bytes other)) (sym p.2)
            (λ goes. to (one_receiver frame p.0 (spelled ∙ sym goes.spelled) ∙ goes.receiver))
        | inr p ↦ subst (λ (o : Option Envelope). IfSome o (λ other. ¬ GoesAs node bytes other)) (sym p.1) tt
      ]

  -- where it has none, none was sent so
  none_found : number_of numbers bytes ≡ None → IsStranger frames node bytes
  none_found none i = none_goes frames node bytes i (λ e.
      let less = slice_get_within (spellings frames) i bytes e in
      h.absent bytes none i (omega (arith, less, all, length-map frames spelling)) e)

  -- and the number that it has is that of a frame
  found_within : (k : ℕ) → number_of numbers bytes ≡ Some k → k < length frames
  found_within k found =
      let less = slice_get_within (spellings frames) k bytes (h.found bytes k found).here in
      omega (arith, less, length-map frames spelling)

-- the same of frames that are looked at again: these are those from before, and they are read as such
module _ {S : Type 0} (frames now read : List Envelope) (same : now ≡ frames) (read_again : read ≡ now)
    (numbers : HashMap (Vec ℕ) ℕ S) (n : ℕ) (h : Indexes (spellings now) numbers n) (all : n ≡ length frames)
    (node : ℕ) (bytes : List ℕ) where
  as_before : Indexes (spellings frames) numbers n
  as_before = subst (λ (fs : List Envelope). Indexes (spellings fs) numbers n) same h

  pub none_there : number_of numbers bytes ≡ None → IsStranger frames node bytes
  none_there = none_found frames numbers n as_before all node bytes

  pub there_within : (k : ℕ) → number_of numbers bytes ≡ Some k → k < length read
  there_within k found =
      subst (λ (fs : List Envelope). k < length fs) (sym (read_again ∙ same))
      (found_within frames numbers n as_before all node bytes k found)

  there_at : (k : ℕ) (frame : Envelope) → number_of numbers bytes ≡ Some k → frame ≡ slice_index_or read k frame
      → slice_get frames k ≡ Some frame
  there_at k frame found is =
      frame_at read frames k frame (read_again ∙ same) (found_within frames numbers n as_before all node bytes k found) is

  pub another_there : (k : ℕ) (frame : Envelope) → number_of numbers bytes ≡ Some k → frame ≡ slice_index_or read k frame
      → frame.to ≢ node → IsStranger frames node bytes
  another_there k frame found is to =
      another_receives frames numbers n as_before all node bytes k frame found (there_at k frame found is) to

  pub lowest_there : (k : ℕ) (frame : Envelope) → number_of numbers bytes ≡ Some k → frame ≡ slice_index_or read k frame
      → frame.to ≡ node → IsLowestFrame frames node bytes k
  lowest_there k frame found is to =
      lowest_found frames numbers n as_before all node bytes k frame found (there_at k frame found is) to

-- ---- calls
-- a step, whatever it answered
pub stepped_index : {S M : Type 0} (storages : Ghosts (Script S)) (old new : WorldState S) (e : Event)
    (result : Result (Unit {0}) WorldFault)
    (numbers : HashMap (Vec ℕ) ℕ M) (n : ℕ) → OnOk result (Steps storages old e new) → OnErr result (new ≡ old)
    → Indexes (spellings old.frames) numbers n → Indexes (spellings new.frames) numbers n
stepped_index storages old new e (Ok x) numbers n steps same h =
    goes_on old new numbers n (step_grows storages old.frames old e new steps (begun old)) h
stepped_index storages old new e (Err f) numbers n steps same h =
    subst (λ (w : WorldState _). Indexes (spellings w.frames) numbers n) (sym same) h

-- a round, whatever it answered
pub round_index : {S M : Type 0} (storages : Ghosts (Script S)) (old new : WorldState S) (node : ℕ) (members : List ℕ)
    (result : Result RoundEnd WorldFault) (numbers : HashMap (Vec ℕ) ℕ M) (n : ℕ)
    → IfOk result (λ end. RoundEnds storages old node members end new)
    → (IsErrOf result fault.NoSuchNode → new ≡ old)
    → (IsErrOf result fault.Memory → IsPartOfRound storages old node members new)
    → IfErr result (λ f. (f ≡ fault.NoSuchNode) ⊎ (f ≡ fault.Memory))
    → Indexes (spellings old.frames) numbers n → Indexes (spellings new.frames) numbers n
round_index storages old new node members result numbers n ends unchanged part faults h =
    goes_on old new numbers n
    (round_grows storages old.frames old new node members result ends unchanged part faults (begun old)) h
