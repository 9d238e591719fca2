-- Reading entries one after the other, as a loop does; and what promises may say of them.
use Rattle.std.proofs.Common.{◌≡◌, ℕ, zero, suc, ◌-◌, ◌+◌, ◌≤◌, ◌<◌, Bool, true, false, ltb, ◌||◌, List, [], ◌∷◌, ◌++◌, length, Result, Ok}
use Rattle.std.proofs.Common.{Err, IfOk, refl, sym, ap, subst, ◌∙◌, arith}
use Rattle.std.proofs.lemmas.List.{append-nil}
use Rattle.synod.specs.Ballots.{rank}
use Rattle.synod.specs.declared.ballot.Ballot.{Ballot}
use Rattle.synod.specs.declared.vote.Vote.{Vote}
use Rattle.sessions.specs.declared.command.Command.{Command}
use Rattle.wire.specs.declared.frames.fault.WireFault.{WireFault}
use Rattle.wire.specs.declared.frames.fault.WireFault.TheVariants.{Field}
use Rattle.wire.specs.declared.frames.fault.WireFault.TheVariants as faults
use Rattle.wire.specs.Promises.{IsToldVote, AreTold}
use Rattle.fields.specs.Reading.{◌>>=◌}
use Rattle.wire.specs.Reading.{Read, Fails, Gives, ballot_at, slot_at, command_at}
use Rattle.wire.specs.FrameReading.{slot_within, ballot_up_to, entry_at, entries_at}
use Rattle.fields.proofs.FieldLemmas.{bind_ok, guard_ok, ok_is, at_most}
use Rattle.fields.proofs.LoopLemmas.{with_front, regroup, bind_inside}

-- a first step that fails is the fault of the whole
fails_first : {A B : Type 0} (e : WireFault) (first : Result A WireFault) (then : A → Result B WireFault) (total : Result B WireFault)
    → Fails e first → total ≡ (first >>= then) → Fails e total
fails_first {A} {B} faults.Memory first then total h so_far = tt
fails_first {A} {B} faults.Short first then total h so_far = so_far ∙ ap (λ (r : Result A WireFault). r >>= then) h
fails_first {A} {B} faults.Magic first then total h so_far = so_far ∙ ap (λ (r : Result A WireFault). r >>= then) h
fails_first {A} {B} faults.Version first then total h so_far = so_far ∙ ap (λ (r : Result A WireFault). r >>= then) h
fails_first {A} {B} faults.Kind first then total h so_far = so_far ∙ ap (λ (r : Result A WireFault). r >>= then) h
fails_first {A} {B} faults.Field first then total h so_far = so_far ∙ ap (λ (r : Result A WireFault). r >>= then) h
fails_first {A} {B} faults.Trailing first then total h so_far = so_far ∙ ap (λ (r : Result A WireFault). r >>= then) h
fails_first {A} {B} faults.Long first then total h so_far = so_far ∙ ap (λ (r : Result A WireFault). r >>= then) h

pub entries_go_on : (nodes : ℕ) (limit : Ballot) (last : ℕ) (front : List (Vote Command)) (count i from : ℕ) (bytes : List ℕ)
    (v : Vote Command) (after : List ℕ) (total : Read (List (Vote Command))) → i < count
    → entry_at nodes limit from last bytes ≡ Ok (v, after) → with_front front (entries_at nodes limit last (count - i) from bytes) ≡ total
    → with_front (front ++ v ∷ []) (entries_at nodes limit last (count - (i + 1)) (v.slot + 1) after) ≡ total
unfolding entries_at
entries_go_on nodes limit last front count i from bytes v after total lt h so_far =
    let k : count - i ≡ suc (count - (i + 1)) = omega arith in
    let one : with_front front (entries_at nodes limit last (count - i) from bytes)
    ≡ with_front (front ++ v ∷ []) (entries_at nodes limit last (count - (i + 1)) (v.slot + 1) after) =
    rw (k, h) (regroup front v (entries_at nodes limit last (count - (i + 1)) (v.slot + 1) after)) in
    sym one ∙ so_far

pub entries_end : (nodes : ℕ) (limit : Ballot) (last : ℕ) (e : WireFault) (front : List (Vote Command)) (count i from : ℕ) (bytes : List ℕ)
    (total : Read (List (Vote Command))) → i < count
    → Fails e (entry_at nodes limit from last bytes) → with_front front (entries_at nodes limit last (count - i) from bytes) ≡ total
    → Fails e total
unfolding entries_at
entries_end nodes limit last e front count i from bytes total lt h so_far =
    let k : count - i ≡ suc (count - (i + 1)) = omega arith in
    let others = λ (x : Vote Command × List ℕ). entries_at nodes limit last (count - (i + 1)) (x.0.slot + 1) x.1 in
    let one : with_front front (entries_at nodes limit last (count - i) from bytes)
    ≡ (entry_at nodes limit from last bytes >>= λ x. with_front front (others x >>= λ y. Ok (x.0 ∷ y.0, y.1))) =
    rw k (bind_inside front (entry_at nodes limit from last bytes) others) in
    fails_first e (entry_at nodes limit from last bytes) _ total h (sym so_far ∙ one)

pub entries_done : (nodes : ℕ) (limit : Ballot) (last : ℕ) (front : List (Vote Command)) (count i from : ℕ) (bytes : List ℕ)
    (total : Read (List (Vote Command))) → count ≤ i
    → with_front front (entries_at nodes limit last (count - i) from bytes) ≡ total → total ≡ Ok (front, bytes)
unfolding entries_at
entries_done nodes limit last front count i from bytes total le so_far =
    let k : count - i ≡ 0 = omega arith in
    let one : with_front front (entries_at nodes limit last (count - i) from bytes)
    ≡ Ok (front, bytes) = rw k (ap (λ (xs : List (Vote Command)). Ok (xs, bytes)) (append-nil front)) in
    sym so_far ∙ one

-- ---- what was read may be told
neither : (a b : Bool) → (a || b) ≡ false → (a ≡ false) × (b ≡ false)
neither true b e = absurd cc
neither false b e = (refl, e)

within_is : (from last : ℕ) (bytes : List ℕ) (x : ℕ × List ℕ) → slot_within from last bytes ≡ Ok x → (from ≤ x.0) × (x.0 ≤ last)
unfolding slot_within
within_is from last bytes x e =
    let s = bind_ok (slot_at bytes) _ x e in
    let g = guard_ok (ltb s.0.0 from || ltb last s.0.0) Field _ x s.2 in
    let n = neither _ _ g.0 in
    subst (λ (y : ℕ × List ℕ). (from ≤ y.0) × (y.0 ≤ last)) (ok_is _ _ g.1) (at_most s.0.0 from n.0, at_most last s.0.0 n.1)

up_to_is : (nodes : ℕ) (limit : Ballot) (bytes : List ℕ) (x : Ballot × List ℕ) → ballot_up_to nodes limit bytes ≡ Ok x
    → rank x.0 ≤ rank limit
unfolding ballot_up_to
up_to_is nodes limit bytes x e =
    let b = bind_ok (ballot_at nodes bytes) _ x e in
    let g = guard_ok (ltb (rank limit) (rank b.0.0)) Field _ x b.2 in
    subst (λ (y : Ballot × List ℕ). rank y.0 ≤ rank limit) (ok_is _ _ g.1) (at_most (rank limit) (rank b.0.0) g.0)

entry_is_told : (nodes : ℕ) (limit : Ballot) (from last : ℕ) (bytes : List ℕ) (x : Vote Command × List ℕ)
    → entry_at nodes limit from last bytes ≡ Ok x → IsToldVote limit from last x.0
unfolding entry_at
entry_is_told nodes limit from last bytes x e =
    let s = bind_ok (slot_within from last bytes) _ x e in
    let ts = within_is from last bytes s.0 s.1 in
    let b = bind_ok (ballot_up_to nodes limit s.0.1) _ x s.2 in
    let tb = up_to_is nodes limit s.0.1 b.0 b.1 in
    let c = bind_ok (command_at b.0.1) _ x b.2 in
    let made : Vote Command = record { slot = s.0.0; ballot = b.0.0; command = c.0.0 } in
    let it : IsToldVote limit from last made = record { not_before = ts.0; not_after = ts.1; not_above = tb } in
    subst (λ (y : Vote Command × List ℕ). IsToldVote limit from last y.0) (ok_is _ _ c.2) it

-- so many, and a promise may tell them
pub entries_are_told : (nodes : ℕ) (limit : Ballot) (last count from : ℕ) (bytes : List ℕ) (x : List (Vote Command) × List ℕ)
    → entries_at nodes limit last count from bytes ≡ Ok x
    → (length x.0 ≡ count) × AreTold limit from last x.0
unfolding entries_at
entries_are_told nodes limit last zero from bytes x e =
    subst (λ (y : List (Vote Command) × List ℕ). (length y.0 ≡ 0) × AreTold limit from last y.0) (ok_is _ _ e) (refl, tt)
entries_are_told nodes limit last (suc count) from bytes x e =
    let a = bind_ok (entry_at nodes limit from last bytes) _ x e in
    let t = entry_is_told nodes limit from last bytes a.0 a.1 in
    let b = bind_ok (entries_at nodes limit last count (a.0.0.slot + 1) a.0.1) _ x a.2 in
    let u = entries_are_told nodes limit last count (a.0.0.slot + 1) a.0.1 b.0 b.1 in
    subst (λ (y : List (Vote Command) × List ℕ). (length y.0 ≡ suc count) × AreTold limit from last y.0) (ok_is _ _ b.2)
    (ap suc u.0, (t, u.1))

-- whatever holds what was read
pub told_of : {X : Type 0} (items : X → List (Vote Command)) (nodes : ℕ) (limit : Ballot) (last count from : ℕ) (bytes rest : List ℕ)
    (r : Result X WireFault)
    → Gives (λ x. (items x, rest)) r (entries_at nodes limit last count from bytes) → IfOk r (λ x. AreTold limit from last (items x))
told_of {X} items nodes limit last count from bytes rest (Ok x) h = (entries_are_told nodes limit last count from bytes (items x, rest) h).1
told_of {X} items nodes limit last count from bytes rest (Err e) h = tt

pub few_of : {X : Type 0} (items : X → List (Vote Command)) (most nodes : ℕ) (limit : Ballot) (last count from : ℕ) (bytes rest : List ℕ)
    (r : Result X WireFault)
    → count ≤ most → Gives (λ x. (items x, rest)) r (entries_at nodes limit last count from bytes) → IfOk r (λ x. length (items x) ≤ most)
few_of {X} items most nodes limit last count from bytes rest (Ok x) few h =
    let counted : length (items x) ≡ count = (entries_are_told nodes limit last count from bytes (items x, rest) h).0 in
    omega arith
few_of {X} items most nodes limit last count from bytes rest (Err e) few h = tt
