-- Reading one after the other, as a loop does; and triples so.
use Rattle.std.proofs.Common.{◌≡◌, ℕ, suc, ◌-◌, ◌+◌, ◌≤◌, ◌<◌, List, [], ◌∷◌, ◌++◌, Result, Ok, Err, refl, sym, ap, ◌∙◌, append_assoc}
use Rattle.std.proofs.Common.{arith}
use Rattle.std.proofs.lemmas.List.{append-nil}
use Rattle.tpoint.specs.declared.point.Point.{Point}
use Rattle.fields.specs.declared.fault.FieldFault.{FieldFault}
use Rattle.fields.specs.declared.fault.FieldFault.TheVariants as faults
use Rattle.fields.specs.Reading.{◌>>=◌, Read, FieldFails, triple_from, triples_at}

-- a fault that is told is the fault of the reading
pub fails_here : {Y : Type 0} (e : FieldFault) (read : Result Y FieldFault) → read ≡ Err e → FieldFails e read
fails_here {Y} faults.Memory read h = tt
fails_here {Y} faults.Short read h = h
fails_here {Y} faults.Field read h = h

-- what was read before, and what is still read
abbrev pub with_front : {A F : Type 0} → List A → Result (List A × List ℕ) F → Result (List A × List ℕ) F
with_front front read = read >>= λ x. Ok (front ++ x.0, x.1)

pub regroup : {A F : Type 0} (front : List A) (one : A) (read : Result (List A × List ℕ) F) → with_front front (read >>= λ x. Ok (one ∷ x.0, x.1))
    ≡ with_front (front ++ one ∷ []) read
regroup {A} front one (Ok x) = ap (λ (xs : List A). Ok (xs, x.1)) (simp append_assoc)
regroup front one (Err f) = refl

-- a first step that fails is the fault of the whole
pub fails_first : {A B : Type 0} (e : FieldFault) (first : Result A FieldFault) (then : A → Result B FieldFault) (total : Result B FieldFault)
    → FieldFails e first → total ≡ (first >>= then) → FieldFails e total
fails_first {A} {B} faults.Memory first then total h so_far = tt
fails_first {A} {B} faults.Short first then total h so_far = so_far ∙ ap (λ (r : Result A FieldFault). r >>= then) h
fails_first {A} {B} faults.Field first then total h so_far = so_far ∙ ap (λ (r : Result A FieldFault). r >>= then) h

pub bind_inside : {A F : Type 0} (front : List A) (first : Result (A × List ℕ) F) (others : A × List ℕ → Result (List A × List ℕ) F) →
    with_front front (first >>= λ x. others x >>= λ y. Ok (x.0 ∷ y.0, y.1))
    ≡ (first >>= λ x. with_front front (others x >>= λ y. Ok (x.0 ∷ y.0, y.1)))
bind_inside {A} front (Ok x) others = refl
bind_inside {A} front (Err f) others = refl

pub triples_go_on : (front : List Point) (count i from : ℕ) (bytes : List ℕ) (p : Point) (after : List ℕ) (total : Read (List Point))
    → i < count → triple_from from bytes ≡ Ok (p, after)
    → with_front front (triples_at (count - i) from bytes) ≡ total
    → with_front (front ++ p ∷ []) (triples_at (count - (i + 1)) (p.t + 1) after) ≡ total
unfolding triples_at
triples_go_on front count i from bytes p after total lt h so_far =
    let k : count - i ≡ suc (count - (i + 1)) = omega arith in
    let one : with_front front (triples_at (count - i) from bytes)
    ≡ with_front (front ++ p ∷ []) (triples_at (count - (i + 1)) (p.t + 1) after) =
    rw (k, h) (regroup front p (triples_at (count - (i + 1)) (p.t + 1) after)) in
    sym one ∙ so_far

pub triples_end : (e : FieldFault) (front : List Point) (count i from : ℕ) (bytes : List ℕ) (total : Read (List Point)) → i < count
    → FieldFails e (triple_from from bytes)
    → with_front front (triples_at (count - i) from bytes) ≡ total → FieldFails e total
unfolding triples_at
triples_end e front count i from bytes total lt h so_far =
    let k : count - i ≡ suc (count - (i + 1)) = omega arith in
    let one : with_front front (triples_at (count - i) from bytes)
    ≡ (triple_from from bytes >>= λ first. with_front front
    (triples_at (count - (i + 1)) (first.0.t + 1) first.1 >>= λ others. Ok (first.0 ∷ others.0, others.1))) =
    rw k (bind_inside front (triple_from from bytes) (λ first. triples_at (count - (i + 1)) (first.0.t + 1) first.1)) in
    fails_first e (triple_from from bytes) _ total h (sym so_far ∙ one)

pub triples_done : (front : List Point) (count i from : ℕ) (bytes : List ℕ) (total : Read (List Point)) → count ≤ i
    → with_front front (triples_at (count - i) from bytes) ≡ total → total ≡ Ok (front, bytes)
unfolding triples_at
triples_done front count i from bytes total le so_far =
    let k : count - i ≡ 0 = omega arith in
    let one : with_front front (triples_at (count - i) from bytes)
    ≡ Ok (front, bytes) = rw k (ap (λ (xs : List Point). Ok (xs, bytes)) (append-nil front)) in
    sym so_far ∙ one
