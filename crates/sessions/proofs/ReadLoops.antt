-- Features and clients that are read one after the other, as a loop does.
use Rattle.std.proofs.Common.{◌≡◌, ℕ, suc, ◌-◌, ◌+◌, ◌≤◌, ◌<◌, List, [], ◌∷◌, ◌++◌, Option, Some, Ok, Err, refl, sym, ap, ◌∙◌, arith}
use Rattle.std.proofs.lemmas.List.{append-nil}
use Rattle.fields.specs.declared.fault.FieldFault.{FieldFault}
use Rattle.fields.specs.Reading.{◌>>=◌, Read, FieldFails}
use Rattle.fields.proofs.LoopLemmas.{fails_first, regroup, bind_inside}
pub use Rattle.fields.proofs.LoopLemmas.{with_front, fails_here}
use Rattle.mfjson.specs.declared.feature.Feature.{Feature}
use Rattle.sessions.specs.declared.session.Held.{Held}
use Rattle.sessions.specs.Restoring.{feature_at, features_at, client_from, clients_at}

-- nothing was read before
pub no_front : {A : Type 0} (read : Read (List A)) → with_front [] read ≡ read
no_front (Ok x) = refl
no_front (Err f) = refl

pub features_go_on : (front : List Feature) (count i : ℕ) (before : Option (List ℕ)) (bytes : List ℕ) (f : Feature) (after : List ℕ)
    (total : Read (List Feature)) → i < count → feature_at before bytes ≡ Ok (f, after)
    → with_front front (features_at (count - i) before bytes) ≡ total
    → with_front (front ++ f ∷ []) (features_at (count - (i + 1)) (Some f.id) after) ≡ total
unfolding features_at
features_go_on front count i before bytes f after total lt h so_far =
    let k : count - i ≡ suc (count - (i + 1)) = omega arith in
    let one : with_front front (features_at (count - i) before bytes)
    ≡ with_front (front ++ f ∷ []) (features_at (count - (i + 1)) (Some f.id) after) =
    rw (k, h) (regroup front f (features_at (count - (i + 1)) (Some f.id) after)) in
    sym one ∙ so_far

pub features_end : (e : FieldFault) (front : List Feature) (count i : ℕ) (before : Option (List ℕ)) (bytes : List ℕ)
    (total : Read (List Feature)) → i < count → FieldFails e (feature_at before bytes)
    → with_front front (features_at (count - i) before bytes) ≡ total → FieldFails e total
unfolding features_at
features_end e front count i before bytes total lt h so_far =
    let k : count - i ≡ suc (count - (i + 1)) = omega arith in
    let one : with_front front (features_at (count - i) before bytes)
    ≡ (feature_at before bytes >>= λ first. with_front front
    (features_at (count - (i + 1)) (Some first.0.id) first.1 >>= λ others. Ok (first.0 ∷ others.0, others.1))) =
    rw k (bind_inside front (feature_at before bytes) (λ first. features_at (count - (i + 1)) (Some first.0.id) first.1)) in
    fails_first e (feature_at before bytes) _ total h (sym so_far ∙ one)

pub features_done : (front : List Feature) (count i : ℕ) (before : Option (List ℕ)) (bytes : List ℕ) (total : Read (List Feature))
    → count ≤ i → with_front front (features_at (count - i) before bytes) ≡ total → total ≡ Ok (front, bytes)
unfolding features_at
features_done front count i before bytes total le so_far =
    let k : count - i ≡ 0 = omega arith in
    let one : with_front front (features_at (count - i) before bytes)
    ≡ Ok (front, bytes) = rw k (ap (λ (xs : List Feature). Ok (xs, bytes)) (append-nil front)) in
    sym so_far ∙ one

pub clients_go_on : (front : List Held) (count i from : ℕ) (bytes : List ℕ) (h : Held) (after : List ℕ) (total : Read (List Held))
    → i < count → client_from from bytes ≡ Ok (h, after)
    → with_front front (clients_at (count - i) from bytes) ≡ total
    → with_front (front ++ h ∷ []) (clients_at (count - (i + 1)) (h.client + 1) after) ≡ total
unfolding clients_at
clients_go_on front count i from bytes one after total lt h so_far =
    let k : count - i ≡ suc (count - (i + 1)) = omega arith in
    let step : with_front front (clients_at (count - i) from bytes)
    ≡ with_front (front ++ one ∷ []) (clients_at (count - (i + 1)) (one.client + 1) after) =
    rw (k, h) (regroup front one (clients_at (count - (i + 1)) (one.client + 1) after)) in
    sym step ∙ so_far

-- no memory is wanted, so a first step that fails is the fault of the whole
pub clients_end : (e : FieldFault) (front : List Held) (count i from : ℕ) (bytes : List ℕ) (total : Read (List Held)) → i < count
    → client_from from bytes ≡ Err e
    → with_front front (clients_at (count - i) from bytes) ≡ total → total ≡ Err e
unfolding clients_at
clients_end e front count i from bytes total lt h so_far =
    let k : count - i ≡ suc (count - (i + 1)) = omega arith in
    sym so_far ∙ rw (k, h) refl

pub clients_done : (front : List Held) (count i from : ℕ) (bytes : List ℕ) (total : Read (List Held)) → count ≤ i
    → with_front front (clients_at (count - i) from bytes) ≡ total → total ≡ Ok (front, bytes)
unfolding clients_at
clients_done front count i from bytes total le so_far =
    let k : count - i ≡ 0 = omega arith in
    let one : with_front front (clients_at (count - i) from bytes)
    ≡ Ok (front, bytes) = rw k (ap (λ (xs : List Held). Ok (xs, bytes)) (append-nil front)) in
    sym so_far ∙ one
