-- A table that is filled from client 0 on.
use Rattle.std.proofs.Common.{◌≡◌, ℕ, zero, suc, ◌+◌, ◌-◌, ◌<◌, ◌≤◌, take, drop, get_or, subst, List, [], ◌∷◌, ◌++◌, Option, Some, None, length, refl, sym, ap, ◌∙◌, arith}
use Rattle.std.specs.Prelude.{slice_set}
use Rattle.std.proofs.Math.Seq.{take-length}
use Rattle.sessions.specs.declared.session.Held.{Held}
use Rattle.sessions.specs.declared.session.Session.{Session}
use Rattle.sessions.specs.Snapshots.{held_from, held}
use Rattle.sessions.specs.Tables.{IsFreeFrom}

-- the first place of a table, and the others
pub count_step : (client : ℕ) (rest : List (Option Session)) (first : Option Session) → 1 ≤ length rest → first ≡ get_or rest 0 first
    → (length (held_from client rest) ≡ length (held_from client (first ∷ []))
    + length (held_from (client + 1) (take (length rest - 1) (drop 1 rest))))
    × (length rest ≡ 1 + length (take (length rest - 1) (drop 1 rest)))
count_step client [] first some is = absurd (omega (arith, some))
count_step client (o ∷ more) first some is =
    let less : length (o ∷ more) - 1 ≡ length more = omega arith in
    let whole : take (length (o ∷ more) - 1) (drop 1 (o ∷ more)) ≡ more = ap (λ (n : ℕ). take n more) less ∙ take-length more in (
      subst (λ (x : Option Session). length (held_from client (o ∷ more)) ≡ length (held_from client (x ∷ []))
          + length (held_from (client + 1) (take (length (o ∷ more) - 1) (drop 1 (o ∷ more))))) (sym is)
          (parts o ∙ ap (λ (t : List (Option Session)). length (held_from client (o ∷ [])) + length (held_from (client + 1) t)) (sym whole)),
      let same = ap length whole in omega (arith, same),
    )
  where
    parts : (x : Option Session) → length (held_from client (x ∷ more)) ≡ length (held_from client (x ∷ [])) + length (held_from (client + 1) more)
    parts None = omega arith
    parts (Some s) = omega arith

-- the same of the clients themselves
pub place_step : (client : ℕ) (rest : List (Option Session)) (first : Option Session) → 1 ≤ length rest → first ≡ get_or rest 0 first
    → held_from client rest
    ≡ held_from client (first ∷ []) ++ held_from (client + 1) (take (length rest - 1) (drop 1 rest))
place_step client [] first some is = absurd (omega (arith, some))
place_step client (o ∷ more) first some is =
    let less : length (o ∷ more) - 1 ≡ length more = omega arith in
    let whole : take (length (o ∷ more) - 1) (drop 1 (o ∷ more)) ≡ more = ap (λ (n : ℕ). take n more) less ∙ take-length more in
    subst (λ (x : Option Session). held_from client (o ∷ more)
    ≡ held_from client (x ∷ []) ++ held_from (client + 1) (take (length (o ∷ more) - 1) (drop 1 (o ∷ more)))) (sym is)
    (parts o ∙ ap (λ (t : List (Option Session)). held_from client (o ∷ []) ++ held_from (client + 1) t) (sym whole))
  where
    parts : (x : Option Session) → held_from client (x ∷ more) ≡ held_from client (x ∷ []) ++ held_from (client + 1) more
    parts None = refl
    parts (Some s) = refl

free_rest : (o : Option Session) (table : List (Option Session)) (n : ℕ) → IsFreeFrom (suc n) (o ∷ table) → IsFreeFrom n table
free_rest o table n free i le = free (suc i) (omega (arith, le))

pub none_held : (k : ℕ) (table : List (Option Session)) → IsFreeFrom 0 table → held_from k table ≡ []
none_held k [] free = refl
none_held k (None ∷ more) free = none_held (k + 1) more (λ i le. free (suc i) (omega arith))
none_held k (Some s ∷ more) free = absurd (let e : Some s ≡ None = free 0 (omega arith) in cc)

abbrev pub one_of : ℕ → Session → Held
one_of client session = record { client = client; session = session }

pub held_added : (k : ℕ) (table : List (Option Session)) (client : ℕ) (session : Session) → client < length table → IsFreeFrom client table
    → held_from k (slice_set table client (Some session)) ≡ held_from k table ++ one_of (k + client) session ∷ []
held_added k [] client session lt free = absurd (omega (arith, lt))
held_added k (None ∷ more) zero session lt free =
    let none = none_held (k + 1) more (λ i le. free (suc i) (omega arith)) in
    let at : k ≡ k + 0 = omega arith in
    ap (λ hs. one_of k session ∷ hs) none ∙ ap (λ c. one_of c session ∷ []) at ∙ ap (λ hs. hs ++ one_of (k + 0) session ∷ []) (sym none)
held_added k (Some s ∷ more) zero session lt free = absurd (let e : Some s ≡ None = free 0 (omega arith) in cc)
held_added k (None ∷ more) (suc c) session lt free =
    let at : k + 1 + c ≡ k + suc c = omega arith in
    held_added (k + 1) more c session (omega (arith, lt)) (free_rest None more c free)
    ∙ ap (λ i. held_from (k + 1) more ++ one_of i session ∷ []) at
held_added k (Some s ∷ more) (suc c) session lt free =
    let at : k + 1 + c ≡ k + suc c = omega arith in
    ap (λ hs. one_of k s ∷ hs) (held_added (k + 1) more c session (omega (arith, lt)) (free_rest (Some s) more c free)
    ∙ ap (λ i. held_from (k + 1) more ++ one_of i session ∷ []) at)

pub held_with : (table : List (Option Session)) (client : ℕ) (session : Session) → client < length table → IsFreeFrom client table
    → held (slice_set table client (Some session)) ≡ held table ++ one_of client session ∷ []
held_with table client session lt free =
    let at : 0 + client ≡ client = omega arith in
    held_added 0 table client session lt free ∙ ap (λ (i : ℕ). held table ++ one_of i session ∷ []) at

pub free_after : (table : List (Option Session)) (client : ℕ) (session : Session) → client < length table → IsFreeFrom client table
    → IsFreeFrom (client + 1) (slice_set table client (Some session))
free_after [] client session lt free i le = refl
free_after (o ∷ more) zero session lt free zero le = absurd (omega (arith, le))
free_after (o ∷ more) zero session lt free (suc i) le = free (suc i) (omega arith)
free_after (o ∷ more) (suc c) session lt free zero le = absurd (omega (arith, le))
free_after (o ∷ more) (suc c) session lt free (suc i) le =
    free_after more c session (omega (arith, lt)) (free_rest o more c free) i (omega (arith, le))
