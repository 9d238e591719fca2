-- Votes in a map by slot.
use Rattle.std.proofs.Common.{◌≡◌, ◌≢◌, ℕ, Option, Some, None, Result, Ok, Err, refl, ap, subst, ◌∙◌, sym, inl, inr, IsSome, OnOk, OnErr}
use Rattle.std.proofs.Common.{zero, ◌+◌, ◌≤◌, List, option_map, arith, nat_lt, if◌then◌else◌}
use Rattle.std.proofs.lemmas.Bool.Decides.{eqb_tells}
use Rattle.std.proofs.lemmas.Bool.{cases_Bool, eq-eqb}
use Rattle.std.proofs.lemmas.Option.{none-some}
use Rattle.synod.specs.Ballots.{rank, rank_of}
use Rattle.synod.specs.declared.ballot.Ballot.{Ballot}
use Rattle.synod.specs.declared.vote.Vote.{Vote}
use Rattle.sessions.specs.declared.command.Command.{Command}
use Rattle.acceptor.specs.declared.accepted_value.AcceptedValue.{AcceptedValue}
use Rattle.stable.specs.Records.{Sets, Trims, rank as place}
use Rattle.stable.specs.declared.key.Key.{Key}
use Rattle.stable.specs.declared.key.Key.TheVariants as key
use Rattle.acceptor.specs.Accepting.{Accepting, OptionalWrite, put, Taken, verdict, prepare_write, IsAcceptWrite}
use Rattle.acceptor.specs.Spelling.{ballot_bytes, vote_bytes}
use Rattle.acceptor.specs.AcceptedValues.{vote_at}
use Rattle.acceptor.proofs.VerdictLemmas.{judged, refused, behind, taken}

some_not_none : {X : Type 0} (o : Option X) → IsSome o → o ≡ None → ⊥
some_not_none (Some x) h e = absurd cc
some_not_none None h e = absurd cc

-- a key that is in a map is inserted without fail
pub never_refused : {T E X : Type 0} (r : Result T E) (o : Option X) {P : Type 0} → IsSome o → OnErr r (o ≡ None) → OnOk r P → P
never_refused (Ok x) o there bad good = good
never_refused (Err e) o there bad good = absurd (some_not_none o there bad)

-- what is put at a slot is there
pub put_there : {X : Type 0} (f g : ℕ → Option X) (slot : ℕ) (x : X) → g ≡ put f slot (Some x) → IsSome (g slot)
put_there f g slot x e =
    let here : put f slot (Some x) slot ≡ Some x = rw (eq-eqb slot slot refl) refl in
    subst IsSome (sym (ap (λ h. h slot) e ∙ here)) refl

-- a vote that was cast under this ballot for this command
pub same_vote : (cast : AcceptedValue) (v : Vote Command) → cast.ballot ≡ v.ballot → cast.command ≡ v.command → vote_at v.slot cast ≡ v
same_vote cast v b d = rw (b, d) refl

-- the command of a vote that the map tells
pub command_told : (cast : AcceptedValue) (v : Vote Command) (found : Option AcceptedValue) → found ≡ Some cast → option_map (vote_at v.slot) found ≡ Some v
    → cast.command ≡ v.command
command_told cast v found is e =
    let told : Some (vote_at v.slot cast) ≡ Some v = sym (ap (option_map (vote_at v.slot)) is) ∙ e in
    cc

-- a cast that is put in the map is a vote that is put among the votes
pub votes-put : (f : ℕ → Option AcceptedValue) (cast : AcceptedValue) (v : Vote Command) → vote_at v.slot cast ≡ v → (s : ℕ)
    → option_map (vote_at s) (put f v.slot (Some cast) s) ≡ put (λ (i : ℕ). option_map (vote_at i) (f i)) v.slot (Some v) s
votes-put f cast v e s =
    elim (eqb_tells s v.slot) [
      | inl same ↦ rw (same.0, same.1) (ap Some e)
      | inr apart ↦ rw apart.0 refl
    ]

-- what is put in a place and taken back leaves the place as it was
pub put_and_back : {X : Type 0} (f g h : ℕ → Option X) (slot : ℕ) (w before : Option X) → ((s : ℕ) → g s ≡ put f slot w s)
    → ((s : ℕ) → h s ≡ put g slot before s) → before ≡ f slot → (s : ℕ) → h s ≡ f s
put_and_back f g h slot w before there back was s =
    elim (eqb_tells s slot) [
      | inl same ↦ rw same.1 (rw (eq-eqb slot slot refl) at (back slot) ∙ was)
      | inr apart ↦ rw apart.0 at (back s) ∙ rw apart.0 at (there s)
    ]

-- the write of an accept that is taken, and that is no vote yet
pub cast_write : (a : Accepting) (v : Vote Command) → verdict a v.ballot v.slot ≡ Taken → ¬ (a.vote v.slot ≡ Some v)
    → IsAcceptWrite a v (Some (Sets (key.Vote v.slot) (vote_bytes v)))
cast_write a v is fresh =
    record { cast = λ _. refl; untaken = λ not. absurd (not is); already = λ e. absurd (fresh e); nothing = λ e. absurd cc }

-- there is nothing to write where the vote stands there already
pub no_write : (a : Accepting) (v : Vote Command) → a.vote v.slot ≡ Some v → IsAcceptWrite a v None
no_write a v cast =
    record { cast = λ new. absurd (new.fresh cast); untaken = λ _. refl; already = λ _. refl; nothing = λ _. inr cast }

-- there is nothing to write where it isn't taken
pub untaken_write : (a : Accepting) (v : Vote Command) → verdict a v.ballot v.slot ≢ Taken → IsAcceptWrite a v None
untaken_write a v not =
    record { cast = λ new. absurd (not new.taken); untaken = λ _. refl; already = λ _. refl; nothing = λ _. inl not }

-- ---- which votes are written
-- the place of the key that a write sets, if it sets one
abbrev set_place : OptionalWrite → ℕ
set_place None = zero
set_place (Some (Trims below)) = zero
set_place (Some (Sets key bytes)) = place key

-- a write of another key
pub other_key : (other : Key) (slot : ℕ) (bytes more : List ℕ) → (place other ≡ slot + 3 → ⊥)
    → ◌≡◌ {A = OptionalWrite} (Some (Sets other bytes)) (Some (Sets (key.Vote slot) more)) → ⊥
other_key other slot bytes more apart e = apart (ap set_place e)

-- a prepare writes no vote
pub promise_is_no_vote : (a : Accepting) (b : Ballot) (first slot : ℕ) (bytes : List ℕ)
    → prepare_write a b first ≡ Some (Sets (key.Vote slot) bytes) → ⊥
promise_is_no_vote a b first slot bytes e =
    elim (judged a b first) [
      | refused p is ↦ none-some (Sets (key.Vote slot) bytes) (rw is at e)
      | behind floor is ↦ none-some (Sets (key.Vote slot) bytes) (rw is at e)
      | taken is high from ↦ elim (eqb_tells (rank b) (rank_of a.promise)) [
        | inl same ↦ none-some (Sets (key.Vote slot) bytes) (rw (is, same.0) at e)
        | inr apart ↦ other_key key.Promise slot (ballot_bytes b) bytes (λ zero_. absurd (omega (arith, zero_))) (rw (is, apart.0) at e)
      ]
    ]

-- an accept writes one at a slot from the floor on
pub cast_above : (a : Accepting) (v : Vote Command) (w : OptionalWrite) → IsAcceptWrite a v w → (slot : ℕ) (bytes : List ℕ)
    → w ≡ Some (Sets (key.Vote slot) bytes) → a.floor ≤ slot
cast_above a v w is slot bytes e =
    let some : w ≡ None → ⊥ = λ none. none-some (Sets (key.Vote slot) bytes) (sym none ∙ e) in
    elim (judged a v.ballot v.slot) [
      | refused p other ↦ absurd (some (is.untaken (λ same. absurd (cc))))
      | behind floor other ↦ absurd (some (is.untaken (λ same. absurd (cc))))
      | taken same high from ↦
          let written = is.cast (record { taken = same; fresh = λ stands. some (is.already stands) }) in
          let here : v.slot + 3 ≡ slot + 3 = ap set_place (sym written ∙ e) in
          omega (arith, from, here)
    ]

-- ---- votes below a slot
-- where casts are taken out, so are votes
pub votes-below : (f : ℕ → Option AcceptedValue) (below s : ℕ) → option_map (vote_at s) (if nat_lt s below then None else f s)
    ≡ (if nat_lt s below then None else option_map (vote_at s) (f s))
votes-below f below s =
    elim (cases_Bool (nat_lt s below)) [
      | inl lower ↦ rw lower refl
      | inr other ↦ rw other refl
    ]
