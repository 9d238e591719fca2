-- Where memory may be wanted.
use Rattle.std.proofs.Common.{◌≡◌, ℕ, zero, suc, ◌+◌, List, Result, Ok, Err, refl}
use Rattle.synod.specs.declared.ballot.Ballot.{Ballot}
use Rattle.wire.specs.declared.frames.fault.WireFault.{WireFault}
use Rattle.wire.specs.Puts.{IsPut, SomeTold}
use Rattle.sessions.specs.declared.request.TheConstants.{MOST_PUT_POINTS}
use Rattle.fields.specs.Reading.{◌>>=◌, id_at, sequence_at}
use Rattle.wire.specs.Reading.{ReadMayWant, wide, put_at}
use Rattle.wire.specs.FrameReading.{entry_at, entries_at}

-- a step of which nothing is known
wants_each : {A B : Type 0} (also : B → Type 0) (first : Result A WireFault) (then : A → Result B WireFault) →
    ((x : A) → ReadMayWant also (then x)) → ReadMayWant also (first >>= then)
wants_each also (Ok x) then each = each x
wants_each also (Err e) then each = tt

-- a Put may want it
pub put_wants : (bytes : List ℕ) → ReadMayWant (λ x. IsPut x.0) (put_at bytes)
unfolding put_at
put_wants bytes =
    wants_each (λ x. IsPut x.0) (wide (id_at bytes)) _ (λ id. wants_each (λ x. IsPut x.0) (wide (sequence_at MOST_PUT_POINTS id.1)) _ (λ seq. tt))

-- entries may want it, unless there are none
pub entries_want : (nodes : ℕ) (limit : Ballot) (last count from : ℕ) (bytes : List ℕ) → ¬ (count ≡ 0) →
    ReadMayWant (λ x. SomeTold x.0) (entries_at nodes limit last count from bytes)
unfolding entries_at
entries_want nodes limit last zero from bytes some = absurd (some refl)
entries_want nodes limit last (suc count) from bytes some =
    wants_each (λ x. SomeTold x.0) (entry_at nodes limit from last bytes) _
    (λ x. wants_each (λ y. SomeTold y.0) (entries_at nodes limit last count (x.0.slot + 1) x.1) _ (λ y. tt))
