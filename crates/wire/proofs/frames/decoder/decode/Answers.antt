use Rattle.std.proofs.Common.{◌≡◌, ◌⊎◌, ℕ, ◌≤◌, List, Result, Ok, Err, IsOk, IfOk, IsErrOf, refl, subst, arith, inl, inr}
use Rattle.wire.specs.Puts.{TakesMemory}
use Rattle.wire.specs.Reading.{Gives, ReadMayWant}
use Rattle.wire.specs.FrameReading.{frame_in}
use Rattle.wire.specs.FrameSpelling.{IsFrame}
use Rattle.wire.specs.declared.frames.fault.WireFault.{WireFault}
use Rattle.wire.specs.declared.frames.fault.WireFault.TheVariants as faults
use Rattle.wire.specs.declared.frames.envelope.Envelope.{Envelope}
use Rattle.fields.proofs.FieldLemmas.{IsBytes}
use Rattle.wire.proofs.FrameLaws.{frame_found, frame_only}
use Rattle.wire.proofs.HeadLaws.{head_begins}
use Rattle.wire.proofs.FrameLengths.{frame_most}
use Rattle.wire.proofs.frames.decoder.decode.Goals as goal

told : (nodes : ℕ) → nodes ≤ 7 → (bytes : List ℕ) (r : Result Envelope WireFault) → IsBytes bytes → Gives (λ x. x) r (frame_in nodes bytes)
    → IfOk r (λ e. IsFrame nodes bytes e)
told nodes few bytes (Ok e) fits h = frame_found nodes few bytes e fits h
told nodes few bytes (Err e) fits h = tt

-- no fault is told of a frame, and memory is not wanted where it takes none
placed : (r read : Result Envelope WireFault) (e : Envelope) → read ≡ Ok e → Gives (λ x. x) r read →
    (IsErrOf r faults.Memory → ReadMayWant (λ f. TakesMemory f.message) read) → ¬ TakesMemory e.message → IsOk r
placed (Ok x) read e whole gives memory none = refl
placed (Err faults.Memory) read e whole gives memory none =
    absurd (none (subst (ReadMayWant (λ f. TakesMemory f.message)) whole (memory refl)))
placed (Err faults.Short) read e whole gives memory none = absurd (cc (whole, gives))
placed (Err faults.Magic) read e whole gives memory none = absurd (cc (whole, gives))
placed (Err faults.Version) read e whole gives memory none = absurd (cc (whole, gives))
placed (Err faults.Kind) read e whole gives memory none = absurd (cc (whole, gives))
placed (Err faults.Field) read e whole gives memory none = absurd (cc (whole, gives))
placed (Err faults.Trailing) read e whole gives memory none = absurd (cc (whole, gives))
placed (Err faults.Long) read e whole gives memory none = absurd (cc (whole, gives))

at_most_seven : (n : ℕ) → (n ≡ 3) ⊎ (n ≡ 5) ⊎ (n ≡ 7) → n ≤ 7
at_most_seven n (inl three) = omega arith
at_most_seven n (inr (inl five)) = omega arith
at_most_seven n (inr (inr seven)) = omega arith

pub returns-clause-found : goal.returns-clause-found
returns-clause-found c =
    let few : c.count-count.result ≤ 7 = at_most_seven c.count-count.result c.count-count.ensures.odd in
    told c.args.nodes (omega arith) c.args.bytes.now c.read_frame.result (λ i. omega (arith, c.type_inv.bytes i)) c.read_frame.ensures.read

pub returns-clause-only : goal.returns-clause-only
returns-clause-only c e frame =
    rw (frame_only c.args.nodes c.args.bytes.now e frame (frame_most c.args.nodes c.args.bytes.now e frame)) at c.read_frame.ensures.read

pub returns-clause-in_place : goal.returns-clause-in_place
returns-clause-in_place c e frame none =
    let whole = frame_only c.args.nodes c.args.bytes.now e frame (frame_most c.args.nodes c.args.bytes.now e frame) in
    placed c.read_frame.result (frame_in c.args.nodes c.args.bytes.now) e whole c.read_frame.ensures.read
    c.read_frame.ensures.memory none

pub returns-clause-memory : goal.returns-clause-memory
returns-clause-memory c = λ wanted.
    head_begins c.args.nodes c.args.bytes.now (λ i. omega (arith, c.type_inv.bytes i)) (c.read_frame.ensures.not_long wanted)
    (c.read_frame.ensures.brings wanted)
