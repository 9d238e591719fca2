-- A frame's bytes show the envelope that they spell, and no other.
use Rattle.std.proofs.Common.{◌≡◌, ℕ, List, Result, Ok, sym, ap, subst}
use Rattle.wire.specs.FrameReading.{frame_in}
use Rattle.wire.specs.FrameSpelling.{IsFrame}
use Rattle.wire.specs.declared.frames.envelope.Envelope.{Envelope}
use Rattle.wire.specs.declared.frames.fault.WireFault.{WireFault}
use Rattle.wire.proofs.FrameLaws.{frame_only}
use Rattle.wire.proofs.FrameLengths.{frame_most}
use Rattle.wire.specs.Framing.{envelope_in, read_or_ask, readdressed}

pub shows : (bytes : List ℕ) (e : Envelope) → IsFrame 7 bytes e → envelope_in bytes ≡ e
shows bytes e frame =
    let found : frame_in 7 bytes ≡ Ok e = frame_only 7 bytes e frame (frame_most 7 bytes e frame) in
    ap (λ (r : Result Envelope WireFault). read_or_ask r) found

pub is_of_what_it_shows : (bytes : List ℕ) (e : Envelope) → IsFrame 7 bytes e → IsFrame 7 bytes (envelope_in bytes)
is_of_what_it_shows bytes e frame = subst (λ (x : Envelope). IsFrame 7 bytes x) (sym (shows bytes e frame)) frame

-- so it does where it goes to the receiver for whom it was spelled
pub carries : (bytes : List ℕ) (e : Envelope) → IsFrame 7 bytes e → readdressed (envelope_in bytes) e.to ≡ e
carries bytes e frame = ap (λ (x : Envelope). readdressed x e.to) (shows bytes e frame)
