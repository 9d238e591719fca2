use Rattle.std.proofs.Common.{rules, ◌≡◌, ℕ, List, sym, subst}
use Rattle.wire.specs.FrameSpelling.{IsFrame}
use Rattle.wire.specs.Framing.{bytes_in}
use Rattle.wire.specs.declared.frames.envelope.Envelope.{Envelope}
use Rattle.wire.proofs.FrameSeen.{carries, is_of_what_it_shows}
use Rattle.wire.proofs.frames.frame.Frame.shared.Goals as goal

pub invariant_of-result : goal.invariant_of-result
invariant_of-result c =
    let e : Envelope = record { from = c.args.from; to = c.args.to; message = c.args.message.now } in
    let held : bytes_in c.in_ok-shared.field-0 ≡ c.in_ok-bytes.bytes.items = search rules in
    is_of_what_it_shows _ _ (subst (λ (l : List ℕ). IsFrame 7 l e) (sym held) c.in_ok-bytes.ensures.frame)

pub returns : goal.returns
returns c =
    let e : Envelope = record { from = c.args.from; to = c.args.to; message = c.args.message.now } in
    let held : bytes_in c.in_ok-shared.field-0 ≡ c.in_ok-bytes.bytes.items = search rules in
    carries _ e (subst (λ (l : List ℕ). IsFrame 7 l e) (sym held) c.in_ok-bytes.ensures.frame)
