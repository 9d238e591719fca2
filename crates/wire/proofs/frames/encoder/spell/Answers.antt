use Rattle.std.proofs.Common.{rules, ◌≡◌, ℕ, ◌≤◌, List, length, sym, ap, subst, ◌∙◌}
use Rattle.wire.specs.FrameSpelling.{spelling}
use Rattle.wire.specs.declared.frames.envelope.Envelope.{Envelope}
use Rattle.wire.specs.declared.frames.envelope.TheConstants.{LONGEST_FRAME}
use Rattle.wire.proofs.frames.encoder.spell.Goals as goal

pub returns-clause-short : goal.returns-clause-short
returns-clause-short c =
    let e : Envelope = record { from = c.args.from; to = c.args.to; message = c.args.message.now } in
    let spelled : c.push_body.new.out.items ≡ spelling e = search rules in
    let most : c.frame_len.result ≤ LONGEST_FRAME = search rules in
    subst (λ (n : ℕ). n ≤ LONGEST_FRAME)
    (c.frame_len.ensures.value c.args.from c.args.to ∙ sym (ap (λ (l : List ℕ). length l) spelled)) most
