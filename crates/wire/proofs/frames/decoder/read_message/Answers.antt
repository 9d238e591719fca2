use Rattle.std.proofs.Common.{refl}
use Rattle.wire.specs.declared.frames.kind.Kind.TheVariants as kind
use Rattle.wire.proofs.InPlaceLemmas.{nack_never, slot_never, position_never, message_never, hands_on, tells_other}
use Rattle.wire.proofs.frames.decoder.read_message.Goals as goal

-- the bodies that bring nothing
pub returns-in_err-read_nack-in-Nack-clause-brings : goal.returns-in_err-read_nack-in-Nack-clause-brings
returns-in_err-read_nack-in-Nack-clause-brings c = λ wanted.
    absurd (hands_on _ c.in_err-read_nack-in-Nack.field-0.0 c.from_residual-in_err-read_nack-in-Nack.result (nack_never _ _)
    c.in_err-read_nack-in-Nack.ensures c.from_residual-in_err-read_nack-in-Nack.ensures.1 wanted)

pub returns-in_err-read_slot-in-Ask-clause-brings : goal.returns-in_err-read_slot-in-Ask-clause-brings
returns-in_err-read_slot-in-Ask-clause-brings c = λ wanted.
    absurd (hands_on _ c.in_err-read_slot-in-Ask.field-0.0 c.from_residual-in_err-read_slot-in-Ask.result (slot_never _)
    c.in_err-read_slot-in-Ask.ensures c.from_residual-in_err-read_slot-in-Ask.ensures.1 wanted)

pub returns-in-Prepare-clause-brings : goal.returns-in-Prepare-clause-brings
returns-in-Prepare-clause-brings c = λ wanted.
    absurd (tells_other _ c.read_prepare.result _ (message_never kind.Prepare refl _ _) c.read_prepare.ensures wanted)

pub returns-in-SnapAsk-clause-brings : goal.returns-in-SnapAsk-clause-brings
returns-in-SnapAsk-clause-brings c = λ wanted.
    absurd (tells_other _ c.read_snap_ask.result _ (message_never kind.SnapAsk refl c.args.nodes _) (c.read_snap_ask.ensures c.args.nodes) wanted)

pub returns-in_err-read_position-in-Behind-clause-brings : goal.returns-in_err-read_position-in-Behind-clause-brings
returns-in_err-read_position-in-Behind-clause-brings c = λ wanted.
    absurd (hands_on _ c.in_err-read_position-in-Behind.field-0.0 c.from_residual-in_err-read_position-in-Behind.result (position_never _)
    c.in_err-read_position-in-Behind.ensures.read c.from_residual-in_err-read_position-in-Behind.ensures.1 wanted)
