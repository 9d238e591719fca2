use Rattle.fields.specs.Reading.{id_at}
use Rattle.wire.proofs.InPlaceLemmas.{id_never, hands_on_field}
use Rattle.wire.proofs.frames.value_reader.read_put.Goals as goal

-- no id was read
pub returns-in_err-id-clause-begins : goal.returns-in_err-id-clause-begins
returns-in_err-id-clause-begins c = λ wanted.
    absurd (hands_on_field (id_at c.args.input.now) c.in_err-id.field-0.0 c.from_residual.result (id_never c.args.input.now)
    c.in_err-id.ensures c.from_residual.ensures.1 wanted)
