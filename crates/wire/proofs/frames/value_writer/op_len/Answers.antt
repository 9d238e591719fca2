use Rattle.std.proofs.Common.{rules}
use Rattle.fields.proofs.LengthLemmas.{append_len}
use Rattle.wire.proofs.frames.value_writer.op_len.Goals as goal

pub returns-in-Append-clause-value : goal.returns-in-Append-clause-value
returns-in-Append-clause-value c =
    let behind_the_first = append_len c.in-Append.addition.id c.in-Append.addition.point in
    search (rules, behind_the_first)
