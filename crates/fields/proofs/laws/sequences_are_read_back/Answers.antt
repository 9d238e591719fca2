use Rattle.std.proofs.Common.{arith}
use Rattle.fields.proofs.FieldLemmas.{bytes_from_all}
use Rattle.fields.proofs.FieldLaws.{sequence_takes, sequence_again}
use Rattle.fields.proofs.laws.sequences_are_read_back.Goals as goal

pub returns-clause-again : goal.returns-clause-again
returns-clause-again c = λ most s rest few fits. sequence_again most s rest (omega (arith, few)) fits

pub returns-clause-only : goal.returns-clause-only
returns-clause-only c = λ most bytes s rest all e.
    let took = sequence_takes most bytes (s, rest) (bytes_from_all bytes all) e in
    (took.fits, took.takes.parts)
