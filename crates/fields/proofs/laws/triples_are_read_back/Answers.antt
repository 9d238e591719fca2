use Rattle.fields.proofs.FieldLemmas.{bytes_from_all}
use Rattle.fields.proofs.FieldLaws.{triple_takes, triple_again}
use Rattle.fields.proofs.laws.triples_are_read_back.Goals as goal

pub returns-clause-again : goal.returns-clause-again
returns-clause-again c = triple_again

pub returns-clause-only : goal.returns-clause-only
returns-clause-only c = λ bytes p rest all e.
    let took = triple_takes bytes (p, rest) (bytes_from_all bytes all) e in
    (took.fits, took.takes.parts)
