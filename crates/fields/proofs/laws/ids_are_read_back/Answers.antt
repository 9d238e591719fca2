use Rattle.fields.proofs.FieldLemmas.{bytes_from_all}
use Rattle.fields.proofs.FieldLaws.{id_takes, id_again}
use Rattle.fields.proofs.laws.ids_are_read_back.Goals as goal

pub returns-clause-again : goal.returns-clause-again
returns-clause-again c = id_again

pub returns-clause-only : goal.returns-clause-only
returns-clause-only c = λ bytes id rest all e.
    let took = id_takes bytes (id, rest) (bytes_from_all bytes all) e in
    (took.fits, took.takes.parts)
