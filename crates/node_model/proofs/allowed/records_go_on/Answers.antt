use Rattle.node_model.proofs.RecordsGoOn.{written_holds, taken_holds}
use Rattle.node_model.proofs.allowed.records_go_on.Goals as goal

pub returns-clause-written : goal.returns-clause-written
returns-clause-written c = written_holds

pub returns-clause-taken : goal.returns-clause-taken
returns-clause-taken c = λ old new i said records write none takes writes fits holds.
    taken_holds old i new said records write none takes writes fits holds
