use Rattle.sqlstable.proofs.FoundLemmas.{if_ok}
use Rattle.sqlstable.proofs.constructors.SqlStable+FileStore+D.opened.Goals as goal

pub returns-clause-found : goal.returns-clause-found
returns-clause-found g c = if_ok c.in_files.result c.in_files.ensures.found
    (λ s finds honest. (c.in_ok-connection.connection, c.in_ok-connection.ensures.given, finds honest))
