use Rattle.sqlite.specs.Files.{file_state, image_of, over_files}
use Rattle.sqlstable.specs.Storage.{rows_of}
use Rattle.sqlstable.proofs.FoundLemmas.{at_ok, if_ok, those_held}
use Rattle.sqlstable.proofs.file_storage.SqlStable+FileStore+D.open_files.Goals as goal

pub returns-clause-clean : goal.returns-clause-clean
returns-clause-clean g c = if_ok c.in_files.result c.in_files.ensures.found
    (λ s finds honest. (at_ok _ _ _ c.in_ok-connection.ensures.given c.open_files.ensures.found (finds honest).was_clean).honest)

pub returns-clause-found : goal.returns-clause-found
returns-clause-found g c = if_ok c.in_files.result c.in_files.ensures.found (λ s finds honest.
    let clean = (finds honest).was_clean in
    let is = c.in_ok-connection.ensures.given in
    those_held (image_of g.D.Disk c.args.files) (file_state {g = g.D.Disk} c.in_ok-connection.connection) (rows_of over_files s)
    (at_ok _ _ _ is c.open_files.ensures.opened clean).0 (at_ok _ _ _ is c.open_files.ensures.found clean).holds (finds honest))
