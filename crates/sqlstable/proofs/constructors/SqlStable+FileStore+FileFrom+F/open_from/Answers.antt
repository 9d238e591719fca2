use Rattle.sqlite.specs.Files.{file_state, over_files}
use Rattle.sqlite_wal.specs.Files.{image_at}
use Rattle.sqlstable.specs.Storage.{rows_of}
use Rattle.sqlstable.proofs.FoundLemmas.{at_ok, if_ok, those_held}
use Rattle.sqlstable.proofs.constructors.SqlStable+FileStore+FileFrom+F.open_from.Goals as goal

pub returns-clause-found : goal.returns-clause-found
returns-clause-found g c = if_ok c.opened.result c.opened.ensures.found (λ s found honest.
    let there = found honest in
    let clean = there.2.was_clean in
    those_held (image_at g.F.Start) (file_state there.0) (rows_of over_files s)
    (at_ok _ _ _ there.1 c.open_from.ensures.opened clean).0 (at_ok _ _ _ there.1 c.open_from.ensures.found clean).holds there.2)
