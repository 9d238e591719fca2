use Rattle.sqlite.specs.Files.{over_files}
use Rattle.sqlstable.specs.Storage.{rows_of}
use Rattle.sqlstable.proofs.FoundLemmas.{if_both}
use Rattle.sqlstable.proofs.file_storage.SqlStable+FileStore+D.reopen.Goals as goal

pub returns-clause-same : goal.returns-clause-same
returns-clause-same g c = if_both c.open_files.result c.open_files.ensures.clean c.open_files.ensures.found (λ again clean found honest.
    found honest (rows_of over_files c.args.self) (c.in_ok-files.ensures.closed (clean honest)).both)
