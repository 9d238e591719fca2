use Rattle.record_files.proofs.Listed.{listed}
use Rattle.record_files.proofs.record_file.RecordFileStable.keys.Goals as goal

pub returns-clause-told : goal.returns-clause-told
returns-clause-told c h = (listed c.in-Listed.is c.in_ok-keys.ensures).told h
