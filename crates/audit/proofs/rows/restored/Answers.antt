use Rattle.audit.proofs.RowLemmas.{no_restore}
use Rattle.audit.proofs.rows.restored.Goals as goal

pub returns-in-None : goal.returns-in-None
returns-in-None c = λ is_last. no_restore c.args.nodes is_last _ c.in-None.ensures
