use Rattle.audit.proofs.RowLemmas.{no_reply}
use Rattle.audit.proofs.rows.replied.Goals as goal

pub returns-in-None : goal.returns-in-None
returns-in-None c = λ is_last. no_reply c.args.nodes is_last _ c.in-None.ensures
