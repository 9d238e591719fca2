use Rattle.audit.proofs.RowLemmas.{no_learn}
use Rattle.audit.proofs.rows.learnt.Goals as goal

pub returns-in-None : goal.returns-in-None
returns-in-None c = λ is_last. no_learn c.args.nodes is_last _ c.in-None.ensures
