use Rattle.audit.proofs.RowLemmas.{no_answer}
use Rattle.audit.proofs.rows.answered.Goals as goal

pub returns-in-None : goal.returns-in-None
returns-in-None c = λ is_last. no_answer c.args.nodes is_last _ c.in-None.ensures
