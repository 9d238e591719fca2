use Rattle.audit.specs.Rows.{IsStopCode}
use Rattle.audit.proofs.NumberLemmas.{code_decides}
use Rattle.audit.proofs.code_lines.is_stop.Goals as goal

pub returns-in-Some : goal.returns-in-Some
returns-in-Some c = code_decides IsStopCode c.args.nodes _ _ _ c.in-Some.ensures c.is_stop_code.ensures

pub returns-in-None : goal.returns-in-None
returns-in-None c = (λ e. absurd (cc), λ told. absurd (c.in-None.ensures told.0 told.1))
