use Rattle.sessions.proofs.Executions.{executed, same_counts, same_before}
use Rattle.sessions.proofs.laws.one_execution.Goals as goal

pub returns : goal.returns
returns c = record { some = executed; counts = same_counts; databases = same_before }
