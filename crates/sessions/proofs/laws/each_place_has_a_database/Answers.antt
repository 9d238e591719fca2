use Rattle.sessions.proofs.Executions.{database_before}
use Rattle.sessions.proofs.laws.each_place_has_a_database.Goals as goal

pub returns : goal.returns
returns c = database_before
