use Rattle.node_model.proofs.AllowedStopping.{unwritten_allowed, written_allowed}
use Rattle.node_model.proofs.AllowedTaking.{taking_allowed}
use Rattle.node_model.proofs.allowed.steps_are_allowed.Goals as goal

pub returns-clause-taking : goal.returns-clause-taking
returns-clause-taking c = taking_allowed

pub returns-clause-unwritten : goal.returns-clause-unwritten
returns-clause-unwritten c = unwritten_allowed

pub returns-clause-written : goal.returns-clause-written
returns-clause-written c = written_allowed
