use Rattle.acceptor.proofs.FloorLemmas.{prepare_covered, accept_covered, checkpoint_covered, trim_covered}
use Rattle.acceptor.proofs.kept.calls_keep_votes_covered.Goals as goal

pub returns-clause-prepare : goal.returns-clause-prepare
returns-clause-prepare c = prepare_covered

pub returns-clause-accept : goal.returns-clause-accept
returns-clause-accept c = accept_covered

pub returns-clause-checkpoint : goal.returns-clause-checkpoint
returns-clause-checkpoint c = checkpoint_covered

pub returns-clause-trim : goal.returns-clause-trim
returns-clause-trim c = trim_covered
