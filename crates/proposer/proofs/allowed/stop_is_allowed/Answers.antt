use Rattle.proposer.proofs.AllowedMoves.{stop_lem, stop_written_lem}
use Rattle.proposer.proofs.allowed.stop_is_allowed.Goals as goal

pub returns-clause-unwritten : goal.returns-clause-unwritten
returns-clause-unwritten c = λ f i input x p stands. stop_lem f i input x p stands

pub returns-clause-written : goal.returns-clause-written
returns-clause-written c = λ f i input x p own a_node stands. stop_written_lem f i input x p own a_node stands
