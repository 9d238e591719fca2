use Rattle.acceptor.proofs.SayingOne.{one_promise, one_floor, one_sealed, one_text, one_vote_each}
use Rattle.acceptor.proofs.allowed.records_say_one.Goals as goal

pub returns-clause-promise : goal.returns-clause-promise
returns-clause-promise c = one_promise

pub returns-clause-floor : goal.returns-clause-floor
returns-clause-floor c = one_floor

pub returns-clause-sealed : goal.returns-clause-sealed
returns-clause-sealed c = one_sealed

pub returns-clause-vote : goal.returns-clause-vote
returns-clause-vote c = one_vote_each

pub returns-clause-text : goal.returns-clause-text
returns-clause-text c = one_text
