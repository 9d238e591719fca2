use Rattle.acceptor.proofs.AllowedLemmas.{prepare_writes, prepare_answers}
use Rattle.acceptor.proofs.allowed.prepare_is_allowed.Goals as goal

pub returns-clause-write : goal.returns-clause-write
returns-clause-write c = λ f i input x a round first b stands. prepare_writes f i input x a round stands b first

pub returns-clause-answer : goal.returns-clause-answer
returns-clause-answer c = λ f i input x a round nodes to first b answer stands answers. prepare_answers f i input x a round stands nodes to
    first b answer answers
