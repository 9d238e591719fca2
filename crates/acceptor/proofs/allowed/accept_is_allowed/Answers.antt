use Rattle.acceptor.proofs.AllowedLemmas.{accept_writes, accept_answers}
use Rattle.acceptor.proofs.allowed.accept_is_allowed.Goals as goal

pub returns-clause-write : goal.returns-clause-write
returns-clause-write c = λ f i input x a round v came stands. accept_writes f i input x a round stands v came

pub returns-clause-answer : goal.returns-clause-answer
returns-clause-answer c = λ f i input x a round nodes to v came stands. accept_answers f i input x a round stands nodes to v came
