use Rattle.acceptor.proofs.AllowedLemmas.{checkpoint_writes, trim_stands}
use Rattle.acceptor.proofs.allowed.checkpoint_is_allowed.Goals as goal

pub returns-clause-write : goal.returns-clause-write
returns-clause-write c = λ f i input x a round position text above stands. checkpoint_writes f i input x a round stands position text above

pub returns-clause-trim : goal.returns-clause-trim
returns-clause-trim c = trim_stands
