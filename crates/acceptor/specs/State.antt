-- What an acceptor in memory holds.
use Rattle.acceptor.specs.declared.acceptor.Acceptor.{Acceptor}
use Rattle.acceptor.specs.Accepting.{Accepting}
pub use Rattle.acceptor.specs.AcceptedValues.{vote_at, vote_held}

-- what an acceptor holds
abbrev pub accepting_of : Acceptor → Accepting
accepting_of a = record { promise = a.promise; floor = a.floor; sealed = a.sealed; text = a.text.items; vote = λ s. vote_held a.votes s }
