use Rattle.std.proofs.Common.{ap}
use Rattle.acceptor.specs.AcceptedValues.{vote_held}
use Rattle.acceptor.specs.Loading.{raised}
use Rattle.acceptor.specs.State.{accepting_of}
use Rattle.acceptor.proofs.RecordLemmas.{RecordsSay-see_promise, RecordsSay-holds}
use Rattle.acceptor.proofs.acceptor.Acceptor.take_promise.Goals as goal

-- the ballot is seen, and raises the promise
pub returns-in-Some-clause-told : goal.returns-in-Some-clause-told
returns-in-Some-clause-told c = λ seen fresh says.
    let a = accepting_of c.args.self.now in
    let ballot = c.in-Some.ballot in
    let there = RecordsSay-see_promise seen a ballot (rw c.in-Some.is at c.requires) fresh says in
    rw c.in-Some.is (RecordsSay-holds _ (record a { promise = raised a.promise ballot })
    (accepting_of c.raise.new.self) c.raise.ensures.promise c.raise.ensures.floor c.raise.ensures.sealed (ap (λ v. v.items) c.raise.ensures.text)
    (λ s. ap (λ votes. vote_held votes s) c.raise.ensures.votes) there)
