use Rattle.std.proofs.Common.{Some, ap}
use Rattle.acceptor.specs.Accepting.{put}
use Rattle.acceptor.specs.AcceptedValues.{vote_at, vote_held}
use Rattle.acceptor.specs.Loading.{raised}
use Rattle.acceptor.specs.State.{accepting_of}
use Rattle.acceptor.proofs.RecordLemmas.{RecordsSay-see_vote, RecordsSay-holds}
use Rattle.acceptor.proofs.acceptor.Acceptor.take_vote.Goals as goal

-- the vote is seen, and its ballot raises the promise
pub returns-in_ok-insert-clause-told : goal.returns-in_ok-insert-clause-told
returns-in_ok-insert-clause-told c = λ seen fresh says.
    let a = accepting_of c.args.self.now in
    let vote = vote_at c.args.slot c.in-Some.cast in
    let there = RecordsSay-see_vote seen a vote (rw c.in-Some.is at c.requires) fresh says in
    let votes = rw c.raise.ensures.votes at c.in_ok-insert.ensures.votes in
    rw c.in-Some.is (RecordsSay-holds _ (record a { promise = raised a.promise vote.ballot; vote = put a.vote vote.slot (Some vote) })
    (record {
      promise = c.raise.new.self.promise;
      floor = c.raise.new.self.floor;
      sealed = c.raise.new.self.sealed;
      text = c.raise.new.self.text.items;
      vote = λ s. vote_held c.insert.new.self s;
    })
    c.raise.ensures.promise c.raise.ensures.floor c.raise.ensures.sealed (ap (λ v. v.items) c.raise.ensures.text) votes there)
