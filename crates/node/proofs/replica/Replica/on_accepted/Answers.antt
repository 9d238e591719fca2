use Rattle.std.proofs.Common.{Option, Some, IsSome, refl, sym, subst}
use Rattle.learner.specs.Learning.{Learning, HearsVote}
use Rattle.learner.specs.State.{learning_of}
use Rattle.learner.specs.declared.learned.Learned.{Learned}
use Rattle.node_model.specs.Replicas.{ReplicaState}
use Rattle.node.specs.Replica.{replica_of}
use Rattle.node_model.proofs.News.{vote_news}
use Rattle.node.proofs.replica.Replica.on_accepted.Goals as goal

pub execute_and_propose-requires-clause-learnt : goal.execute_and_propose-requires-clause-learnt
execute_and_propose-requires-clause-learnt c =
    let news = vote_news (learning_of c.args.self.now.learner) (learning_of c.on_accepted.new.self) c.args.from c.args.vote.now
    c.in_ok-learned.field-0 c.in-Some.learned c.in_ok-learned.ensures.hears c.in-Some.is in
    subst IsSome (sym news.there) refl

pub returns-in_ok-execute_and_propose-in-Some-clause-takes : goal.returns-in_ok-execute_and_propose-in-Some-clause-takes
returns-in_ok-execute_and_propose-in-Some-clause-takes c =
    let old : ReplicaState = replica_of c.args.self.now in
    let l : Learning = learning_of c.on_accepted.new.self in
    let heard = c.in_ok-learned.ensures.hears in
    let news = vote_news old.learner l c.args.from c.args.vote.now c.in_ok-learned.field-0 c.in-Some.learned heard c.in-Some.is in (
      Some c.in-Some.learned,
      l,
      subst (λ (o : Option Learned). HearsVote old.learner c.args.from c.args.vote.now o l) c.in-Some.is heard,
      c.in_ok-execute_and_propose-in-Some.ensures old c.args.vote.now.command refl c.position-position.ensures.value news.there,
    )
