use Rattle.std.proofs.Common.{◌≡◌, ◌++◌, ℕ, List, Option, Some, IsSome, refl, sym, ap, ◌∙◌, subst}
use Rattle.learner.specs.Learning.{Learning, prefix, HearsDecided}
use Rattle.learner.specs.State.{learning_of}
use Rattle.learner.specs.declared.learned.Learned.{Learned}
use Rattle.wire.specs.declared.frames.envelope.Envelope.{Envelope}
use Rattle.node_model.specs.Replicas.{ReplicaState}
use Rattle.node_model.specs.Outputs.{Response}
use Rattle.node.specs.Replica.{replica_of}
use Rattle.node_model.specs.Sending.{ask_sends}
use Rattle.node_model.proofs.News.{decided_news, asks_last}
use Rattle.node.proofs.replica.Replica.on_decided.Goals as goal

pub execute_and_propose-requires-clause-learnt : goal.execute_and_propose-requires-clause-learnt
execute_and_propose-requires-clause-learnt c =
    let news = decided_news (learning_of c.args.self.now.learner) (learning_of c.on_decided.new.self) c.args.slot c.args.command
    c.in_ok-learned.field-0 c.in-Some.learned c.in_ok-learned.ensures.hears c.in-Some.is in
    subst IsSome (sym news.there) refl

-- the question goes last
pub returns-clause-takes : goal.returns-clause-takes
returns-clause-takes c =
    let old : ReplicaState = replica_of c.args.self.now in
    let l : Learning = learning_of c.on_decided.new.self in
    let heard = c.in_ok-learned.ensures.hears in
    let news = decided_news old.learner l c.args.slot c.args.command c.in_ok-learned.field-0 c.in-Some.learned heard c.in-Some.is in
    let learns = c.in_ok-outputs.ensures old c.args.command refl c.position-position.ensures.value news.there in
    let at : ask_sends c.execute_and_propose.new.self.id c.args.from c.position.result ≡ ask_sends old.id c.args.from (prefix l) =
    ap (λ (p : ℕ). ask_sends c.execute_and_propose.new.self.id c.args.from p) c.position.ensures.value
    ∙ ap (λ (m : ReplicaState). ask_sends m.id c.args.from (prefix m.learner)) learns.leaves in
    let sent : c.send_ask.new.sends.items ≡ c.outputs.inside.sends.items ++ ask_sends old.id c.args.from (prefix l) =
    c.in_ok-send_ask.ensures ∙ ap (λ (es : List Envelope). c.outputs.inside.sends.items ++ es) at in (
      Some c.in-Some.learned,
      l,
      subst (λ (o : Option Learned). HearsDecided old.learner c.args.slot c.args.command o l) c.in-Some.is heard,
      asks_last old c.in-Some.learned.slot c.args.command l (ask_sends old.id c.args.from (prefix l)) (replica_of c.execute_and_propose.new.self)
          c.in_ok-outputs.outputs _ learns
          (ap (λ (es : List Envelope). record { restored = c.outputs.inside.restored; learnt = c.outputs.inside.learnt; replies = c.outputs.inside.replies.items; sends = es })
          sent
          ∙ ap (λ (r : Response). record r { sends = r.sends ++ ask_sends old.id c.args.from (prefix l) }) c.outputs.view_is),
    )
