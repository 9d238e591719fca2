use Rattle.std.proofs.Common.{◌≡◌, ◌≢◌, ◌++◌, List, [], ap, ◌∙◌, subst}
use Rattle.std.proofs.lemmas.Result.{err_from_is_err_and}
use Rattle.learner.specs.Learning.{learnt_at}
use Rattle.wire.specs.declared.frames.envelope.Envelope.{Envelope}
use Rattle.node_model.specs.Replicas.{ReplicaState}
use Rattle.node_model.specs.Outputs.{sent}
use Rattle.node.specs.Replica.{replica_of}
use Rattle.node_model.specs.Sending.{decided_sends}
use Rattle.node.proofs.replica.Replica.on_ask.Goals as goal

-- the room that was taken changes nothing of what is known
pub returns-clause-takes : goal.returns-clause-takes
returns-clause-takes c =
    let told : ReplicaState → List Envelope = λ m. decided_sends m.id c.args.from c.args.slot m.acceptor.floor (learnt_at m.learner c.args.slot) in
    let now : ReplicaState = replica_of c.take_send_buffer-sends.new.self in
    let said : c.of_frames.result ≡ sent (told now) =
    c.of_frames.ensures ∙ ap sent (c.in_ok-answer_ask.ensures.told ∙ ap (λ (es : List Envelope). es ++ told now) c.take_send_buffer-sends.ensures.empty) in
    (c.take_send_buffer-sends.ensures.same, subst (λ (m : ReplicaState). c.of_frames.result ≡ sent (told m)) c.take_send_buffer-sends.ensures.same said)

-- only an answer wants memory
pub returns-in_err-answer_ask-clause-wanted : goal.returns-in_err-answer_ask-clause-wanted
returns-in_err-answer_ask-clause-wanted c =
    let told : ReplicaState → List Envelope = λ m. decided_sends m.id c.args.from c.args.slot m.acceptor.floor (learnt_at m.learner c.args.slot) in
    let exit = err_from_is_err_and c.from_residual.result c.from_residual.ensures.1 in
    rw exit.1 (subst (λ (m : ReplicaState). told m ≢ []) c.take_send_buffer-sends.ensures.same c.in_err-answer_ask.ensures.wanted)
