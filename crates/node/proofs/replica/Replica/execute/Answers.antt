use Rattle.std.proofs.Common.{rules, ◌≡◌, ℕ, Option, [], List, arith, ap, sym, subst, ◌∙◌, refl}
use Rattle.sessions.specs.declared.command.Command.{Command}
use Rattle.node_model.specs.declared.outputs.ReplyOut.{ReplyOut}
use Rattle.node_model.specs.Composition.{StandsForMore, RepliesToMore, AddsReplies}
use Rattle.node_model.specs.Executing.{executed, with_command}
use Rattle.node_model.specs.Replicas.{ReplicaState}
use Rattle.node.specs.Replica.{replica_of}
use Rattle.node_model.specs.Taking.{executing_of, learnt_from}
use Rattle.node_model.proofs.Executions.{rest_done, stands_done, replies_done, all_done, none_left, only_done, learnt_there, stands_begun}
use Rattle.node_model.proofs.Executions.{replies_begun}
use Rattle.node.proofs.replica.Replica.execute.Goals as goal

-- nothing is done yet
pub loop-number-init : goal.loop-number-init
loop-number-init c = record {
  only = refl;
  rest = ap (λ (es : List ReplyOut). executed (executing_of (replica_of c.args.self.now) es) c.args.from
      (learnt_from (replica_of c.args.self.now) c.args.from)) c.new-replies.ensures.items;
  stands = stands_begun (replica_of c.args.self.now) c.args.from;
  replies = rw c.new-replies.ensures.items (replies_begun (replica_of c.args.self.now) c.args.from);
  above = omega arith;
  within = omega arith;
}

-- a slot more
pub loop-number-preserved : goal.loop-number-preserved
loop-number-preserved c =
    let m : ReplicaState = replica_of c.args.self.now in
    let cur : ReplicaState = replica_of c.loop-number.self in
    let next : ReplicaState = replica_of c.execute_at.new.self in
    let at : c.unwrap-slot.result ≡ c.loop-number.number = search rules in
    let there : cur.learner.learnt c.unwrap-slot.result ≡ m.learner.learnt c.loop-number.number =
    learnt_there m c.args.from c.position-number-end.ensures.counted c.requires.kept cur c.unwrap-slot.result c.loop-number.number at
    c.loop-number.invariant.only in
    let did = c.in_ok-execute_at.ensures in
    record {
      only = only_done m c.args.from c.position-number-end.ensures.counted c.requires.kept cur next c.loop-number.invariant.only did.only;
      rest = rest_done m c.args.from c.position-number-end.ensures.counted c.requires.kept c.loop-number.number
          (executing_of cur c.loop-number.replies.items)
          (executing_of next c.execute_at.new.replies.items) c.loop-number.invariant.above (search rules)
          (did.executes
          ∙ ap (λ (s : ℕ). executed (executing_of cur c.loop-number.replies.items) s
          (with_command (cur.learner.learnt c.unwrap-slot.result) [])) at
          ∙ ap (λ (o : Option Command). executed (executing_of cur c.loop-number.replies.items) c.loop-number.number (with_command o []))
          there)
          ∙ c.loop-number.invariant.rest;
      stands = stands_done m c.args.from c.position-number-end.ensures.counted c.requires.kept c.loop-number.number m.machine cur.machine
          next.machine c.loop-number.invariant.above
          c.loop-number.invariant.stands
          (subst (λ (o : Option Command). StandsForMore cur.machine next.machine (with_command o [])) there did.stands);
      replies = replies_done m c.args.from c.position-number-end.ensures.counted c.requires.kept c.loop-number.number m.machine cur.machine
          c.loop-number.replies.items
          c.execute_at.new.replies.items c.loop-number.invariant.above (search rules) c.loop-number.invariant.stands
          c.loop-number.invariant.replies
          (subst (λ (s : ℕ). AddsReplies cur.machine s (with_command (m.learner.learnt c.loop-number.number) [])
          c.loop-number.replies.items c.execute_at.new.replies.items) at
          (subst (λ (o : Option Command). AddsReplies cur.machine c.unwrap-slot.result (with_command o [])
          c.loop-number.replies.items c.execute_at.new.replies.items) there did.replies));
      above = omega (arith, c.loop-number.invariant.above);
      within = omega (arith, c.loop-number.invariant.above, c.loop-number-test.true);
    }

-- all is done
pub returns-clause-executes : goal.returns-clause-executes
returns-clause-executes c =
    sym (none_left (replica_of c.args.self.now) c.args.from c.position-number-end.ensures.counted c.requires.kept c.loop-number.number
    (executing_of (replica_of c.loop-number.self) c.loop-number.replies.items) (search rules))
    ∙ c.loop-number.invariant.rest

pub returns-clause-stands : goal.returns-clause-stands
returns-clause-stands c = subst (λ (cs : List Command). StandsForMore c.args.self.now.machine c.loop-number.self.machine cs)
    (all_done (replica_of c.args.self.now) c.args.from c.position-number-end.ensures.counted c.requires.kept c.loop-number.number
    c.loop-number.invariant.above (search rules)
    (search rules)) c.loop-number.invariant.stands

pub returns-clause-replies : goal.returns-clause-replies
returns-clause-replies c = subst (λ (cs : List Command). RepliesToMore c.args.self.now.machine c.args.from cs c.loop-number.replies.items)
    (all_done (replica_of c.args.self.now) c.args.from c.position-number-end.ensures.counted c.requires.kept c.loop-number.number
    c.loop-number.invariant.above (search rules)
    (search rules)) c.loop-number.invariant.replies
