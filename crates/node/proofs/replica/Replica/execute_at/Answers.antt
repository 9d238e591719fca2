use Rattle.std.proofs.Common.{rules}
use Rattle.node_model.proofs.Replying.{stands_for_unlearnt, stands_for_learnt, adds_reply}
use Rattle.node.proofs.replica.Replica.execute_at.Goals as goal

-- nothing is learnt at the slot
pub returns-in_default-clause-stands : goal.returns-in_default-clause-stands
returns-in_default-clause-stands c = stands_for_unlearnt c.args.self.now.machine _ (search rules)

-- a no-op
pub returns-in_default-command-clause-stands : goal.returns-in_default-command-clause-stands
returns-in_default-command-clause-stands c =
    stands_for_learnt _ _ _ c.in-Some.command.now (search rules) c.in_ok-reply.ensures.stands

-- a request that waited
pub returns-in_ok-push-clause-stands : goal.returns-in_ok-push-clause-stands
returns-in_ok-push-clause-stands c =
    stands_for_learnt _ _ _ c.in-Some.command.now (search rules) c.in_ok-reply.ensures.stands

pub returns-in_ok-push-clause-replies : goal.returns-in_ok-push-clause-replies
returns-in_ok-push-clause-replies c =
    rw c.in_ok-push.ensures.items (adds_reply c.args.self.now.machine c.args.slot _ c.in-Some.command.now c.in-Request.request
    c.in_ok-reply.reply _ c.args.replies.now.items (search rules) c.in-Request.is c.in_ok-reply.ensures.replies
    c.client-client.ensures c.number-number.ensures (search rules) (search rules))

pub returns-in_ok-push-clause-executes : goal.returns-in_ok-push-clause-executes
returns-in_ok-push-clause-executes c = search rules

-- a request that did not
pub returns-else-executed-clause-stands : goal.returns-else-executed-clause-stands
returns-else-executed-clause-stands c =
    stands_for_learnt _ _ _ c.in-Some.command.now (search rules) c.in_ok-reply.ensures.stands
