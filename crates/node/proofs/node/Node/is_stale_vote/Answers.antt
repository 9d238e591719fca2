use Rattle.std.proofs.Common.{rules, ◌≡◌, true}
use Rattle.node_model.specs.Replicas.{is_stale_vote}
use Rattle.node.specs.Seen.{state_of}
use Rattle.node.specs.Replica.{replica_of}
use Rattle.node_model.proofs.PastVotes.{steps_past, stays_past}
use Rattle.node.proofs.node.Node.is_stale_vote.Goals as goal

pub returns-in-Some-voted_slot-clause-silent : goal.returns-in-Some-voted_slot-clause-silent
returns-in-Some-voted_slot-clause-silent g c below =
    let past : is_stale_vote (replica_of c.in-Some.replica) c.args.frame.now.message ≡ true = search (rules, below) in
    steps_past _ g.met.S.Stable.laws.reads_none (state_of c.args.self.now) (replica_of c.in-Some.replica) c.args.frame.now
    (search rules) c.position.ensures.counted past

pub returns-in-Some-voted_slot-clause-meaning : goal.returns-in-Some-voted_slot-clause-meaning
returns-in-Some-voted_slot-clause-meaning g c below =
    let past : is_stale_vote (replica_of c.in-Some.replica) c.args.frame.now.message ≡ true = search (rules, below) in
    stays_past (state_of c.args.self.now) (replica_of c.in-Some.replica) c.args.frame.now (search rules) c.position.ensures.counted past
