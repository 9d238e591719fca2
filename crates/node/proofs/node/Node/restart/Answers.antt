use Rattle.std.proofs.Common.{◌≡◌, Some, refl, ap, rules, subst}
use Rattle.std.proofs.lemmas.Option.{same_Some}
use Rattle.node_model.specs.Loading.{IsFresh, IsReplicaOf}
use Rattle.node_model.specs.Replicas.{ReplicaState}
use Rattle.node_model.proofs.Learnt.{loaded_means}
use Rattle.node.specs.Replica.{replica_of}
use Rattle.node.proofs.node.Node.restart.Goals as goal

-- it is down before it loads, and loads its own records
pub returns-clause-restarts : goal.returns-clause-restarts
returns-clause-restarts g c =
    let id : c.stop.new.self.id ≡ c.args.self.now.id = ap (λ n. n.id) c.stop.ensures in
    let nodes : c.stop.new.self.nodes ≡ c.args.self.now.nodes = ap (λ n. n.nodes) c.stop.ensures in
    let storage : c.stop.new.self.storage ≡ c.args.self.now.storage = ap (λ n. n.storage) c.stop.ensures in
    record {
      leaves = λ i. record {
        id = id i;
        nodes = nodes i;
        storage = c.load.new.storage;
        up = Some (replica_of c.in_ok-replica.replica);
      };
      own = λ m up. subst (λ (x : ReplicaState). IsReplicaOf c.args.self.now.id c.args.self.now.nodes x) (same_Some _ m up)
          (rw id at (rw nodes at c.in_ok-replica.ensures.own));
      fresh = λ m up. subst (λ (x : ReplicaState). IsFresh c.args.self.now.id c.args.self.now.nodes x) (same_Some _ m up)
          (rw id at (rw nodes at c.in_ok-replica.ensures.fresh));
      up = (refl, rw storage at c.in_ok-replica.ensures.looks);
      loads = λ honest. rw id at (rw nodes at (rw storage at (c.in_ok-replica.ensures.loads honest)));
      down = search rules;
      sound = λ honest. rw storage at (c.in_ok-replica.ensures.sound honest);
      damaged = λ honest damaged. absurd (search (rules, damaged));
      device = search rules;
      other = search rules;
    }

-- it is down, and what it was refused by is what the load was
pub returns-in_err-replica-clause-restarts : goal.returns-in_err-replica-clause-restarts
returns-in_err-replica-clause-restarts g c =
    let id : c.stop.new.self.id ≡ c.args.self.now.id = ap (λ n. n.id) c.stop.ensures in
    let nodes : c.stop.new.self.nodes ≡ c.args.self.now.nodes = ap (λ n. n.nodes) c.stop.ensures in
    let storage : c.stop.new.self.storage ≡ c.args.self.now.storage = ap (λ n. n.storage) c.stop.ensures in
    record {
      leaves = search rules;
      own = search rules;
      fresh = search rules;
      up = search rules;
      loads = search rules;
      down = search rules;
      sound = search rules;
      damaged = λ honest damaged. rw storage at (c.in_err-replica.ensures.damaged_record honest (search rules));
      device = search rules;
      other = search rules;
    }

-- it has loaded its own records
pub returns-clause-meaning : goal.returns-clause-meaning
returns-clause-meaning g c = λ honest base is.
    loaded_means _ c.args.self.now.id c.args.self.now.nodes _ base ((returns-clause-restarts g c).loads honest) is

pub returns-clause-position : goal.returns-clause-position
returns-clause-position g c = c.in_ok-replica.ensures.position

pub returns-clause-restored : goal.returns-clause-restored
returns-clause-restored g c = c.in_ok-replica.ensures.restored
