use Rattle.std.proofs.Common.{◌≡◌, ℕ, List, Some, None, true, option_map, ap, subst, rules}
use Rattle.wire.specs.Parts.{joined}
use Rattle.node_model.specs.Fetching.{Fetching, wants, missing}
use Rattle.node_model.specs.Replicas.{ReplicaState, position}
use Rattle.node_model.specs.Taking.{RestoresText}
use Rattle.node_model.specs.Taking.TakesPart.{keeps, completes}
use Rattle.node.specs.Fetching.{fetching_of}
use Rattle.node.specs.Replica.{replica_of}
use Rattle.node.proofs.replica.Replica.on_part.Goals as goal

-- the part counts, and one is missing
pub returns-in_ok-ask_next-in-Some-missing-clause-takes : goal.returns-in_ok-ask_next-in-Some-missing-clause-takes
returns-in_ok-ask_next-in-Some-missing-clause-takes c =
    let m : ReplicaState = replica_of c.args.self.now in
    let there : c.args.self.now.fetching ≡ Some c.in-Some.fetching = search rules in
    let wanted : wants m.fetching (position m) c.args.part.now ≡ true = search rules in
    let next : missing (fetching_of c.hold.new.self) ≡ Some c.in-Some-missing.number = search rules in
    keeps (fetching_of c.hold.new.self)
    (record {
      before = fetching_of c.in-Some.fetching;
      fetching_ = ap (λ o. option_map fetching_of o) there;
      wanted = wanted;
      is = c.in_ok-hold.ensures;
    })
    c.in-Some-missing.number next c.in_ok-ask_next-in-Some-missing.ensures.goes_on c.in_ok-ask_next-in-Some-missing.ensures.asks

-- the part counts, and none is missing
pub returns-in_ok-restore-in-None-clause-takes : goal.returns-in_ok-restore-in-None-clause-takes
returns-in_ok-restore-in-None-clause-takes c =
    let m : ReplicaState = replica_of c.args.self.now in
    let g : Fetching = fetching_of c.hold.new.self in
    let there : c.args.self.now.fetching ≡ Some c.in-Some.fetching = search rules in
    let wanted : wants m.fetching (position m) c.args.part.now ≡ true = search rules in
    let none : missing g ≡ None = search rules in
    let taken : c.take.new.self ≡ None = search rules in
    let text : c.deref.result.now ≡ joined g.held = search rules in
    let said = c.in_ok-restore-in-None.ensures.restores m (ap (λ o. record m { fetching = option_map fetching_of o }) taken) in
    completes g
    (record {
      before = fetching_of c.in-Some.fetching;
      fetching_ = ap (λ o. option_map fetching_of o) there;
      wanted = wanted;
      is = c.in_ok-hold.ensures;
    })
    none
    (subst (λ (target : ℕ). RestoresText m c.args.from target (joined g.held) (replica_of c.restore.new.self)
    c.in_ok-restore-in-None.field-0) c.target.ensures
    (subst (λ (xs : List ℕ). RestoresText m c.args.from c.target.result xs (replica_of c.restore.new.self)
    c.in_ok-restore-in-None.field-0) text said))
