use Rattle.std.proofs.Common.{◌≡◌, Option, Some, None, IfSome, IfErr, option_map, ap, sym, subst}
use Rattle.std.proofs.lemmas.Result.{IfOk-weaker, IfErr-weaker}
use Rattle.node_model.specs.Replicas.{ReplicaState}
use Rattle.node.specs.Seen.{state_of}
use Rattle.node.specs.Wanting.{MayWantOn}
use Rattle.node.specs.Replica.{replica_of}
use Rattle.node_model.specs.declared.input.Input.TheVariants as input
use Rattle.node_model.proofs.Fewness.{said_few}
use Rattle.node_model.proofs.Meanings.{meaning_stays}
use Rattle.node_model.proofs.Restoring.{meaning_restored}
use Rattle.node_model.proofs.StepLemmas.{steps_up, steps_down, stays_down}
use Rattle.node.proofs.node.Node.receive.Goals as goal

-- it took the message
pub returns : goal.returns
returns g c =
    let m = replica_of c.in-Some.replica in
    let n = replica_of c.receive-result.new.self in
    let r = c.receive-result.result in
    let up : (state_of c.args.self.now).up ≡ Some m = ap (λ o. option_map replica_of o) c.in-Some.is in
    record {
      steps = steps_up _ (state_of c.args.self.now) c.receive-result.new.storage m n (input.Message c.args.envelope.now) r _ up
          c.receive-result.ensures.steps
          (IfOk-weaker r _ _ (λ _ same. ap state_of same) c.stop_after.ensures.ok)
          (IfErr-weaker r _ _ (λ _ same up. ap state_of (same up)) c.stop_after.ensures.goes_on) c.stop_after.ensures.stops;
      meaning = record {
        goes_on = λ base. meaning_stays base (input.Message c.args.envelope.now) _ _ m n r _ up c.stop_after.ensures.ok
            (λ same. ap (λ n. (state_of n).up) same)
            c.receive-result.ensures.steps.takes;
        restores = λ base. meaning_restored base (input.Message c.args.envelope.now) _ _ m n r _ up c.stop_after.ensures.ok
            (λ same. ap (λ n. (state_of n).up) same)
            c.receive-result.ensures.steps.takes;
      };
      few = said_few (input.Message c.args.envelope.now) m n r c.recall_bounds.ensures c.receive-result.ensures.steps.takes;
      wanted = subst (λ (o : Option ReplicaState). IfSome o (λ m. IfErr r (λ _. MayWantOn m c.args.envelope.now.from c.args.envelope.now.message)))
          (sym up) c.receive-result.ensures.wanted;
    }

-- it is down
pub returns-in_default : goal.returns-in_default
returns-in_default g c =
    let down : (state_of c.args.self.now).up ≡ None = ap (λ o. option_map replica_of o) c.in_default.is in
    record {
      steps = steps_down _ _ _ down;
      meaning = stays_down _ _ down;
      few = tt;
      wanted = subst (λ (o : Option ReplicaState). IfSome o (λ m. MayWantOn m c.args.envelope.now.from c.args.envelope.now.message)) (sym down) tt;
    }
