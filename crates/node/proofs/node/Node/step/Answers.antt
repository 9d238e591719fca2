use Rattle.std.proofs.Common.{◌≡◌, Option, Some, None, option_map, IfSome, IfErr, ap, sym, subst}
use Rattle.node_model.specs.Replicas.{ReplicaState}
use Rattle.node.specs.Wanting.{MayWant}
use Rattle.std.proofs.lemmas.Result.{IfOk-weaker, IfErr-weaker}
use Rattle.node.specs.Seen.{state_of}
use Rattle.node.specs.Replica.{replica_of}
use Rattle.node_model.proofs.Fewness.{said_few}
use Rattle.node_model.proofs.Meanings.{meaning_stays}
use Rattle.node_model.proofs.Restoring.{meaning_restored}
use Rattle.node_model.proofs.StepLemmas.{steps_up, steps_down, stays_down}
use Rattle.node.proofs.node.Node.step.Goals as goal

-- it took the input
pub returns : goal.returns
returns g c =
    let m = replica_of c.in-Some.replica in
    let n = replica_of c.take-result.new.self in
    let r = c.take-result.result in
    let up : (state_of c.args.self.now).up ≡ Some m = ap (λ o. option_map replica_of o) c.in-Some.is in
    record {
      steps = steps_up _ (state_of c.args.self.now) c.take-result.new.storage m n c.args.input r _ up c.take-result.ensures.steps
          (IfOk-weaker r _ _ (λ _ same. ap state_of same) c.stop_after.ensures.ok)
          (IfErr-weaker r _ _ (λ _ same up. ap state_of (same up)) c.stop_after.ensures.goes_on) c.stop_after.ensures.stops;
      meaning = record {
        goes_on = λ base. meaning_stays base c.args.input _ _ m n r _ up c.stop_after.ensures.ok (λ same. ap (λ n. (state_of n).up) same)
            c.take-result.ensures.steps.takes;
        restores = λ base. meaning_restored base c.args.input _ _ m n r _ up c.stop_after.ensures.ok
            (λ same. ap (λ n. (state_of n).up) same)
            c.take-result.ensures.steps.takes;
      };
      few = said_few c.args.input m n r c.recall_bounds.ensures c.take-result.ensures.steps.takes;
      unwritten = λ memory alone. subst (λ s. g.S.Stable.reads c.args.self.now.storage s) (sym c.stop_after.ensures.storage)
          (c.take-result.ensures.unwritten memory alone);
      wanted = subst (λ (o : Option ReplicaState). IfSome o (λ m. IfErr r (λ _. MayWant m c.args.input))) (sym up) c.take-result.ensures.wanted;
    }

-- it is down
pub returns-in_default : goal.returns-in_default
returns-in_default g c =
    let down : (state_of c.args.self.now).up ≡ None = ap (λ o. option_map replica_of o) c.in_default.is in
    record {
      steps = steps_down _ _ _ down;
      meaning = stays_down _ _ down;
      few = tt;
      unwritten = λ memory. absurd cc;
      wanted = subst (λ (o : Option ReplicaState). IfSome o (λ m. MayWant m c.args.input)) (sym down) tt;
    }
