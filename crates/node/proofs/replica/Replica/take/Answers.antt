use Rattle.std.proofs.Common.{inl, refl}
use Rattle.std.proofs.lemmas.Result.{IfErr-weaker}
use Rattle.node_model.specs.declared.input.Input.TheVariants as input
use Rattle.node.specs.Replica.{replica_of}
use Rattle.node_model.proofs.StepLemmas.{steps_unwritten}
use Rattle.node.proofs.replica.Replica.take.Goals as goal

pub returns-in-Submit : goal.returns-in-Submit
returns-in-Submit g c = rw c.in-Submit.is (record {
  steps = steps_unwritten _ _ (replica_of c.args.self.now) _ (input.Submit c.in-Submit.client c.in-Submit.number c.in-Submit.op)
      c.submit.result (g.met.S.Stable.laws.reads_none _) refl c.submit.ensures.takes c.submit.ensures.refuses c.submit.ensures.err
      (λ is. c.submit.ensures.repeats is.0 is.1);
  unwritten = λ _ alone. absurd alone;
  wanted = IfErr-weaker c.submit.result _ _ (λ _ _. tt) c.submit.ensures.err;
})

pub returns-in-Message : goal.returns-in-Message
returns-in-Message g c = rw c.in-Message.is (record {
  steps = c.receive.ensures.steps;
  unwritten = λ _ alone. absurd alone;
  wanted = c.receive.ensures.wanted;
})

pub returns-in-Timeout : goal.returns-in-Timeout
returns-in-Timeout g c = rw c.in-Timeout.is (record {
  steps = c.timeout.ensures;
  unwritten = λ _ alone. absurd alone;
  wanted = IfErr-weaker c.timeout.result _ _ (λ _ _. tt) c.timeout.ensures.err;
})

pub returns-in-Tick : goal.returns-in-Tick
returns-in-Tick g c = rw c.in-Tick.is (record {
  steps = steps_unwritten _ _ (replica_of c.args.self.now) _ input.Tick c.tick.result (g.met.S.Stable.laws.reads_none _) refl
      c.tick.ensures.takes tt (IfErr-weaker c.tick.result _ _ (λ _ is. inl is) c.tick.ensures.err) (λ is. absurd is);
  unwritten = λ _ alone. absurd alone;
  wanted = IfErr-weaker c.tick.result _ _ (λ _ _. tt) c.tick.ensures.err;
})

pub returns-in-Checkpoint : goal.returns-in-Checkpoint
returns-in-Checkpoint g c = rw c.in-Checkpoint.is (record {
  steps = c.checkpoint.ensures.steps;
  unwritten = λ memory _. c.checkpoint.ensures.memory memory;
  wanted = IfErr-weaker c.checkpoint.result _ _ (λ _ _. tt) c.checkpoint.ensures.steps.err;
})

pub returns-in-Trim : goal.returns-in-Trim
returns-in-Trim g c = rw c.in-Trim.is (record {
  steps = c.trim.ensures.steps;
  unwritten = λ memory _. c.trim.ensures.memory memory;
  wanted = c.trim.ensures.wanted;
})
