use Rattle.std.proofs.Common.{All, take}
use Rattle.store.specs.Operations.{OpIsValid}
use Rattle.sessions.specs.declared.submission.Submission.{Submission}
use Rattle.verdicts.proofs.decision.recall_valid.Given as goal

abbrev pub invariant-loop-request : goal.invariant-loop-request
invariant-loop-request l = All (λ (r : Submission). OpIsValid r.op) (take l.request-index l.requests)
