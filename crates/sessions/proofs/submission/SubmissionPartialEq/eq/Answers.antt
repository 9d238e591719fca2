use Rattle.std.proofs.Common.{rules}
use Rattle.sessions.proofs.submission.SubmissionPartialEq.eq.Goals as goal

pub returns-then-eq-clause-value : goal.returns-then-eq-clause-value
returns-then-eq-clause-value c = search rules

pub returns-then-eq-clause-same : goal.returns-then-eq-clause-same
returns-then-eq-clause-same c = search rules
