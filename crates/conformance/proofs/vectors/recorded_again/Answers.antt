use Rattle.std.proofs.Common.{rules, IfSome, subst}
use Rattle.wire.specs.RecordForms.{IsVoteRecord}
use Rattle.conformance.proofs.vectors.recorded_again.Goals as goal

-- the vote that was read is the one that is written
pub returns-clause-same : goal.returns-clause-same
returns-clause-same c = (
  c.in-Some.ballot,
  c.in-Some.command,
  subst (λ found. IfSome found (λ v. IsVoteRecord c.args.bytes.now v.0 v.1)) c.in-Some.is c.in_ok-ballot.ensures.spelled,
  c.in_ok-vote_record.ensures,
)
