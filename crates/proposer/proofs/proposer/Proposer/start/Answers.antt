use Rattle.std.proofs.Common.{rules}
use Rattle.proposer.proofs.proposer.Proposer.start.Goals as goal

pub returns : goal.returns
returns c = rw (← c.self.view_is) (record {
  ballot = c.new.result.ballot;
  round = search rules;
  own = search rules;
  leaves = search rules;
  asks_all = search rules;
})
