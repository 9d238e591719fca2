use Rattle.std.proofs.Common.{rules}
use Rattle.proposer.proofs.campaign.Campaign.window_limit.Goals as goal

pub returns-clause-limit : goal.returns-clause-limit
returns-clause-limit c = search rules
