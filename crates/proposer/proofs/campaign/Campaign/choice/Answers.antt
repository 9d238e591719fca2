use Rattle.std.proofs.Common.{rules}
use Rattle.proposer.proofs.campaign.Campaign.choice.Goals as goal

pub returns-clause-chosen : goal.returns-clause-chosen
returns-clause-chosen c = search rules
