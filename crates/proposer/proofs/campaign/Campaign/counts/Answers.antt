use Rattle.std.proofs.Common.{rules}
use Rattle.proposer.proofs.campaign.Campaign.counts.Goals as goal

pub returns-then-from_its_first : goal.returns-then-from_its_first
returns-then-from_its_first c = search rules
