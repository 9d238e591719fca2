use Rattle.std.proofs.Common.{◌≡◌, map, take}
use Rattle.proposer.specs.Campaigning.{accept}
use Rattle.proposer.proofs.campaign.Campaign.send_again.Given as goal

abbrev pub invariant-loop-proposal : goal.invariant-loop-proposal
invariant-loop-proposal l = l.sends.items ≡ map (accept l.self.ballot) (take l.proposal-index l.self.proposals)
