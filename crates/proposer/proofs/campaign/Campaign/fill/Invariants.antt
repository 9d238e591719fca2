use Rattle.std.proofs.Common.{◌≡◌, ◌-◌}
use Rattle.learner.specs.Learning.{learnt_at}
use Rattle.learner.specs.State.{learning_of}
use Rattle.proposer.specs.Campaigning.{filled, window_filled}
use Rattle.proposer.proofs.campaign.Campaign.fill.Given as goal

-- what is still to be done leads to what the whole leads to
abbrev pub invariant-loop-number : goal.invariant-loop-number
invariant-loop-number l = record {
  only : l.self ≡ record l.initial.self { proposals = l.self.proposals };
  rest : filled l.initial.self l.waiting l.learnt_to (learnt_at (learning_of l.learner)) (l.limit - l.number) l.number
      (record { proposals = l.self.proposals; sent = l.sends.items })
      ≡ window_filled l.initial.self l.waiting l.learnt_to (learning_of l.learner);
}
