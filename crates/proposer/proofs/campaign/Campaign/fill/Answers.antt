use Rattle.std.proofs.Common.{rules, ◌≡◌, ◌≢◌, ◌-◌, ◌∙◌, true, false, is_some, ◌||◌, ap, sym, nat_le, length, [], subst}
use Rattle.std.specs.List.{list_any}
use Rattle.learner.specs.Learning.{learnt_at, prefix}
use Rattle.learner.specs.State.{learning_of}
use Rattle.proposer.specs.Campaigning.{Campaigning, Filling, is_at, window_limit, window_filled}
use Rattle.proposer.specs.declared.window.TheConstants.{MOST_OPEN}
use Rattle.proposer.proofs.Windows.{full_stays, goes_on, stops, opens}
use Rattle.proposer.proofs.campaign.Campaign.fill.Goals as goal

-- nothing is opened where all places are taken
pub returns-then-is_full-clause-filled : goal.returns-then-is_full-clause-filled
returns-then-is_full-clause-filled c =
    let k = c.args.self.now in
    let l = learning_of c.args.learner.now in
    let f : Filling = record { proposals = k.proposals; sent = [] } in
    let full : nat_le MOST_OPEN (length k.proposals) ≡ true = search rules in
    ap (λ sent'. record { proposals = k.proposals; sent = sent' }) c.new-sends.ensures.items
    ∙ sym (full_stays k c.args.waiting.now c.args.learnt_to (learnt_at l) (window_limit (prefix l) k.end - prefix l) (prefix l) f full)

pub returns-then-not-goes_on-clause-filled : goal.returns-then-not-goes_on-clause-filled
returns-then-not-goes_on-clause-filled c =
    let learnt = learnt_at (learning_of c.args.learner.now) in
    let f : Filling = record { proposals = c.loop-number.self.proposals; sent = c.loop-number.sends.items } in
    let g : Filling = record { proposals = c.step.new.self.proposals; sent = c.step.new.sends.items } in
    let at : c.unwrap-slot.result ≡ c.loop-number.number = search rules in
    let ends : c.in_ok-goes_on.goes_on ≡ false = search rules in
    stops c.args.self.now c.args.waiting.now c.args.learnt_to learnt c.loop-number.self c.loop-number.self.proposals
    c.unwrap-slot.result c.loop-number.number c.window_limit-limit.result c.is_settled-settled.result c.in_ok-goes_on.goes_on f g
    c.loop-number.invariant.only at
    (c.is_settled-settled.ensures ∙ ap (λ s. list_any (is_at s) f.proposals || is_some (learnt s)) at) ends c.loop-number-test.true
    c.in_ok-goes_on.ensures.steps
    ∙ c.loop-number.invariant.rest

pub loop-number-preserved : goal.loop-number-preserved
loop-number-preserved c =
    let learnt = learnt_at (learning_of c.args.learner.now) in
    let f : Filling = record { proposals = c.loop-number.self.proposals; sent = c.loop-number.sends.items } in
    let g : Filling = record { proposals = c.step.new.self.proposals; sent = c.step.new.sends.items } in
    let at : c.unwrap-slot.result ≡ c.loop-number.number = search rules in
    let going : c.in_ok-goes_on.goes_on ≡ true = search rules in
    record {
      only = c.in_ok-goes_on.ensures.only ∙ ap (λ (k : Campaigning). record k { proposals = c.step.new.self.proposals })
          c.loop-number.invariant.only;
      rest = goes_on c.args.self.now c.args.waiting.now c.args.learnt_to learnt c.loop-number.self c.loop-number.self.proposals
          c.unwrap-slot.result c.loop-number.number c.window_limit-limit.result c.is_settled-settled.result c.in_ok-goes_on.goes_on f g
          c.loop-number.invariant.only at
          (c.is_settled-settled.ensures ∙ ap (λ s. list_any (is_at s) f.proposals || is_some (learnt s)) at) going c.loop-number-test.true
          c.in_ok-goes_on.ensures.steps
          ∙ c.loop-number.invariant.rest;
    }

-- where a step is refused memory it opens a proposal, which is sent
pub returns-in_err-goes_on-clause-sending : goal.returns-in_err-goes_on-clause-sending
returns-in_err-goes_on-clause-sending c =
    let l = learning_of c.args.learner.now in
    let learnt = learnt_at l in
    let f : Filling = record { proposals = c.loop-number.self.proposals; sent = c.loop-number.sends.items } in
    let at : c.unwrap-slot.result ≡ c.loop-number.number = search rules in
    let there = opens c.args.self.now c.args.waiting.now c.args.learnt_to learnt c.loop-number.self c.loop-number.self.proposals
    c.unwrap-slot.result c.loop-number.number c.window_limit-limit.result c.is_settled-settled.result f
    c.loop-number.invariant.only at
    (c.is_settled-settled.ensures ∙ ap (λ s. list_any (is_at s) f.proposals || is_some (learnt s)) at) c.loop-number-test.true
    c.in_err-goes_on.ensures.opens in
    let sent : (window_filled c.args.self.now c.args.waiting.now c.args.learnt_to l).sent ≢ [] =
    subst (λ (x : Filling). x.sent ≢ []) c.loop-number.invariant.rest there in
    search rules
