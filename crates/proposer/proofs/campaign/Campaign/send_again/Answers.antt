use Rattle.std.proofs.Common.{◌≡◌, ◌≢◌, ◌∙◌, ◌<◌, ◌≤◌, ◌∷◌, ℕ, List, [], length, map, take, true, sym, ap, arith, rules}
use Rattle.std.proofs.lemmas.Grind.{common_steps}
use Rattle.std.proofs.lemmas.List.{take_all}
use Rattle.proposer.specs.Campaigning.{Campaigning, accept, sends_again}
use Rattle.proposer.specs.declared.window.Proposal.{Proposal}
use Rattle.proposer.specs.declared.sends.Outgoing.{Outgoing}
use Rattle.learner.proofs.SlotLemmas.{where_refused}
use Rattle.proposer.proofs.campaign.Campaign.send_again.Goals as goal

-- where there is a proposal something is sent
some_sent : (k : Campaigning) (xs : List Proposal) (i : ℕ) → k.leading ≡ true → xs ≡ k.proposals → i < length xs → sends_again k ≢ []
some_sent k [] i led is lt = absurd (omega arith)
some_sent k (x ∷ xs) i led is lt = rw (led, sym is) (λ none. absurd (cc))

-- all proposals were sent
all_sent : (k : Campaigning) (xs : List Proposal) (i : ℕ) (sent : List Outgoing) → k.leading ≡ true → xs ≡ k.proposals
    → length xs ≤ i → sent ≡ map (accept k.ballot) (take i k.proposals) → sent ≡ sends_again k
all_sent k xs i sent led is le of_all =
    rw led (of_all ∙ ap (map (accept k.ballot)) (take_all i k.proposals (rw is at le)))

pub returns-then-not-self-clause-sends : goal.returns-then-not-self-clause-sends
returns-then-not-self-clause-sends c = search rules

pub returns-in_err-clone-clause-sending : goal.returns-in_err-clone-clause-sending
returns-in_err-clone-clause-sending c = where_refused c.from_residual-in_err-clone.result (
    some_sent c.args.self.now _ c.loop-proposal.proposal-index
    (sym (ap (λ (k : Campaigning). k.leading) c.self.view_is) ∙ c.if-not-self.false)
    (c.proposals-proposal-items.ensures ∙ ap (λ (k : Campaigning). k.proposals) c.self.view_is) c.loop-proposal-test.true)

pub returns-in_err-new-clause-sending : goal.returns-in_err-new-clause-sending
returns-in_err-new-clause-sending c = where_refused c.from_residual-in_err-new.result (
    some_sent c.args.self.now _ c.loop-proposal.proposal-index
    (sym (ap (λ (k : Campaigning). k.leading) c.self.view_is) ∙ c.if-not-self.false)
    (c.proposals-proposal-items.ensures ∙ ap (λ (k : Campaigning). k.proposals) c.self.view_is) c.loop-proposal-test.true)

pub returns-in_err-push-2-clause-sending : goal.returns-in_err-push-2-clause-sending
returns-in_err-push-2-clause-sending c = where_refused c.from_residual-in_err-push-2.result (
    some_sent c.args.self.now _ c.loop-proposal.proposal-index
    (sym (ap (λ (k : Campaigning). k.leading) c.self.view_is) ∙ c.if-not-self.false)
    (c.proposals-proposal-items.ensures ∙ ap (λ (k : Campaigning). k.proposals) c.self.view_is) c.loop-proposal-test.true)

pub loop-proposal-preserved : goal.loop-proposal-preserved
loop-proposal-preserved c = grind (arith, common_steps)

pub returns-clause-sends : goal.returns-clause-sends
returns-clause-sends c =
    all_sent c.args.self.now _ c.loop-proposal.proposal-index _
    (sym (ap (λ (k : Campaigning). k.leading) c.self.view_is) ∙ c.if-not-self.false)
    (c.proposals-proposal-items.ensures ∙ ap (λ (k : Campaigning). k.proposals) c.self.view_is) c.loop-proposal-test.false
    c.loop-proposal.invariant
