use Rattle.std.proofs.Common.{ℕ, Option, ap, ◌∙◌, refl, option_map}
use Rattle.slot_table.proofs.ValueLemmas.{where_refused}
use Rattle.acceptor.specs.AcceptedValues.{vote_at, cast_at}
use Rattle.acceptor.specs.declared.accepted_value.AcceptedValue.{AcceptedValue}
use Rattle.acceptor.proofs.VoteLemmas.{votes-put}
use Rattle.acceptor.proofs.votes.Votes.insert.Goals as goal

-- the vote is at its slot, and the others are as they were
pub returns-clause-votes : goal.returns-clause-votes
returns-clause-votes c = λ s.
    let slot = c.args.slot in
    ap (option_map (vote_at s)) (ap (λ f. f s) c.in_ok-insert.ensures.stands)
    ∙ votes-put (cast_at c.args.self.now) c.args.cast (vote_at slot c.args.cast) refl s

-- memory was wanting
pub returns-in_err-insert-clause-unchanged : goal.returns-in_err-insert-clause-unchanged
returns-in_err-insert-clause-unchanged c =
    where_refused c.from_residual.result (λ s. ap (λ (f : ℕ → Option AcceptedValue). option_map (vote_at s) (f s)) c.in_err-insert.ensures.unchanged)
