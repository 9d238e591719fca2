use Rattle.std.proofs.Common.{ℕ, Option, ap, ◌∙◌, option_map}
use Rattle.acceptor.specs.AcceptedValues.{vote_at, cast_at}
use Rattle.acceptor.specs.declared.accepted_value.AcceptedValue.{AcceptedValue}
use Rattle.acceptor.proofs.VoteLemmas.{votes-below}
use Rattle.acceptor.proofs.votes.Votes.remove_below.Goals as goal

pub returns : goal.returns
returns c = λ s.
    ap (λ (f : ℕ → Option AcceptedValue). option_map (vote_at s) (f s)) c.remove_below.ensures.gone
    ∙ votes-below (cast_at c.args.self.now) c.args.below s
