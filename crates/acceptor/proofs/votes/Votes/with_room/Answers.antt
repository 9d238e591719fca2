use Rattle.std.proofs.Common.{ℕ, Option, ap, option_map}
use Rattle.acceptor.specs.AcceptedValues.{vote_at}
use Rattle.acceptor.specs.declared.accepted_value.AcceptedValue.{AcceptedValue}
use Rattle.acceptor.proofs.votes.Votes.with_room.Goals as goal

pub returns : goal.returns
returns c = λ s. ap (λ (f : ℕ → Option AcceptedValue). option_map (vote_at s) (f s)) c.in_ok-by_slot.ensures.empty
