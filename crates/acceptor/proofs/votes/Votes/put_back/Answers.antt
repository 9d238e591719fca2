use Rattle.std.proofs.Common.{rules, ap, IsSome}
use Rattle.acceptor.specs.AcceptedValues.{cast_at}
use Rattle.acceptor.proofs.VoteLemmas.{never_refused}
use Rattle.acceptor.proofs.votes.Votes.put_back.Goals as goal

-- the slot has a vote, so the old one is put in its place without fail
pub returns-in-Some : goal.returns-in-Some
returns-in-Some c = λ s.
    let slot = c.args.slot in
    let there : IsSome (cast_at c.args.self.now slot) = c.requires (search rules) in
    let stands = never_refused c.insert.result (cast_at c.args.self.now slot) there c.insert.ensures.absent c.insert.ensures.stands in
    rw c.in-Some.is (ap (λ f. f s) stands)

-- the slot had none
pub returns-in-None : goal.returns-in-None
returns-in-None c = λ s.
    rw c.in-None.is (ap (λ f. f s) c.remove.ensures.gone)
