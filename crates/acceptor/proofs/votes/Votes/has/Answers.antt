use Rattle.std.proofs.Common.{rules, arith, ◌≡◌, ap, Some}
use Rattle.std.proofs.lemmas.Bool.Decides.{nat_tests}
use Rattle.wire.specs.OneBallot.{same_ballot}
use Rattle.acceptor.specs.AcceptedValues.{cast_at}
use Rattle.acceptor.proofs.VoteLemmas.{same_vote, command_told}
use Rattle.acceptor.proofs.votes.Votes.has.Goals as goal

-- the ballots are one, so the votes are one where their commands are
pub returns-then-eq : goal.returns-then-eq
returns-then-eq c =
    let cast = c.in-Some.cast.now in
    let vote = c.args.vote.now in
    let found : cast_at c.args.self.now vote.slot ≡ Some cast = search rules in
    let round : cast.ballot.round ≡ vote.ballot.round = grind (arith, nat_tests, c.eq.ensures, c.if-eq.true) in
    let node : cast.ballot.node ≡ vote.ballot.node = grind (arith, nat_tests, c.eq.ensures, c.if-eq.true) in
    let ballot = same_ballot cast.ballot vote.ballot round node in (
      λ same. rw found (ap Some (same_vote cast vote ballot (c.eq-then-eq.ensures.same.0 same))),
      λ told. c.eq-then-eq.ensures.same.1 (command_told cast vote _ found told),
    )
