-- Ballots by their rank.
use Rattle.std.proofs.Common.{◌≡◌, ◌<◌, arith}
use Rattle.synod.specs.Ballots.{rank}
use Rattle.synod.specs.declared.ballot.Ballot.{Ballot}
use Rattle.wire.specs.OneBallot.{same_ballot}

-- nodes are below 256, so ranks tell ballots apart
pub same_rank : (a b : Ballot) → rank a ≡ rank b → a ≡ b
same_rank a b e =
    let low_a : a.node < 7 = a.of_a_node in
    let low_b : b.node < 7 = b.of_a_node in
    let node : a.node ≡ b.node = omega arith in
    let round : a.round ≡ b.round = omega arith in
    same_ballot a b round node
