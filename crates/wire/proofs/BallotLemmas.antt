-- Ballots by their rounds and nodes.
use Rattle.std.proofs.Common.{◌≡◌, ℕ, ◌<◌, ◌≤◌, ◌+◌, ◌-◌, ◌%◌, sym, arith}
use Rattle.std.proofs.Math.Nat.{mod-eq_of_lt}
use Rattle.synod.specs.declared.ballot.Ballot.{Ballot}
use Rattle.wire.specs.OneBallot.{made, same_node}
use Rattle.wire.specs.Reading.{ballot_of, from_one, of_seven}

-- a ballot is made of its round and its node
pub ballot_is : (b : Ballot) → ballot_of b.round b.node ≡ b
unfolding made ballot_of
ballot_is b =
    let low : b.node < 7 = b.of_a_node in
    let one : 1 ≤ b.round = b.begun in
    let round : b.round ≡ b.round - 1 + 1 = omega arith in
    let node : b.node ≡ b.node % 7 = sym (mod-eq_of_lt low) in
    same_node b (b.round - 1 + 1) (b.node % 7) round node (from_one b.round) (of_seven b.node)

-- what is made of a round and a node has them
pub round_is : (round node : ℕ) → 1 ≤ round → (ballot_of round node).round ≡ round
unfolding ballot_of
round_is round node one = omega arith

pub node_is : (round node : ℕ) → node < 7 → (ballot_of round node).node ≡ node
unfolding ballot_of
node_is round node low = mod-eq_of_lt low
