-- A packed ballot is the ballot.
use Rattle.std.proofs.Common.{◌≡◌, ℕ, List, ◌<◌, ◌^◌, ◌∙◌, ap, refl, sym, arith}
use Rattle.std.proofs.lemmas.Nat.{from_le_bytes-to_le_bytes_8}
use Rattle.std.specs.Int.{w64, to_le_bytes, from_le_bytes}
use Rattle.synod.specs.declared.ballot.Ballot.{Ballot}
use Rattle.wire.specs.OneBallot.{same_ballot}
use Rattle.wire.specs.Reading.{ballot_of}
use Rattle.world_model.specs.PackedBallots.{ballot_in, round_bytes, IsPacked}

-- the ballot of a round and a node is theirs
rounds : (round node : ℕ) (b : Ballot) → round ≡ b.round → node ≡ b.node → ballot_of round node ≡ b
unfolding ballot_of
rounds round node b r n =
    let begun = b.begun in
    let of_a_node = b.of_a_node in
    same_ballot _ _ (omega arith) (omega arith)

pub unpacked : (b : Ballot) → b.round < 2 ^ 64 → ballot_in (round_bytes b) b.node ≡ b
unpacked b fits = rounds _ _ b (from_le_bytes-to_le_bytes_8 b.round fits) refl

pub packed : (b : Ballot) → b.round < 2 ^ 64 → IsPacked (round_bytes b) b.node
packed b fits = record {
  bytes = ap round_bytes (unpacked b fits);
  of_a_node = ap (λ (x : Ballot). x.node) (unpacked b fits);
}

-- the round of a ballot of a round below 2^64 is below it
small : (round node : ℕ) → round < 2 ^ 64 → (ballot_of round node).round < 2 ^ 64
unfolding ballot_of
small round node fits = omega arith

-- the number that the bytes are is the round
pub same_round : (round : List ℕ) (node : ℕ) → IsPacked round node → from_le_bytes w64 round < 2 ^ 64
    → from_le_bytes w64 round ≡ (ballot_in round node).round
same_round round node p fits =
    ap (λ (l : List ℕ). from_le_bytes w64 l) (sym p.bytes)
    ∙ from_le_bytes-to_le_bytes_8 (ballot_in round node).round (small (from_le_bytes w64 round) node fits)
