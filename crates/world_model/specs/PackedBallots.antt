-- A ballot in nine bytes.
use Rattle.std.specs.Prelude.{◌≡◌, ℕ, List}
use Rattle.std.specs.Int.{w64, to_le_bytes, from_le_bytes}
use Rattle.synod.specs.declared.ballot.Ballot.{Ballot}
use Rattle.wire.specs.Reading.{ballot_of}

-- the ballot whose round these bytes are
abbrev pub ballot_in : List ℕ → ℕ → Ballot
ballot_in round node = ballot_of (from_le_bytes w64 round) node

abbrev pub round_bytes : Ballot → List ℕ
round_bytes b = to_le_bytes w64 b.round

-- the bytes and the node are those of the ballot
pub record IsPacked (round : List ℕ) (node : ℕ) : Type 0 where
  pub bytes : round_bytes (ballot_in round node) ≡ round
  pub of_a_node : (ballot_in round node).node ≡ node
