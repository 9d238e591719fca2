-- The nodes of a run by number, and frames between them.
use Rattle.std.specs.Prelude.{◌≡◌, ℕ, ◌≤◌, List, All, length, slice_get, Some}
use Rattle.synod.specs.declared.ballot.TheConstants.{MOST_NODES}
use Rattle.wire.specs.declared.frames.envelope.Envelope.{Envelope}
use Rattle.node_model.specs.Loading.{IsMember}
use Rattle.node_model.specs.Sending.{IsBetween}
use Rattle.node_model.specs.States.{NodeState}

-- each node has its place as its number, and all frames go between them
pub record IsMembership {S : Type 0} (nodes : List (NodeState S)) (frames : List Envelope) : Type 0 where
  pub few : length nodes ≤ MOST_NODES
  pub members : (i : ℕ) (n : NodeState S) → slice_get nodes i ≡ Some n → IsMember i (length nodes) n
  pub between : All (IsBetween (length nodes)) frames
