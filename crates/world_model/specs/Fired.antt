-- How many armed faults have come at each node, and that they can be counted.
use Rattle.std.specs.Prelude.{◌≡◌, ℕ, ◌<◌, ◌≤◌, ◌^◌, List, length, slice_get, Option, Some, IsSome, unwrap_or}
use Rattle.stable.specs.Script.{Script}
use Rattle.world_model.specs.Reaching.{AreHonest}
use Rattle.node_model.specs.States.{NodeState}
use Rattle.world_model.specs.Worlds.{WorldState}

-- every storage inside is honest
abbrev pub AreHonestInside : {S : Type 0} → (S → Type 0) → List (NodeState (Script S)) → Type 0
AreHonestInside IsHonest nodes = AreHonest (λ s. IsHonest s.inner) nodes

-- the armed faults that came could be counted, and are at most so many
pub record IsCounted (most : ℕ) (fired : Option ℕ) : Type 0 where
  pub counted : IsSome fired
  pub few : unwrap_or fired 0 ≤ most

-- so it is at every node
abbrev pub AreCounted : {S : Type 0} → ℕ → List (NodeState (Script S)) → Type 0
AreCounted {S} most nodes = (i : ℕ) (n : NodeState (Script S)) → slice_get nodes i ≡ Some n → IsCounted most n.storage.fired

-- at no node have more come than steps were made, each of which has an outcome, as long as a u64 counts the outcomes
pub record HasFewFaults {S : Type 0} (w : WorldState S) : Type 0 where
  pub few : length w.outcomes < 2 ^ 64 → AreCounted (length w.outcomes) w.nodes
