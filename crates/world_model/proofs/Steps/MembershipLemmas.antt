-- Nodes keep their names, and what they send goes between nodes of the run.
use Rattle.std.proofs.Common.{ℕ, ◌<◌, All, IfOk, Result, sym, subst}
use Rattle.stable.specs.declared.stable.Stable.{Ghosts}
use Rattle.node_model.specs.declared.fault.NodeFault.{NodeFault}
use Rattle.node_model.specs.declared.input.Input.{Input}
use Rattle.node_model.specs.Loading.{IsReplicaOf, IsMember, Restarts}
use Rattle.node_model.specs.Nodes.{NodeState, NodeSteps}
use Rattle.node_model.specs.Outputs.{Response}
use Rattle.node_model.specs.Sending.{IsBetween}
use Rattle.node_model.proofs.Between.{steps_between}
use Rattle.node_model.proofs.Members.{steps_member}

-- what a step makes of a node, and what it sends
pub record NodeLeaves {S : Type 0} (id nodes : ℕ) (n : NodeState S) (result : Result Response NodeFault) : Type 0 where
  pub member : IsMember id nodes n
  pub between : IfOk result (λ said. All (IsBetween nodes) said.sends)

module _ (id nodes : ℕ) where
  pub node_leaves : {S : Type 0} (storages : Ghosts S) → id < nodes
      → (old : NodeState S) (i : Input) (r : Result Response NodeFault) (new : NodeState S)
      → NodeSteps storages old i r new → IsMember id nodes old → NodeLeaves id nodes new r
  node_leaves storages there old i r new h member = record {
    member = steps_member storages id nodes old new i member r h;
    between = steps_between storages id nodes old new i member there r h;
  }

  -- the node as it was, but for its storage and what it holds now
  pub restart_leaves : {S : Type 0} {storages : Ghosts S} (old : NodeState S) (r : Result (Unit {0}) NodeFault) (new : NodeState S)
      → Restarts storages old r new → IsMember id nodes old → IsMember id nodes new
  restart_leaves {S} old r new h member = subst (λ (n : NodeState S). IsMember id nodes n) (sym h.leaves) (record {
    number = member.number;
    of_all = member.of_all;
    up = λ m e. subst (λ (n : ℕ). IsReplicaOf id n m) member.of_all
        (subst (λ (i : ℕ). IsReplicaOf i old.nodes m) member.number (h.own m e));
  })
