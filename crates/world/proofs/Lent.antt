-- A node that an index lends keeps its name.
use Rattle.std.proofs.Common.{◌≡◌, ℕ, ◌<◌, List, map, length, slice_set, Result, sym, subst, ◌∙◌}
use Rattle.std.proofs.Math.ListN.{get_or}
use Rattle.std.proofs.lemmas.List.{length-map}
use Rattle.stable.specs.Script.{Script}
use Rattle.stable.specs.declared.stable.Stable.{Ghosts}
use Rattle.wire.specs.declared.frames.envelope.Envelope.{Envelope}
use Rattle.node_model.specs.declared.fault.NodeFault.{NodeFault}
use Rattle.node_model.specs.declared.input.Input.{Input}
use Rattle.node_model.specs.Loading.{IsMember}
use Rattle.node_model.specs.Nodes.{NodeState, NodeSteps}
use Rattle.node_model.specs.Outputs.{Response}
use Rattle.node.specs.declared.node.Node.{Node}
use Rattle.node.specs.Seen.{state_of}
use Rattle.world_model.specs.Memberships.{IsMembership}
use Rattle.world_model.proofs.Steps.MembershipLemmas.{NodeLeaves, node_leaves}
use Rattle.world_model.proofs.Steps.MembershipSteps.{membership_with}
use Rattle.world.proofs.WorldLemmas.{lent_at, shown_set}

module _ {S : Type 0} where
  counted : (nodes : List (Node (Script S))) (len : ℕ) → len ≡ length nodes → len ≡ length (map state_of nodes)
  counted nodes len e = e ∙ sym (length-map nodes state_of)

  -- the node at a place was changed, and kept its name
  pub lent_membership : (nodes : List (Node (Script S))) (frames : List Envelope) (len i j : ℕ) (n m : Node (Script S))
      → len ≡ length nodes → j ≡ i → i < len → n ≡ get_or nodes j n → IsMembership (map state_of nodes) frames
      → (IsMember i len (state_of n) → IsMember i len (state_of m)) → IsMembership (map state_of (slice_set nodes j m)) frames
  lent_membership nodes frames len i j n m e named there lent membership keeps =
      let same = counted nodes len e in
      let before = membership.members i (state_of n) (lent_at nodes len i j n e named there lent) in
      let after = keeps (subst (λ k. IsMember i k (state_of n)) (sym same) before) in
      subst (λ k. IsMembership (map state_of (slice_set nodes k m)) frames) (sym named)
      (subst (λ (ns : List (NodeState (Script S))). IsMembership ns frames) (sym (shown_set nodes i m))
      (membership_with (map state_of nodes) frames i (state_of m) membership (subst (λ k. IsMember i k (state_of m)) same after)))

  -- a node of the run has taken an input
  pub stepped : {storages : Ghosts (Script S)}
      (nodes : List (Node (Script S))) (frames : List Envelope) (len i j : ℕ) (n m : Node (Script S)) (input : Input)
      (r : Result Response NodeFault) → len ≡ length nodes → j ≡ i → i < len → n ≡ get_or nodes j n
      → IsMembership (map state_of nodes) frames → NodeSteps storages (state_of n) input r (state_of m) → NodeLeaves i len (state_of m) r
  stepped {storages} nodes frames len i j n m input r e named there lent membership steps =
      let same = counted nodes len e in
      let before = membership.members i (state_of n) (lent_at nodes len i j n e named there lent) in
      node_leaves i len storages there (state_of n) input r (state_of m) steps
      (subst (λ k. IsMember i k (state_of n)) (sym same) before)
