-- A node that an index lends takes an input.
use Rattle.std.proofs.Common.{◌≡◌, ℕ, ◌<◌, List, All, length, map, slice_get, slice_set, Some, Result, Ok, refl, sym, subst}
use Rattle.std.proofs.Common.{IfOk, is_ok}
use Rattle.std.proofs.Math.ListN.{get_or}
use Rattle.stable.specs.Script.{Script}
use Rattle.stable.specs.declared.stable.Stable.{Ghosts}
use Rattle.wire.specs.declared.frames.envelope.Envelope.{Envelope}
use Rattle.node_model.specs.declared.fault.NodeFault.{NodeFault}
use Rattle.node_model.specs.declared.input.Input.{Input}
use Rattle.node.specs.declared.node.Node.{Node}
use Rattle.node_model.specs.Nodes.{NodeSteps, StaysMeaning}
use Rattle.node.specs.Seen.{state_of}
use Rattle.node_model.specs.Outputs.{Response}
use Rattle.node_model.specs.Sending.{IsBetween}
use Rattle.world_model.specs.Memberships.{IsMembership}
use Rattle.world_model.specs.Worlds.{WorldState, TakesAt, recorded}
use Rattle.world.proofs.Lent.{lent_membership, stepped}
use Rattle.world.proofs.WorldLemmas.{lent_at, left_by}

-- the node of number i of so many, which index j lends, was n and is m, and answered r
module _ {S : Type 0} {st : Ghosts (Script S)} (nodes : List (Node (Script S))) (len i j : ℕ) (n m : Node (Script S)) (input : Input)
    (r : Result Response NodeFault) (counted : len ≡ length nodes) (named : j ≡ i) (there : i < len) (lent : n ≡ get_or nodes j n)
    (steps : NodeSteps st (state_of n) input r (state_of m)) where
  -- what it answered is recorded
  pub takes_lent : (old new : WorldState S) (answer : Result Response NodeFault) → old.nodes ≡ map state_of nodes
      → StaysMeaning (state_of n) input r (state_of m) → r ≡ answer
      → new ≡ recorded (record old { nodes = map state_of (slice_set nodes j m) }) i answer
      → TakesAt st old i input (is_ok answer) new
  takes_lent old new answer same meaning is told = record {
    before = state_of n;
    here = subst (λ ns. slice_get ns i ≡ Some (state_of n)) (sym same) (lent_at nodes len i j n counted named there lent);
    after = state_of m;
    result = answer;
    steps = subst (λ a. NodeSteps st (state_of n) input a (state_of m)) is steps;
    meaning = subst (λ a. StaysMeaning (state_of n) input a (state_of m)) is meaning;
    taken_ = refl;
    leaves = left_by new old nodes i m (λ w. recorded w i answer)
        (subst (λ k. new ≡ recorded (record old { nodes = map state_of (slice_set nodes k m) }) i answer) named told) same;
  }

  -- it keeps its name
  pub lent_keeps_membership : (frames : List Envelope) → IsMembership (map state_of nodes) frames →
      IsMembership (map state_of (slice_set nodes j m)) frames
  lent_keeps_membership frames membership = lent_membership nodes frames len i j n m counted named there lent membership
      (λ _. (stepped nodes frames len i j n m input r counted named there lent membership steps).member)

  -- what it sends goes between nodes of the run
  pub lent_sends_between : (frames : List Envelope) (said : Response) → IsMembership (map state_of nodes) frames → r ≡ Ok said
      → All (IsBetween len) said.sends
  lent_sends_between frames said membership is = subst (λ a. IfOk a (λ s. All (IsBetween len) s.sends)) is
      (stepped nodes frames len i j n m input r counted named there lent membership steps).between
