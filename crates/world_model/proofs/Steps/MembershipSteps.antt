-- Every step leaves the nodes their names, and all frames between them.
use Rattle.std.proofs.Common.{◌≡◌, ℕ, zero, suc, ◌⊎◌, inl, inr, List, [], ◌∷◌, ◌++◌, All, length, slice_get, slice_set, Some, IfOk, Result}
use Rattle.std.proofs.Common.{refl, sym, ap, subst, arith}
use Rattle.std.proofs.Math.ListN.{length-set}
use Rattle.std.proofs.lemmas.List.Elements.{All-append}
use Rattle.std.proofs.lemmas.Option.{same_Some, slice_get_within}
use Rattle.stable.specs.Script.{Script}
use Rattle.stable.specs.declared.scripted.Failing.{Failing}
use Rattle.stable.specs.declared.stable.Stable.{Ghosts}
use Rattle.wire.specs.declared.frames.envelope.Envelope.{Envelope}
use Rattle.events.specs.declared.event.Event.{Event}
use Rattle.node_model.specs.declared.fault.NodeFault.{NodeFault}
use Rattle.node_model.specs.Loading.{IsMember}
use Rattle.node_model.specs.Nodes.{NodeState}
use Rattle.node_model.specs.Outputs.{Response}
use Rattle.node_model.specs.Sending.{IsBetween}
use Rattle.world_model.specs.Memberships.{IsMembership}
use Rattle.world_model.specs.Worlds.{WorldState, TakesAt, Steps}
use Rattle.world_model.proofs.Steps.MembershipLemmas.{NodeLeaves, node_leaves, restart_leaves}
use Rattle.world_model.proofs.Steps.Preserved.{Preserved, step_keeps}

-- what stands at a place where one element was replaced: that one, or what stood there
pub set_at : {A : Type 0} (xs : List A) (i j : ℕ) (y z : A) → slice_get (slice_set xs i y) j ≡ Some z
    → ((j ≡ i) × (y ≡ z)) ⊎ (slice_get xs j ≡ Some z)
set_at [] i j y z e = inr e
set_at (x ∷ xs) zero zero y z e = inl (refl, same_Some y z e)
set_at (x ∷ xs) zero (suc j) y z e = inr e
set_at (x ∷ xs) (suc i) zero y z e = inr e
set_at (x ∷ xs) (suc i) (suc j) y z e = elim (set_at xs i j y z e) [ inl here ↦ inl (ap suc here.0, here.1) | inr there ↦ inr there ]

module _ {S : Type 0} where
  -- one node is another member of the same name
  pub membership_with : (nodes : List (NodeState S)) (frames : List Envelope) (i : ℕ) (n : NodeState S) → IsMembership nodes frames
      → IsMember i (length nodes) n → IsMembership (slice_set nodes i n) frames
  membership_with nodes frames i n membership member =
      let same : length (slice_set nodes i n) ≡ length nodes = length-set nodes i n in
      record {
        few = omega (arith, same, membership.few);
        members = λ j m here. subst (λ k. IsMember j k m) (sym same) (elim (set_at nodes i j n m here) [
          | inl this ↦ subst (λ (x : NodeState S). IsMember j (length nodes) x) this.1
              (subst (λ k. IsMember k (length nodes) n) (sym this.0) member)
          | inr other ↦ membership.members j m other
        ]);
        between = subst (λ k. All (IsBetween k) frames) (sym same) membership.between;
      }

  -- frames between nodes of the run are sent
  pub membership_sent : (nodes : List (NodeState S)) (frames sends : List Envelope) → IsMembership nodes frames
      → All (IsBetween (length nodes)) sends → IsMembership nodes (frames ++ sends)
  membership_sent nodes frames sends membership between = record {
    few = membership.few;
    members = membership.members;
    between = All-append (IsBetween (length nodes)) frames sends membership.between between;
  }

module _ {S : Type 0} where
  -- a node whose next put fails
  pub armed_member : (i len : ℕ) (n m : NodeState (Script S)) (failing : Failing)
      → m ≡ record n { storage = record n.storage { armed = Some failing } } → IsMember i len n → IsMember i len m
  armed_member i len n m failing e member = subst (λ (x : NodeState (Script S)). IsMember i len x) (sym e)
      (record { number = member.number; of_all = member.of_all; up = member.up })

module _ {S : Type 0} (storages : Ghosts (Script S)) where
  left : (w : WorldState S) (node : ℕ) (i : _) (taken : _) (v : WorldState S) (h : TakesAt storages w node i taken v)
      → IsMembership w.nodes w.frames → NodeLeaves node (length w.nodes) h.after h.result
  left w node i taken v h membership =
      node_leaves node (length w.nodes) storages (slice_get_within w.nodes node h.before h.here) h.before i h.result h.after h.steps
      (membership.members node h.before h.here)

  membership_kept : Preserved storages (λ w. IsMembership w.nodes w.frames)
  membership_kept = record {
    takes = λ w node i taken v h said is fits membership.
        let leaves = left w node i taken v h membership in
        let between : All (IsBetween (length w.nodes)) said.sends =
        subst (λ (r : Result Response NodeFault). IfOk r (λ s. All (IsBetween (length w.nodes)) s.sends)) is leaves.between in
        membership_sent (slice_set w.nodes node h.after) w.frames said.sends (membership_with w.nodes w.frames node h.after membership leaves.member)
        (subst (λ k. All (IsBetween k) said.sends) (sym (length-set w.nodes node h.after)) between);
    fails = λ w node i taken v h f is membership. membership_with w.nodes w.frames node h.after membership (left w node i taken v h membership).member;
    submits = λ w s sound membership. membership;
    unwaits = λ w k membership. membership;
    says = λ w o brings membership. membership;
    restarts = λ w node v h membership.
        membership_with w.nodes w.frames node h.after membership
        (restart_leaves node (length w.nodes) h.before h.result h.after h.restarts (membership.members node h.before h.here));
    arms = λ w node failing n here membership.
        membership_with w.nodes w.frames node _ membership (armed_member node (length w.nodes) n _ failing refl (membership.members node n here));
    answers = λ w node query v h told is membership. membership;
  }

  -- one step
  pub step_membership : (old : WorldState S) (e : Event) (new : WorldState S) → Steps storages old e new
      → IsMembership old.nodes old.frames → IsMembership new.nodes new.frames
  step_membership old e new h membership = step_keeps membership_kept old e new h membership
