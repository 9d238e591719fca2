-- A node's acts lead the protocol's world on, and the world stands for it.
use Rattle.std.proofs.Common.{◌≡◌, ℕ, zero, suc, List, [], ◌∷◌, ◌++◌, map, length, slice_get, slice_set, Some, inl, inr, refl, sym, ap, ◌∙◌}
use Rattle.std.proofs.Common.{subst}
use Rattle.std.proofs.Math.ListN.{length-set}
use Rattle.std.proofs.lemmas.Bool.{cases_eq}
use Rattle.std.proofs.lemmas.List.{map-append}
use Rattle.std.proofs.lemmas.Option.{same_Some}
use Rattle.synod.specs.Acts as act
use Rattle.synod.specs.Acts.{Local, Does}
use Rattle.synod.specs.Runs as synod_runs
use Rattle.synod.specs.Runs.{placed, HasCome, IsReached}
use Rattle.synod.proofs.Running.{does_reaches}
use Rattle.stable.specs.Records.{Records}
use Rattle.stable.specs.Script.{Script}
use Rattle.sessions.specs.declared.command.Command.{Command}
use Rattle.wire.specs.declared.frames.envelope.Envelope.{Envelope}
use Rattle.world_model.specs.declared.lists.Submitted.{Submitted}
use Rattle.world_model.specs.declared.lists.LearntEntry.{LearntEntry}
use Rattle.node_model.specs.States.{NodeState}
use Rattle.world_model.specs.Protocol.{membership, frame_of, learnt_as, command_of}
use Rattle.world_model.specs.Reaching.{StandsAt, IsAllowed}
use Rattle.world_model.proofs.OneNode.NodeComes.{local_of, stands_elsewhere}

-- what stands at another place than the one where an element was replaced
pub set_elsewhere : {A : Type 0} (xs : List A) (i j : ℕ) (y z : A) → (j ≡ i → ⊥) → slice_get (slice_set xs i y) j ≡ Some z
    → slice_get xs j ≡ Some z
set_elsewhere [] i j y z ne e = e
set_elsewhere (x ∷ xs) zero zero y z ne e = absurd (ne refl)
set_elsewhere (x ∷ xs) zero (suc j) y z ne e = e
set_elsewhere (x ∷ xs) (suc i) zero y z ne e = e
set_elsewhere (x ∷ xs) (suc i) (suc j) y z ne e = set_elsewhere xs i j y z (λ same. ne (ap suc same)) e

-- and at that place
pub set_here : {A : Type 0} (xs : List A) (i : ℕ) (y z : A) → slice_get (slice_set xs i y) i ≡ Some z → y ≡ z
set_here [] i y z e = absurd cc
set_here (x ∷ xs) zero y z e = same_Some y z e
set_here (x ∷ xs) (suc i) y z e = set_here xs i y z e

module _ {S : Type 0} {contents : Script S → Records} where
  -- the node of a place in the world where node i has come to y
  node_placed : (nodes : List (NodeState (Script S))) (count : ℕ) (w : synod_runs.World Command) (i : ℕ) (after : NodeState (Script S))
      (y : Local Command)
      → ((j : ℕ) (n : NodeState (Script S)) → slice_get nodes j ≡ Some n → StandsAt contents count j w.past (local_of w j) n)
      → StandsAt contents count i (placed w i y).past (local_of (placed w i y) i) after
      → (j : ℕ) (n : NodeState (Script S)) → slice_get (slice_set nodes i after) j ≡ Some n
      → StandsAt contents count j (placed w i y).past (local_of (placed w i y) j) n
  node_placed nodes count w i after y before now j n e = elim (cases_eq j i) [
    | inl same ↦
        let named : after ≡ n = set_here nodes i after n (subst (λ k. slice_get (slice_set nodes i after) k ≡ Some n) same e) in
        subst (λ k. StandsAt contents count k (placed w i y).past (local_of (placed w i y) k) n) (sym same)
        (subst (λ (x : NodeState (Script S)). StandsAt contents count i (placed w i y).past (local_of (placed w i y) i) x) named now)
    | inr other ↦ stands_elsewhere contents count w i y j n other (before j n (set_elsewhere nodes i j after n other e))
  ]

  -- node i does some acts on an input that has come, and its state and the lists are what the acts leave
  pub moved : (nodes : List (NodeState (Script S))) (frames more : List Envelope) (learnt news : List LearntEntry)
      (submitted asked : List Submitted)
      (old : IsAllowed contents nodes frames learnt submitted) (i : ℕ) (after : NodeState (Script S)) (input : act.Input Command)
      (y : Local Command)
      → HasCome old.state.past input → Does (membership (length nodes)) i input (local_of old.state i) y
      → StandsAt contents (length nodes) i (placed old.state i y).past (local_of (placed old.state i y) i) after
      → y.sent ≡ map frame_of more → y.learnt ≡ map learnt_as news → y.submitted ≡ map command_of asked
      → IsAllowed contents (slice_set nodes i after) (frames ++ more) (learnt ++ news) (submitted ++ asked)
  moved nodes frames more learnt news submitted asked old i after input y came does now sent heard asks =
      let same : length (slice_set nodes i after) ≡ length nodes = length-set nodes i after in
      record {
        state = placed old.state i y;
        reached = subst (λ k. IsReached (membership k) (placed old.state i y)) (sym same)
            (does_reaches (membership (length nodes)) old.state i input y came does old.reached);
        stands = record {
          node = λ j n e. subst (λ k. StandsAt contents k j (placed old.state i y).past (local_of (placed old.state i y) j) n) (sym same)
              (node_placed nodes (length nodes) old.state i after y old.stands.node now j n e);
          frames_ = ap (λ l. old.state.past.frames ++ l) sent ∙ ap (λ l. l ++ map frame_of more) old.stands.frames_
              ∙ sym (map-append frame_of frames more);
          learnt_ = ap (λ l. old.state.past.learnt ++ l) heard ∙ ap (λ l. l ++ map learnt_as news) old.stands.learnt_
              ∙ sym (map-append learnt_as learnt news);
          submitted_ = ap (λ l. old.state.past.submitted ++ l) asks ∙ ap (λ l. l ++ map command_of asked) old.stands.submitted_
              ∙ sym (map-append command_of submitted asked);
        };
      }
