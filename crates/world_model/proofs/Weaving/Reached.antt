-- Whatever steps reach from a start is safe.
use Rattle.std.proofs.Common.{◌≡◌, ℕ, ◌≤◌, List, [], ◌∷◌, All, length, Some, subst, sym, ap, arith}
use Rattle.stable.specs.Script.{Script}
use Rattle.stable.specs.declared.scripted.Failing.{Failing}
use Rattle.stable.specs.declared.stable.Stable.{Ghosts}
use Rattle.stable.specs.Storages.{IsLawful}
use Rattle.synod.specs.declared.ballot.TheConstants.{MOST_NODES}
use Rattle.wire.specs.declared.frames.envelope.Envelope.{Envelope}
use Rattle.events.specs.declared.event.Event.{Event}
use Rattle.node_model.specs.Loading.{IsMember}
use Rattle.node_model.specs.Sending.{IsBetween}
use Rattle.world_model.specs.Flushing.{IsStart}
use Rattle.world_model.specs.Memberships.{IsMembership}
use Rattle.world_model.specs.Progress.{StepsAll}
use Rattle.world_model.specs.Reaching.{AreHonest, IsAllowed}
use Rattle.world_model.specs.Safety.{IsSafe, IsSoundIfHonest}
use Rattle.world_model.specs.Worlds.{WorldState}
use Rattle.world_model.proofs.OneNode.ListedPuts.{KeepsPuts}
use Rattle.world_model.proofs.SoundSteps.{start_sound, step_sound, safe_if_honest}
use Rattle.world_model.proofs.Steps.MembershipSteps.{step_membership}

-- at the start the nodes have their places as their numbers, and nothing was sent
pub start_membership : {S : Type 0} (storages : Ghosts (Script S)) (count : ℕ) (w : WorldState S) → count ≤ MOST_NODES
    → IsStart storages count w → IsMembership w.nodes w.frames
start_membership {S} storages count w few start =
    let all : length w.nodes ≡ count = start.nodes.all in
    let none : w.frames ≡ [] = ap (λ (x : WorldState S). x.frames) start.nothing in
    record {
      few = subst (λ k. k ≤ MOST_NODES) (sym all) few;
      members = λ i n here. subst (λ k. IsMember i k n) (sym all) (start.nodes.each i n here).member;
      between = subst (λ (x : List Envelope). All (IsBetween (length w.nodes)) x) (sym none) (λ k d within. absurd (omega (arith, within)));
    }

-- steps keep it so
pub steps_membership : {S : Type 0} (storages : Ghosts (Script S)) (old : WorldState S) (events : List Event) (new : WorldState S)
    → StepsAll storages old events new → IsMembership old.nodes old.frames → IsMembership new.nodes new.frames
steps_membership {S} storages old [] new h membership =
    subst (λ (x : WorldState S). IsMembership x.nodes x.frames) (sym h) membership
steps_membership storages old (e ∷ more) new h membership =
    steps_membership storages h.0 more new h.2 (step_membership storages old e h.0 h.1 membership)

module _ {S : Type 0} {storages : Ghosts (Script S)} (laws : IsLawful storages)
    (armed_honest : (s : Script S) (f : Failing) → storages.IsHonest (record s { armed = Some f }) → storages.IsHonest s)
    (armed_contents : (s : Script S) (f : Failing) → storages.contents (record s { armed = Some f }) ≡ storages.contents s)
    (lists : KeepsPuts storages) where
  steps_sound : (old : WorldState S) (events : List Event) (new : WorldState S) → StepsAll storages old events new
      → IsMembership old.nodes old.frames → IsSoundIfHonest storages.contents storages.IsHonest old
      → IsSoundIfHonest storages.contents storages.IsHonest new
  steps_sound old [] new h membership sound =
      subst (λ (x : WorldState S). IsSoundIfHonest storages.contents storages.IsHonest x) (sym h) sound
  steps_sound old (e ∷ more) new h membership sound =
      steps_sound h.0 more new h.2 (step_membership storages old e h.0 h.1 membership)
      (step_sound laws armed_honest armed_contents lists old e h.0 h.1 membership sound)

  -- what is reached from a start is sound where it is honest
  reached_sound : (count : ℕ) (start : WorldState S) (events : List Event) (w : WorldState S) → count ≤ MOST_NODES
      → IsStart storages count start → StepsAll storages start events w → IsSoundIfHonest storages.contents storages.IsHonest w
  reached_sound count start events w few starts steps =
      steps_sound start events w steps (start_membership storages count start few starts) (start_sound storages count start starts)

  -- so it is safe, and the protocol's moves lead there
  pub reached_safe : (count : ℕ) (start : WorldState S) (events : List Event) (w : WorldState S) → count ≤ MOST_NODES
      → IsStart storages count start → StepsAll storages start events w → AreHonest storages.IsHonest w.nodes → IsSafe w
  reached_safe count start events w few starts steps honest =
      safe_if_honest w (reached_sound count start events w few starts steps) honest

  pub reached_allowed : (count : ℕ) (start : WorldState S) (events : List Event) (w : WorldState S) → count ≤ MOST_NODES
      → IsStart storages count start → StepsAll storages start events w → AreHonest storages.IsHonest w.nodes
      → IsAllowed storages.contents w.nodes w.frames w.learnt w.submitted
  reached_allowed count start events w few starts steps honest =
      ((reached_sound count start events w few starts steps).sound honest).allowed
