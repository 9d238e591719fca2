-- A sound world stays sound, and what is sound is safe.
use Rattle.std.proofs.Common.{◌≡◌, ◌⊎◌, ℕ, List, Bool, Some, Result, IfOk, IfErr, IsErrOf, ap, subst, ◌∙◌}
use Rattle.stable.specs.Records.{Records}
use Rattle.stable.specs.Script.{Script}
use Rattle.stable.specs.declared.scripted.Failing.{Failing}
use Rattle.stable.specs.declared.stable.Stable.{Ghosts}
use Rattle.stable.specs.Storages.{IsLawful}
use Rattle.events.specs.declared.event.Event.{Event}
use Rattle.events.specs.declared.event.Event.TheVariants as event
use Rattle.node_model.specs.declared.input.Input.{Input}
use Rattle.node_model.specs.declared.input.Input.TheVariants as input
use Rattle.world_model.specs.Memberships.{IsMembership}
use Rattle.world_model.specs.Flushing.{IsStart, Delivers}
use Rattle.node_model.specs.Nodes.{NodeState}
use Rattle.world_model.specs.Reaching.{AreHonest}
use Rattle.world_model.specs.Safety.{HasAgreed, IsSafe, WorldInvariant, IsSoundIfHonest}
use Rattle.world_model.specs.Worlds.{WorldState, TakesAt, Steps, with_outcome, without_wait}
use Rattle.events.specs.declared.fault.WorldFault.{WorldFault}
use Rattle.events.specs.declared.fault.WorldFault.TheVariants as fault
use Rattle.world_model.specs.declared.lists.StepOutcome.{StepOutcome}
use Rattle.world_model.specs.declared.round_end.RoundEnd.{RoundEnd}
use Rattle.world_model.specs.Rounds.{RoundEnds, IsPartOfRound}
use Rattle.world_model.proofs.Progress.RoundLemmas.{call_keeps}
use Rattle.world_model.proofs.OneLog.Explained.{explained}
use Rattle.world_model.proofs.Steps.MembershipSteps.{step_membership}
use Rattle.world_model.proofs.OneLog.InLog.{start_in_log, step_in_log}
use Rattle.world_model.proofs.OneNode.ListedPuts.{KeepsPuts}
use Rattle.world_model.proofs.Steps.Preserved.{HoldsOf, step_holds, submission_nodes, answered_nodes}
use Rattle.world_model.proofs.Refinement.PromisesStand.{start_promises, step_promises}
use Rattle.world_model.proofs.OneNode.RestartLemmas.{restart_honest}
use Rattle.world_model.proofs.Refinement.SafetyLemmas.{allowed_agrees, has_chosen, learnt_agree, learnt_grounded, start_allowed}
use Rattle.world_model.proofs.OneLog.Tellings.{steps_keep_lists, start_tells}
use Rattle.world_model.proofs.OneLog.Texts.{texts_explained, parts_explained, nodes_explained}
use Rattle.world_model.proofs.OneLog.Validity.{start_valid, step_valid}
use Rattle.world_model.proofs.Refinement.WorldMoves.{honest_nodes, honest_took, step_allowed}

-- what is sound is safe
pub sound_is_safe : {S : Type 0} {contents : Script S → Records} (w : WorldState S) → WorldInvariant contents w → IsSafe w
sound_is_safe {S} {contents} w sound =
    let agreed : HasAgreed w = allowed_agrees w sound.allowed in
    record {
      agreed = agreed;
      chosen = has_chosen w agreed;
      explained = explained contents w sound.tells (learnt_agree w agreed) sound.in_log (learnt_grounded w agreed);
      valid = sound.valid;
      texts = texts_explained contents w sound.tells;
      parts = parts_explained contents w sound.tells;
      nodes = nodes_explained contents w sound.tells;
    }

pub safe_if_honest : {S : Type 0} {contents : Script S → Records} {IsHonest : Script S → Type 0} (w : WorldState S)
    → IsSoundIfHonest contents IsHonest w
    → AreHonest IsHonest w.nodes → IsSafe w
safe_if_honest w h honest = sound_is_safe w (h.sound honest)

-- ---- the start
pub start_sound : {S : Type 0} (storages : Ghosts (Script S)) (count : ℕ) (w : WorldState S) → IsStart storages count w
    → IsSoundIfHonest storages.contents storages.IsHonest w
start_sound storages count w start = record {
  sound = λ honest. record {
    allowed = start_allowed count w start honest;
    tells = start_tells storages count w start honest;
    in_log = start_in_log w.learnt (ap (λ (x : WorldState _). x.learnt) start.nothing);
    valid = start_valid w (ap (λ (x : WorldState _). x.submitted) start.nothing);
    promises = start_promises storages count w start;
  };
}

module _ {S : Type 0} {storages : Ghosts (Script S)} (laws : IsLawful storages)
    (armed_honest : (s : Script S) (f : Failing) → storages.IsHonest (record s { armed = Some f }) → storages.IsHonest s)
    (armed_contents : (s : Script S) (f : Failing) → storages.contents (record s { armed = Some f }) ≡ storages.contents s)
    (lists : KeepsPuts storages) where
  -- ---- where every storage is honest after a step it was so before
  abbrev Honest : WorldState S → Type 0
  Honest w = AreHonest storages.IsHonest w.nodes

  same_nodes : (old new : WorldState S) → new.nodes ≡ old.nodes → Honest new → Honest old
  same_nodes old new e honest = subst (λ (x : List (NodeState (Script S))). AreHonest storages.IsHonest x) e honest

  took : (old : WorldState S) (node : ℕ) (i : Input) (taken : Bool) (new : WorldState S) → TakesAt storages old node i taken new
      → Honest new → Honest old
  took = honest_took laws armed_honest armed_contents lists

  pub was_honest : HoldsOf storages (λ old e new. Honest new → Honest old)
  was_honest = record {
    takes = λ old e node i taken new h own. took old node i taken new h;
    submits = λ old e node r new h honest.
        took old node (input.Submit r.client r.number r.op) h.taken h.between h.takes
        (same_nodes h.between new (ap (λ (w : WorldState S). w.nodes) h.leaves
        ∙ submission_nodes h.between h.taken node r) honest);
    hears = λ old e k frame taken new sent fits h. took (without_wait old k) frame.to (input.Message frame) taken new h;
    loses = λ old e k o new brings h honest. same_nodes old new (ap (λ (w : WorldState S). w.nodes) h) honest;
    restarts = λ old node new h honest.
        honest_nodes laws armed_honest armed_contents lists old.nodes node h.before h.after h.here
        (restart_honest laws h.before h.after h.result h.restarts)
        (subst (λ (x : List (NodeState (Script S))). AreHonest storages.IsHonest x) (ap (λ (w : WorldState S). w.nodes) h.leaves) honest);
    arms = λ old e node failing new h honest.
        honest_nodes laws armed_honest armed_contents lists old.nodes node h.before _ h.here (armed_honest h.before.storage failing)
        (subst (λ (x : List (NodeState (Script S))). AreHonest storages.IsHonest x) (ap (λ (w : WorldState S). w.nodes) h.leaves) honest);
    answers = λ old e node query new h honest.
        same_nodes old new (ap (λ (w : WorldState S). w.nodes) h.leaves
        ∙ answered_nodes old node query h.result) honest;
  }

  -- ---- a step
  pub step_sound : (old : WorldState S) (e : Event) (new : WorldState S) → Steps storages old e new
      → IsMembership old.nodes old.frames → IsSoundIfHonest storages.contents storages.IsHonest old
      → IsSoundIfHonest storages.contents storages.IsHonest new
  step_sound old e new h membership before = record {
    sound = λ honest.
        let was = before.sound (step_holds was_honest old e new h honest) in
        record {
          allowed = step_allowed laws armed_honest armed_contents lists old e new h membership (λ then. (before.sound then).allowed) honest;
          tells = steps_keep_lists laws lists armed_contents old new e h honest was.allowed
              (learnt_agree old (allowed_agrees old was.allowed)) was.tells;
          in_log = step_in_log storages old e new h was.in_log;
          valid = step_valid storages old e new h was.valid;
          promises = step_promises laws lists armed_contents old e new h membership was.allowed was.promises honest;
        };
  }

  record Kept (w : WorldState S) : Type 0 where
    membership : IsMembership w.nodes w.frames
    sound : IsSoundIfHonest storages.contents storages.IsHonest w

  -- ---- an outcome more is told
  pub told_sound : (w : WorldState S) (o : StepOutcome) → IsSoundIfHonest storages.contents storages.IsHonest w
      → IsSoundIfHonest storages.contents storages.IsHonest (with_outcome w o)
  told_sound w o h = record {
    sound = λ honest.
        let was = h.sound honest in
        record { allowed = was.allowed; tells = was.tells; in_log = was.in_log; valid = was.valid; promises = was.promises };
  }

  -- ---- a round, whatever comes of it
  step_keeps : (old : WorldState S) (e : Event) (new : WorldState S) → Steps storages old e new → Kept old → Kept new
  step_keeps old e new h kept = record {
    membership = step_membership storages old e new h kept.membership;
    sound = step_sound old e new h kept.membership kept.sound;
  }

  told_keeps : (w : WorldState S) (o : StepOutcome) → Kept w → Kept (with_outcome w o)
  told_keeps w o kept = record { membership = kept.membership; sound = told_sound w o kept.sound }

  pub round_sound : (old new : WorldState S) (node : ℕ) (members : List ℕ) (result : Result RoundEnd WorldFault)
      → IfOk result (λ end. RoundEnds storages old node members end new)
      → (IsErrOf result fault.NoSuchNode → new ≡ old)
      → (IsErrOf result fault.Memory → IsPartOfRound storages old node members new)
      → IfErr result (λ f. (f ≡ fault.NoSuchNode) ⊎ (f ≡ fault.Memory))
      → IsMembership old.nodes old.frames → IsSoundIfHonest storages.contents storages.IsHonest old
      → IsSoundIfHonest storages.contents storages.IsHonest new
  round_sound old new node members result ends unchanged part faults membership sound =
      (call_keeps storages (λ w. Kept w) step_keeps told_keeps old node members (record { membership = membership; sound = sound })
      new result ends unchanged part faults).sound

  -- ---- deliveries one after the other
  delivers_kept : (old : WorldState S) (n : ℕ) (new : WorldState S) → Delivers storages old n new → Kept old → Kept new
  delivers_kept old _ new Delivers.none kept = kept
  delivers_kept old _ new (Delivers.more n k between new_ before lowest delivers) kept =
      let then = delivers_kept old n between before kept in
      record {
        membership = step_membership storages between (event.Deliver k) new delivers then.membership;
        sound = step_sound between (event.Deliver k) new delivers then.membership then.sound;
      }

  pub delivers_sound : (old : WorldState S) (n : ℕ) (new : WorldState S) → Delivers storages old n new → IsMembership old.nodes old.frames
      → IsSoundIfHonest storages.contents storages.IsHonest old → IsSoundIfHonest storages.contents storages.IsHonest new
  delivers_sound old n new h membership sound = (delivers_kept old n new h (record { membership = membership; sound = sound })).sound
