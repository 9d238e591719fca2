-- Frames are never taken back: whatever is done in a world, those that were sent stay where they are.
use Rattle.std.proofs.Common.{◌≡◌, ◌⊎◌, ℕ, List, [], ◌∷◌, ◌++◌, append_assoc, Result, IfOk, IfErr, IsErrOf, refl, ap, ◌∙◌}
use Rattle.stable.specs.Script.{Script}
use Rattle.stable.specs.declared.stable.Stable.{Ghosts}
use Rattle.wire.specs.declared.frames.envelope.Envelope.{Envelope}
use Rattle.events.specs.declared.event.Event.{Event}
use Rattle.events.specs.declared.fault.WorldFault.{WorldFault}
use Rattle.events.specs.declared.fault.WorldFault.TheVariants as world_fault
use Rattle.world_model.specs.declared.lists.StepOutcome.{StepOutcome}
use Rattle.world_model.specs.declared.round_end.RoundEnd.{RoundEnd}
use Rattle.world_model.specs.Rounds.{RoundEnds, IsPartOfRound}
use Rattle.world_model.specs.Worlds.{WorldState, Steps, with_node, with_outcome, with_response, with_answer, without_wait}
use Rattle.world_model.proofs.Steps.Preserved.{Preserved, step_keeps}
use Rattle.world_model.proofs.Progress.RoundLemmas.{call_keeps}

-- the frames of a world begin with these
pub record BeginWith {S : Type 0} (frames : List Envelope) (w : WorldState S) : Type 0 where
  pub more : List Envelope
  pub all : w.frames ≡ frames ++ more

module _ {S : Type 0} (frames : List Envelope) where
  -- the same frames
  same : (v w : WorldState S) → v.frames ≡ w.frames → BeginWith frames w → BeginWith frames v
  same v w e h = record { more = h.more; all = e ∙ h.all }

  -- more of them
  longer : (v w : WorldState S) (sent : List Envelope) → v.frames ≡ w.frames ++ sent → BeginWith frames w → BeginWith frames v
  longer v w sent e h = record {
    more = h.more ++ sent;
    all = e ∙ ap (λ (fs : List Envelope). fs ++ sent) h.all ∙ append_assoc frames h.more sent;
  }

-- whatever a step does but sending leaves the frames as they are
frames_kept : {S : Type 0} (storages : Ghosts (Script S)) (frames : List Envelope) → Preserved storages (λ w. BeginWith frames w)
frames_kept storages frames = record {
  takes = λ w node i taken v h said is fits before.
      longer frames (with_response (with_node w node h.after) node said) w said.sends refl before;
  fails = λ w node i taken v h f is before. same frames (with_node w node h.after) w refl before;
  submits = λ w s sound before. same frames (record w { submitted = w.submitted ++ s ∷ [] }) w refl before;
  unwaits = λ w k before. same frames (without_wait w k) w refl before;
  says = λ w o brings before. same frames (with_outcome w o) w refl before;
  restarts = λ w node v h before. same frames (with_node w node h.after) w refl before;
  arms = λ w node failing n here before. same frames (with_node w node _) w refl before;
  answers = λ w node query v h told is before. same frames (with_answer w node query told.0 told.1) w refl before;
}

module _ {S : Type 0} (storages : Ghosts (Script S)) (frames : List Envelope) where
  pub step_grows : (old : WorldState S) (e : Event) (new : WorldState S) → Steps storages old e new → BeginWith frames old
      → BeginWith frames new
  step_grows old e new h before = step_keeps (frames_kept storages frames) old e new h before

  end_grows : (w : WorldState S) (o : StepOutcome) → BeginWith frames w → BeginWith frames (with_outcome w o)
  end_grows w o h = same frames (with_outcome w o) w refl h

  -- a round, whatever comes of it
  pub round_grows : (old new : WorldState S) (node : ℕ) (members : List ℕ) (result : Result RoundEnd WorldFault)
      → IfOk result (λ end. RoundEnds storages old node members end new)
      → (IsErrOf result world_fault.NoSuchNode → new ≡ old)
      → (IsErrOf result world_fault.Memory → IsPartOfRound storages old node members new)
      → IfErr result (λ f. (f ≡ world_fault.NoSuchNode) ⊎ (f ≡ world_fault.Memory)) → BeginWith frames old → BeginWith frames new
  round_grows old new node members result ends unchanged part faults before =
      call_keeps storages (λ w. BeginWith frames w) (λ w e x steps. step_grows w e x steps) (λ w o h. end_grows w o h)
      old node members before new result ends unchanged part faults
