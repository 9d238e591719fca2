-- What was submitted stays valid.
use Rattle.std.proofs.Common.{◌≡◌, inl, inr, List, [], ◌∷◌, ◌++◌, Contains, subst}
use Rattle.std.proofs.lemmas.List.Elements.{Contains-push_cases}
use Rattle.stable.specs.Script.{Script}
use Rattle.stable.specs.declared.stable.Stable.{Ghosts}
use Rattle.store.specs.Operations.{OpIsValid}
use Rattle.synod.proofs.Thinking.{none_in}
use Rattle.events.specs.declared.event.Event.{Event}
use Rattle.world_model.specs.declared.lists.Submitted.{Submitted}
use Rattle.world_model.specs.Submissions.{BringValid}
use Rattle.world_model.specs.Worlds.{WorldState, Steps}
use Rattle.world_model.proofs.Steps.Preserved.{Preserved, step_keeps}

-- one submission more
valid_push : (submitted : List Submitted) (s : Submitted) → BringValid submitted → OpIsValid s.submission.op → BringValid (submitted ++ s ∷ [])
valid_push submitted s valid sound = record {
  each = λ t c. elim (Contains-push_cases submitted s t c) [
    | inl before ↦ valid.each t before
    | inr same ↦ subst (λ (x : Submitted). OpIsValid x.submission.op) same sound
  ];
}

-- nothing is submitted yet
pub start_valid : {S : Type 0} (w : WorldState S) → w.submitted ≡ [] → BringValid w.submitted
start_valid w none = record { each = λ s c. absurd (none_in s (subst (λ (l : List Submitted). Contains l s) none c)) }

-- nothing but a submission touches the list
valid_kept : {S : Type 0} (storages : Ghosts (Script S)) → Preserved storages (λ w. BringValid w.submitted)
valid_kept storages = record {
  takes = λ w node i taken v h said is fits valid. valid;
  fails = λ w node i taken v h f is valid. valid;
  submits = λ w s sound valid. valid_push w.submitted s valid sound;
  unwaits = λ w k valid. valid;
  says = λ w o brings valid. valid;
  restarts = λ w node v h valid. valid;
  arms = λ w node failing n here valid. valid;
  answers = λ w node query v h told is valid. valid;
}

pub step_valid : {S : Type 0} (storages : Ghosts (Script S)) (old : WorldState S) (e : Event) (new : WorldState S)
    → Steps storages old e new → BringValid old.submitted → BringValid new.submitted
step_valid storages old e new h valid = step_keeps (valid_kept storages) old e new h valid
