-- The world's calls keep it sound.
use Rattle.std.proofs.Common.{◌≡◌, ◌⊎◌, ℕ, ◌^◌, ◌<◌, List, length, inl, inr, Result, Ok, Err, OnOk, OnErr, IfOk, IfErr, IsErrOf}
use Rattle.std.proofs.Common.{refl, sym, ap, subst, arith}
use mathlib.Core.Logic.{∥∥₁_map}
use Rattle.stable.specs.Records.{Records}
use Rattle.stable.specs.Script.{Script}
use Rattle.stable.specs.ScriptLaws.{scripted_laws}
use Rattle.stable.specs.declared.stable.Stable.{Ghosts}
use Rattle.stable.specs.Storages.{IsLawful, scripted}
use Rattle.events.specs.declared.event.Event.{Event}
use Rattle.events.specs.declared.fault.WorldFault.{WorldFault}
use Rattle.events.specs.declared.fault.WorldFault.TheVariants as fault
use Rattle.world.specs.declared.log.TheConstants.{MOST_DELIVERIES}
use Rattle.world.specs.declared.inner.Inner.{Inner}
use Rattle.world_model.specs.Fired.{HasFewFaults}
use Rattle.world_model.specs.Memberships.{IsMembership}
use Rattle.world_model.specs.Progress.{MakesProgress, PromisesProgress}
use Rattle.world_model.specs.Flushing.{IsStart, Delivers, DeliversSome}
use Rattle.world_model.specs.Reaching.{AreHonest}
use Rattle.world_model.specs.Safety.{IsSafe, IsSoundIfHonest, contents_inside, honest_inside}
use Rattle.world_model.specs.Staying.{StaysSafe}
use Rattle.world_model.specs.Worlds.{WorldState, Steps}
use Rattle.world.specs.Inner.{inner_of}
use Rattle.world_model.proofs.Progress.FiredLemmas.{honest_outside}
use Rattle.world_model.proofs.OneNode.ListedPuts.{script_puts}
use Rattle.world_model.specs.Rounds.{RoundEnds, IsPartOfRound}
use Rattle.world_model.specs.declared.round_end.RoundEnd.{RoundEnd}
use Rattle.world_model.proofs.Progress.RoundsProgress.{makes_progress}
use Rattle.world_model.proofs.SoundSteps.{start_sound, safe_if_honest, step_sound, delivers_sound, round_sound}

abbrev failed : WorldFault → Result ℕ WorldFault
failed f = Err f

-- what is sound is safe, where every storage is honest
pub safe_where_honest : {S : Type 0} {contents : Script S → Records} {IsHonest : Script S → Type 0} (w : WorldState S)
    → ∥ IsSoundIfHonest contents IsHonest w ∥₁
    → AreHonest IsHonest w.nodes → ∥ IsSafe w ∥₁
safe_where_honest w sound honest = ∥∥₁_map sound (λ h. safe_if_honest w h honest)

-- the outcomes are in a Vec, whose length a u64 counts
outcomes_fit : {S : Type 0} (r : Inner S) → length (inner_of r).outcomes < 2 ^ 64
outcomes_fit r = let ok = r.outcomes.ok in let small = r.outcomes.small in omega arith

-- so it is of a run at which few armed faults have come
pub stays_safe : {S : Type 0} (storages : Ghosts S) (r : Inner S) → HasFewFaults (inner_of r)
    → ∥ IsSoundIfHonest (contents_inside storages.contents) (honest_inside storages.IsHonest) (inner_of r) ∥₁
    → StaysSafe (scripted storages) storages.IsHonest (inner_of r)
stays_safe storages r few sound inside =
    let honest = honest_outside storages.IsHonest (inner_of r) (outcomes_fit r) few inside in
    record {
      honest = honest;
      safe = safe_where_honest {contents = contents_inside storages.contents} {IsHonest = honest_inside storages.IsHonest}
          (inner_of r) sound honest;
    }

-- what a round comes to
progress_where_honest : {S : Type 0} (storages : Ghosts (Script S)) (w : WorldState S) (node : ℕ) (members : List ℕ) (end : RoundEnd)
    (new : WorldState S) → IsMembership w.nodes w.frames → RoundEnds storages w node members end new
    → ∥ IsSoundIfHonest storages.contents storages.IsHonest w ∥₁ → AreHonest storages.IsHonest w.nodes
    → ∥ MakesProgress w node members end new ∥₁
progress_where_honest storages w node members end new membership ends sound honest =
    ∥∥₁_map sound (λ h. makes_progress storages storages.contents w membership (h.sound honest) node members end new ends)

pub round_progress : {S : Type 0} (storages : Ghosts S) (r : Inner S) (node : ℕ) (members : List ℕ) (result : Result RoundEnd WorldFault)
    (new : WorldState S) → HasFewFaults (inner_of r)
    → ∥ IsSoundIfHonest (contents_inside storages.contents) (honest_inside storages.IsHonest) (inner_of r) ∥₁
    → IsMembership (inner_of r).nodes (inner_of r).frames
    → IfOk result (λ end. RoundEnds (scripted storages) (inner_of r) node members end new)
    → IfOk result (λ end. PromisesProgress storages.IsHonest (inner_of r) node members end new)
round_progress storages r node members (Ok end) new few sound membership ends = λ inside.
    progress_where_honest (scripted storages) (inner_of r) node members end new membership ends sound
    (honest_outside storages.IsHonest (inner_of r) (outcomes_fit r) few inside)
round_progress storages r node members (Err f) new few sound membership ends = ends

pub started : {S : Type 0} {storages : Ghosts (Script S)} (count : ℕ) (w : WorldState S) → IsStart storages count w
    → ∥ IsSoundIfHonest storages.contents storages.IsHonest w ∥₁
started {S} {storages} count w start = ∣ start_sound storages count w start ∣₁

module _ {S : Type 0} (storages : Ghosts S) (laws : IsLawful storages) where
  abbrev pub Sound : WorldState S → Type 0
  Sound w = IsSoundIfHonest (contents_inside storages.contents) (honest_inside storages.IsHonest) w

  -- a step, or a refusal
  stepped : (old new : WorldState S) (e : Event) (result : Result (Unit {0}) WorldFault)
      → OnOk result (Steps (scripted storages) old e new)
      → OnErr result (new ≡ old) → IsMembership old.nodes old.frames → Sound old → Sound new
  stepped old new e (Ok x) steps same membership sound =
      step_sound (scripted_laws laws) (λ s f h. h) (λ s f. refl)
      (script_puts storages laws) old e new steps membership sound
  stepped old new e (Err f) steps same membership sound = subst (λ (w : WorldState S). Sound w) (sym same) sound

  pub step_kept : (old new : WorldState S) (e : Event) (result : Result (Unit {0}) WorldFault)
      → OnOk result (Steps (scripted storages) old e new)
      → OnErr result (new ≡ old) → IsMembership old.nodes old.frames → ∥ Sound old ∥₁ → ∥ Sound new ∥₁
  step_kept old new e result steps same membership sound = ∥∥₁_map sound (stepped old new e result steps same membership)

  -- a flush, to its end or to a fault
  abbrev Delivered : WorldState S → ℕ → WorldState S → Type 0
  Delivered = Delivers (scripted storages)

  delivered : (old new : WorldState S) (n : ℕ) → Delivered old n new → IsMembership old.nodes old.frames → Sound old → Sound new
  delivered old new n h membership sound =
      delivers_sound (scripted_laws laws) (λ s f h. h) (λ s f. refl)
      (script_puts storages laws) old n new h membership sound

  flushed : (old new : WorldState S) (result : Result ℕ WorldFault) → IfOk result (λ n. Delivered old n new)
      → (IsErrOf result fault.FlushLimit → Delivered old MOST_DELIVERIES new)
      → (IsErrOf result fault.Memory → DeliversSome (scripted storages) old MOST_DELIVERIES new)
      → IfErr result (λ f. (f ≡ fault.FlushLimit) ⊎ (f ≡ fault.Memory)) → IsMembership old.nodes old.frames → Sound old → Sound new
  flushed old new (Ok n) done limit memory faults membership sound = delivered old new n done membership sound
  flushed old new (Err f) done limit memory (inl e) membership sound = delivered old new MOST_DELIVERIES (limit (ap failed e)) membership sound
  flushed old new (Err f) done limit memory (inr e) membership sound =
      let some = memory (ap failed e) in
      delivered old new some.delivered some.delivers membership sound

  pub flush_kept : (old new : WorldState S) (result : Result ℕ WorldFault) → IfOk result (λ n. Delivered old n new)
      → (IsErrOf result fault.FlushLimit → Delivered old MOST_DELIVERIES new)
      → (IsErrOf result fault.Memory → DeliversSome (scripted storages) old MOST_DELIVERIES new)
      → IfErr result (λ f. (f ≡ fault.FlushLimit) ⊎ (f ≡ fault.Memory)) → IsMembership old.nodes old.frames → ∥ Sound old ∥₁ → ∥ Sound new ∥₁
  flush_kept old new result done limit memory faults membership sound = ∥∥₁_map sound (flushed old new result done limit memory faults membership)

  -- a round, whatever comes of it
  pub round_kept : (old new : WorldState S) (node : ℕ) (members : List ℕ) (result : Result RoundEnd WorldFault)
      → IfOk result (λ end. RoundEnds (scripted storages) old node members end new)
      → (IsErrOf result fault.NoSuchNode → new ≡ old)
      → (IsErrOf result fault.Memory → IsPartOfRound (scripted storages) old node members new)
      → IfErr result (λ f. (f ≡ fault.NoSuchNode) ⊎ (f ≡ fault.Memory))
      → IsMembership old.nodes old.frames → ∥ Sound old ∥₁ → ∥ Sound new ∥₁
  round_kept old new node members result ends unchanged part faults membership sound =
      ∥∥₁_map sound (round_sound (scripted_laws laws) (λ s f h. h) (λ s f. refl) (script_puts storages laws)
      old new node members result ends unchanged part faults membership)
