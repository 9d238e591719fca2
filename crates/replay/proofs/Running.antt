-- Doing line by line.
use Rattle.std.proofs.Common.{◌≡◌, ◌⊎◌, inl, inr, ℕ, List, length, refl, sym, ap, ◌∙◌, subst, Result, Ok, Err, IfOk}
use Rattle.std.proofs.Common.{IfErr, IsErrOf}
use Rattle.stable.specs.Script.{Script}
use Rattle.stable.specs.Storages.{scripted}
use Rattle.stable.specs.declared.stable.Stable.{Ghosts}
use Rattle.world_model.specs.Flushing.{Delivers, DeliversSome, IsStart}
use Rattle.events.specs.declared.fault.WorldFault.{WorldFault}
use Rattle.events.specs.declared.fault.WorldFault.TheVariants as world_fault
use Rattle.world.specs.declared.log.TheConstants.{MOST_DELIVERIES}
use Rattle.world_model.specs.declared.round_end.RoundEnd.{RoundEnd}
use Rattle.world_model.specs.Rounds.{IsPartOfRound, NamesNoMember, RoundEnds}
use Rattle.world_model.specs.Waiting.{OneWaits}
use Rattle.world.specs.Seen.{world_of}
use Rattle.world_model.specs.Starting.{AreOver, OneIsUsed}
use Rattle.world_model.specs.Staying.{StaysSafe}
use Rattle.world_model.specs.Worlds.{WorldState}
use Rattle.schedule.specs.Causes.{memory}
use Rattle.schedule.specs.declared.action.Action.TheVariants.{Flush, Round}
use Rattle.replay.proofs.LineByLine.{ends_at_a_line, ends_at_the_last}
use Rattle.replay.specs.Runs.{ActionIsDone, ActionIsRefused, Leads, EndsAt, RunsTo, RunFails, IsReplay, ReplayEnds}
use Rattle.replay.specs.Runs.{not_begun, not_run, told_of, IsRunOver, EndsOver, is_used, no_world, no_end}
use Rattle.schedule.specs.Schedules.{Plan, IsScheduleOf, last_number}
use Rattle.schedule.specs.declared.schedule.ScheduleLine.{ScheduleLine}
use Rattle.schedule.specs.declared.replay_fault.ReplayCause.TheVariants.{World}
use Rattle.schedule.specs.declared.replay_fault.ReplayFault.{ReplayFault}
use Rattle.replay.specs.declared.replayed.Replayed.{Replayed}

abbrev failed : WorldFault → Result ℕ WorldFault
failed fault = Err fault

abbrev broken_off : WorldFault → Result RoundEnd WorldFault
broken_off fault = Err fault

module _ {S : Type 0} (storages : Ghosts (Script S)) where
  -- what a flush that fails is refused for
  pub flush_refused : (old new : WorldState S) (fault : WorldFault)
      → (IsErrOf (failed fault) world_fault.FlushLimit → Delivers storages old MOST_DELIVERIES new)
      → (IsErrOf (failed fault) world_fault.Memory → DeliversSome storages old MOST_DELIVERIES new)
      → OneWaits new.waiting → (fault ≡ world_fault.FlushLimit) ⊎ (fault ≡ world_fault.Memory)
      → ActionIsRefused storages Flush old fault new
  flush_refused old new fault limit wanting waits (inl e) =
      subst (λ (f : WorldFault). ActionIsRefused storages Flush old f new) (sym e)
      (record { delivers = limit (ap failed e); one_waits = waits })
  flush_refused old new fault limit wanting waits (inr e) =
      subst (λ (f : WorldFault). ActionIsRefused storages Flush old f new) (sym e)
      (record { delivers = wanting (ap failed e); one_waits = waits })

  -- a round of the members that it was handed
  pub round_done : (old new : WorldState S) (node : ℕ) (handed members : List ℕ) (end : RoundEnd) → handed ≡ members
      → RoundEnds storages old node handed end new → ActionIsDone storages (Round node members) old new
  round_done old new node handed members end same ends =
      (end, subst (λ (ms : List ℕ). RoundEnds storages old node ms end new) same ends)

  -- what it is refused for
  pub round_refused : (old new : WorldState S) (node : ℕ) (handed members : List ℕ) (fault : WorldFault) → handed ≡ members
      → (IsErrOf (broken_off fault) world_fault.NoSuchNode → NamesNoMember (length old.nodes) node handed)
      → (IsErrOf (broken_off fault) world_fault.NoSuchNode → new ≡ old)
      → (IsErrOf (broken_off fault) world_fault.Memory → IsPartOfRound storages old node handed new)
      → (fault ≡ world_fault.NoSuchNode) ⊎ (fault ≡ world_fault.Memory)
      → ActionIsRefused storages (Round node members) old fault new
  round_refused old new node handed members fault same no_node unchanged wanting (inl e) =
      subst (λ (f : WorldFault). ActionIsRefused storages (Round node members) old f new) (sym e)
      (subst (λ (ms : List ℕ). NamesNoMember (length old.nodes) node ms) same (no_node (ap broken_off e)), unchanged (ap broken_off e))
  round_refused old new node handed members fault same no_node unchanged wanting (inr e) =
      subst (λ (f : WorldFault). ActionIsRefused storages (Round node members) old f new) (sym e)
      (subst (λ (ms : List ℕ). IsPartOfRound storages old node ms new) same (wanting (ap broken_off e)))

  -- the transcript after all lines, and the world
  pub runs_to : (IsHonest : S → Type 0) (plan : Plan) (lines : List ScheduleLine) (start end : WorldState S) (text : List ℕ) → lines
      ≡ plan.lines
      → Leads storages lines start end → text ≡ told_of end
      → StaysSafe storages IsHonest end
      → (run : RunsTo storages IsHonest plan start text) × (run.end ≡ end)
  runs_to IsHonest plan lines start end text same led told safe = (
    record {
      end = end;
      led = subst (λ (ls : List ScheduleLine). Leads storages ls start end) same led;
      told = told;
      safe = safe;
    },
    refl,
  )

  -- a run over storages that are always honest is a replay of what spells it, which ends in the same world
  pub replayed : (IsHonest : S → Type 0) (bytes : List ℕ) (plan : Plan) (start : WorldState S) (text : List ℕ) → ((s : S) → IsHonest s)
      → IsScheduleOf bytes plan → IsStart storages plan.nodes start → (run : RunsTo storages IsHonest plan start text)
      → (replay : IsReplay storages bytes text) × (replay.end ≡ run.end)
  replayed IsHonest bytes plan start text always spelled starts run = (
    record {
      plan = plan;
      spelled = spelled;
      start = start;
      starts = starts;
      end = run.end;
      led = run.led;
      told = run.told;
      safe = run.safe (λ i n e. always n.storage.inner);
    },
    refl,
  )

  -- a line isn't done
  pub run_ends_at : (IsHonest : S → Type 0) (plan : Plan) (lines : List ScheduleLine) (start end : WorldState S) (fault : ReplayFault)
      → lines ≡ plan.lines → EndsAt storages lines start fault end → StaysSafe storages IsHonest end
      → RunFails storages IsHonest plan start fault
  run_ends_at IsHonest plan lines start end fault same ends safe = record {
    end = end;
    ends = ends_at_a_line (ActionIsDone storages) (ActionIsRefused storages) plan lines start end fault same ends;
    safe = safe;
  }

  -- there is no text after all lines
  pub run_ends_last : (IsHonest : S → Type 0) (plan : Plan) (lines : List ScheduleLine) (start end : WorldState S) (last : ℕ)
      → lines ≡ plan.lines → Leads storages lines start end → last ≡ last_number plan → StaysSafe storages IsHonest end
      → RunFails storages IsHonest plan start (record { line = last; cause = memory })
  run_ends_last IsHonest plan lines start end last same led is_last safe = record {
    end = end;
    ends = ends_at_the_last (ActionIsDone storages) (ActionIsRefused storages) plan lines start end last same led is_last;
    safe = safe;
  }

  -- why a run ended is why its replay did
  pub replay_ends : {T : Type 0} (IsHonest : S → Type 0) (bytes : List ℕ) (plan : Plan) (start : WorldState S)
      (result : Result T ReplayFault)
      → ((s : S) → IsHonest s) → IsScheduleOf bytes plan → IsStart storages plan.nodes start
      → IfErr result (RunFails storages IsHonest plan start) → IfErr result (ReplayEnds storages bytes)
  replay_ends IsHonest bytes plan start (Ok text) always spelled starts fails = fails
  replay_ends IsHonest bytes plan start (Err fault) always spelled starts fails =
      not_run plan spelled start fails.end starts fails.ends (fails.safe (λ i n e. always n.storage.inner))

-- ---- runs over storages that are handed over
module _ {S : Type 0} (storages : Ghosts S) (stores : List S) (plan : Plan) where
  -- why no run begins
  pub begins_none : (fault : WorldFault) (line : ℕ) → line ≡ plan.first
      → (fault ≡ world_fault.NotEmpty → OneIsUsed storages stores) → (fault ≡ world_fault.NotEmpty) ⊎ (fault ≡ world_fault.Memory)
      → EndsOver storages stores plan (record { line = line; cause = World fault })
  begins_none fault line first used (inl e) = is_used (used e) (ap World e) first
  begins_none fault line first used (inr e) = no_world (ap World e) first

  -- a run from where these storages lead
  pub runs_over : (start : WorldState S) (result : Result (Replayed S storages) ReplayFault) → IsStart (scripted storages) plan.nodes start
      → AreOver storages stores start.nodes
      → IfOk result (λ r. RunsTo (scripted storages) storages.IsHonest plan start r.text.items)
      → IfOk result (λ r. IsRunOver storages stores plan r.text.items)
  runs_over start (Ok r) starts over runs = record { start = start; starts = starts; over = over; runs = runs }
  runs_over start (Err fault) starts over runs = tt

  -- and the world in which it ended
  pub ended_over : (start : WorldState S) (result : Result (Replayed S storages) ReplayFault) → IsStart (scripted storages) plan.nodes start
      → AreOver storages stores start.nodes
      → IfOk result (λ r. (run : RunsTo (scripted storages) storages.IsHonest plan start r.text.items) × (run.end ≡ world_of r.world))
      → IfOk result (λ r. (run : IsRunOver storages stores plan r.text.items) × (run.runs.end ≡ world_of r.world))
  ended_over start (Ok r) starts over (run, same) = (record { start = start; starts = starts; over = over; runs = run }, same)
  ended_over start (Err fault) starts over ended = tt

  pub fails_over : (start : WorldState S) (result : Result (Replayed S storages) ReplayFault) → IsStart (scripted storages) plan.nodes start
      → AreOver storages stores start.nodes
      → IfErr result (RunFails (scripted storages) storages.IsHonest plan start) → IfErr result (EndsOver storages stores plan)
  fails_over start (Ok r) starts over fails = fails
  fails_over start (Err fault) starts over fails = no_end start starts over fails

  -- over storages that are always honest it is a replay of what spells the plan
  pub over_replayed : (bytes : List ℕ) (result : Result (Replayed S storages) ReplayFault) → ((s : S) → storages.IsHonest s)
      → IsScheduleOf bytes plan → IfOk result (λ r. IsRunOver storages stores plan r.text.items)
      → IfOk result (λ r. IsReplay (scripted storages) bytes r.text.items)
  over_replayed bytes (Ok r) always spelled run =
      (replayed (scripted storages) storages.IsHonest bytes plan run.start r.text.items always spelled run.starts run.runs).0
  over_replayed bytes (Err fault) always spelled run = tt

  -- and the world is that in which the replay ended
  pub over_ended : (bytes : List ℕ) (result : Result (Replayed S storages) ReplayFault) → ((s : S) → storages.IsHonest s)
      → IsScheduleOf bytes plan
      → IfOk result (λ r. (run : IsRunOver storages stores plan r.text.items) × (run.runs.end ≡ world_of r.world))
      → IfOk result (λ r. (replay : IsReplay (scripted storages) bytes r.text.items) × (replay.end ≡ world_of r.world))
  over_ended bytes (Ok r) always spelled (run, same) =
      let replay = replayed (scripted storages) storages.IsHonest bytes plan run.start r.text.items always spelled run.starts run.runs in
      (replay.0, replay.1 ∙ same)
  over_ended bytes (Err fault) always spelled ended = tt

  -- and over such as hold no record it ends as a replay does
  pub over_ends : (bytes : List ℕ) (result : Result (Replayed S storages) ReplayFault) → ((s : S) → storages.IsHonest s)
      → IsScheduleOf bytes plan
      → (OneIsUsed storages stores → ⊥) → IfErr result (EndsOver storages stores plan)
      → IfErr result (ReplayEnds (scripted storages) bytes)
  over_ends bytes (Ok text) always spelled unused ends = ends
  over_ends bytes (Err fault) always spelled unused (is_used one cause line) = absurd (unused one)
  over_ends bytes (Err fault) always spelled unused (no_world cause line) = not_begun plan spelled cause line
  over_ends bytes (Err fault) always spelled unused (no_end start starts over fails) =
      not_run plan spelled start fails.end starts fails.ends (fails.safe (λ i n e. always n.storage.inner))
