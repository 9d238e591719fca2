-- Doing a schedule's lines to a cluster.
use Rattle.std.proofs.Common.{◌≡◌, ◌⊎◌, ◌↔◌, ◌∙◌, inl, inr, ℕ, List, sym, ap, subst, length, Result, Ok, Err, IsErrOf, IfErr, OnOk, OnErr, MatchResult}
use Rattle.stable.specs.declared.memory.MemStable.{MemStable}
use Rattle.world_model.specs.Events.{NamesNoFrame, NamesNoNode}
use Rattle.world_model.specs.Worlds.{Steps}
use Rattle.events.specs.declared.event.Event.{Event}
use Rattle.world_model.specs.Rounds.{IsPartOfRound, NamesNoMember, RoundEnds}
use Rattle.events.specs.declared.fault.WorldFault.{WorldFault}
use Rattle.events.specs.declared.fault.WorldFault.TheVariants as world_fault
use Rattle.world_model.specs.declared.round_end.RoundEnd.{RoundEnd}
use Rattle.cluster.specs.Clusters.{ClusterState, HasPassed, sendings}
use Rattle.cluster.specs.Passages.{Passage}
use Rattle.cluster.specs.Pumps.{Pumps}
use Rattle.cluster.specs.declared.transport.Transport.{Ghosts as Transports}
use Rattle.schedule.specs.Causes.{memory}
use Rattle.replay.proofs.LineByLine.{ends_at_a_line, ends_at_the_last}
use Rattle.replay.specs.LineByLine.{AllDone, StopsAtOne}
use Rattle.schedule.specs.Schedules.{Plan, last_number}
use Rattle.schedule.specs.declared.action.Action.TheVariants.{Flush, Round, Step}
use Rattle.schedule.specs.declared.schedule.ScheduleLine.{ScheduleLine}
use Rattle.schedule.specs.declared.replay_fault.ReplayFault.{ReplayFault}
use Rattle.world_model.specs.Staying.{IsSafeOver}
use Rattle.replay.specs.ClusterRuns.{DoneThrough, FailsThrough, IsPumpFault, RefusedThrough, RunsThrough, SendsOn, storages, text_of}
use Rattle.replay.proofs.Running.{round_done, round_refused}

abbrev broken_off : WorldFault → Result RoundEnd WorldFault
broken_off fault = Err fault

abbrev err_of : {X : Type 0} → WorldFault → Result X WorldFault
err_of fault = Err fault

-- a pump that has made so many Delivers, and one that has failed
abbrev pumped : ℕ → Result ℕ WorldFault
pumped made = Ok made

abbrev failed : WorldFault → Result ℕ WorldFault
failed fault = Err fault

module _ {T : Type 0} (transport : Transports T) where
  -- a step that the world doesn't make
  not_stepped : {X : Type 0} (old new : ClusterState MemStable T) (event : Event) (fault : WorldFault) → new ≡ old
      → ((err_of {X = X} fault ≡ err_of world_fault.NoSuchFrame) ↔ NamesNoFrame (length old.pumped.world.frames) event)
      → ((err_of {X = X} fault ≡ err_of world_fault.NoSuchNode) ↔ NamesNoNode (length old.pumped.world.nodes) event)
      → (fault ≡ world_fault.NoSuchFrame) ⊎ (fault ≡ world_fault.NoSuchNode) ⊎ (fault ≡ world_fault.Memory)
      → RefusedThrough transport (Step event) old fault new
  not_stepped old new event fault same frame node (inl e) =
      subst (λ (f : WorldFault). RefusedThrough transport (Step event) old f new) (sym e)
      ((frame.0 (ap err_of e), ap (λ (c : ClusterState MemStable T). c.pumped.world) same), same)
  not_stepped old new event fault same frame node (inr (inl e)) =
      subst (λ (f : WorldFault). RefusedThrough transport (Step event) old f new) (sym e)
      ((node.0 (ap err_of e), ap (λ (c : ClusterState MemStable T). c.pumped.world) same), same)
  not_stepped old new event fault same frame node (inr (inr e)) =
      subst (λ (f : WorldFault). RefusedThrough transport (Step event) old f new) (sym e) (
        (
          record {
            frame = λ names. let other = sym (ap err_of e) ∙ frame.1 names in cc;
            node = λ names. let other = sym (ap err_of e) ∙ node.1 names in cc;
          },
          ap (λ (c : ClusterState MemStable T). c.pumped.world) same,
        ),
        same,
      )

  -- a step is made, and its frames are sent on; or it isn't made
  pub stepped : {X : Type 0} (old new : ClusterState MemStable T) (event : Event) (result : Result X WorldFault)
      → OnOk result (Steps storages old.pumped.world event new.pumped.world)
      → OnOk result (HasPassed transport old.transport (sendings old.pumped.world new.pumped.world) new.transport)
      → new.pumped.strangers ≡ old.pumped.strangers → OnErr result (new ≡ old)
      → (IsErrOf result world_fault.NoSuchFrame ↔ NamesNoFrame (length old.pumped.world.frames) event)
      → (IsErrOf result world_fault.NoSuchNode ↔ NamesNoNode (length old.pumped.world.nodes) event)
      → IfErr result (λ f. (f ≡ world_fault.NoSuchFrame) ⊎ (f ≡ world_fault.NoSuchNode) ⊎ (f ≡ world_fault.Memory))
      → MatchResult result (λ _. DoneThrough transport (Step event) old new)
      (λ fault. RefusedThrough transport (Step event) old fault new)
  stepped old new event (Ok x) steps sends strangers err frame node faults = (
    (
      record {
        frame = λ names. let other = frame.1 names in cc;
        node = λ names. let other = node.1 names in cc;
      },
      steps,
    ),
    record { sent = sends; strangers = strangers },
  )
  stepped old new event (Err fault) steps sends strangers err frame node faults =
      not_stepped old new event fault err frame node faults

  -- a pump that has come to its end
  pub pump_passed : (old new : ClusterState MemStable T) (made : ℕ)
      → ((passed : List Passage) × Pumps storages old.pumped passed (pumped made) new.pumped
      × HasPassed transport old.transport passed new.transport)
      → DoneThrough transport Flush old new
  pump_passed old new made h = (made, record { passed = h.0; pumps = h.1; through = h.2 })

  -- or has failed
  pub pump_broken_off : (old new : ClusterState MemStable T) (fault : WorldFault)
      → ((passed : List Passage) × Pumps storages old.pumped passed (failed fault) new.pumped
      × HasPassed transport old.transport passed new.transport)
      → IsPumpFault fault → RefusedThrough transport Flush old fault new
  pump_broken_off old new fault h faults = (record { passed = h.0; pumps = h.1; through = h.2 }, faults)

  -- a round of the members that it was handed
  pub round_passed : (old new : ClusterState MemStable T) (node : ℕ) (handed members : List ℕ) (end : RoundEnd) → handed ≡ members
      → RoundEnds storages old.pumped.world node handed end new.pumped.world → SendsOn transport old new
      → DoneThrough transport (Round node members) old new
  round_passed old new node handed members end same ends sends =
      (round_done storages old.pumped.world new.pumped.world node handed members end same ends, sends)

  -- what it is refused for
  pub round_broken_off : (old new : ClusterState MemStable T) (node : ℕ) (handed members : List ℕ) (fault : WorldFault) → handed ≡ members
      → (IsErrOf (broken_off fault) world_fault.NoSuchNode → NamesNoMember (length old.pumped.world.nodes) node handed)
      → (IsErrOf (broken_off fault) world_fault.NoSuchNode → new.pumped.world ≡ old.pumped.world)
      → (IsErrOf (broken_off fault) world_fault.Memory → IsPartOfRound storages old.pumped.world node handed new.pumped.world)
      → (fault ≡ world_fault.NoSuchNode) ⊎ (fault ≡ world_fault.Memory) → SendsOn transport old new
      → RefusedThrough transport (Round node members) old fault new
  round_broken_off old new node handed members fault same no_node unchanged memory faults sends =
      (round_refused storages old.pumped.world new.pumped.world node handed members fault same no_node unchanged memory faults, sends)

  -- the text after all lines
  pub runs_through : (plan : Plan) (lines : List ScheduleLine) (start end : ClusterState MemStable T) (text : List ℕ) → lines ≡ plan.lines
      → AllDone (DoneThrough transport) lines start end → text ≡ text_of end → IsSafeOver storages end.pumped.world
      → RunsThrough transport plan start text end
  runs_through plan lines start end text same led told safe = record {
    led = subst (λ (ls : List ScheduleLine). AllDone (DoneThrough transport) ls start end) same led;
    told = told;
    safe = safe;
  }

  -- a line isn't done
  pub through_to_a_line : (plan : Plan) (lines : List ScheduleLine) (start end : ClusterState MemStable T) (fault : ReplayFault)
      → lines ≡ plan.lines → StopsAtOne (DoneThrough transport) (RefusedThrough transport) lines start fault end
      → IsSafeOver storages end.pumped.world → FailsThrough transport plan start fault end
  through_to_a_line plan lines start end fault same ends safe = record {
    ends = ends_at_a_line (DoneThrough transport) (RefusedThrough transport) plan lines start end fault same ends;
    safe = safe;
  }

  -- there is no text after all lines
  pub through_to_the_last : (plan : Plan) (lines : List ScheduleLine) (start end : ClusterState MemStable T) (last : ℕ)
      → lines ≡ plan.lines → AllDone (DoneThrough transport) lines start end → last ≡ last_number plan
      → IsSafeOver storages end.pumped.world → FailsThrough transport plan start (record { line = last; cause = memory }) end
  through_to_the_last plan lines start end last same led is_last safe = record {
    ends = ends_at_the_last (DoneThrough transport) (RefusedThrough transport) plan lines start end last same led is_last;
    safe = safe;
  }
