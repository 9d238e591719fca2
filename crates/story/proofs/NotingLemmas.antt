-- What is noted of the frames of a round, and that a frame which is delivered was sent.
use Rattle.std.proofs.Common.{◌≡◌, ℕ, ◌+◌, ◌<◌, ◌≤◌, Bool, true, false, List, [], ◌∷◌, ◌++◌, length, get_or, slice_get, Option, Some, None, refl, sym, ap, ◌∙◌, subst, arith}
use Rattle.std.proofs.lemmas.List.{append-nil, append_assoc}
use Rattle.std.proofs.lemmas.Option.{slice_get-get_or}
use Rattle.stable.specs.Script.{Script}
use Rattle.stable.specs.declared.stable.Stable.{Ghosts}
use Rattle.events.specs.declared.event.Event.TheVariants as event
use Rattle.world_model.specs.Worlds.{WorldState}
use Rattle.schedule.specs.declared.action.Action.{Action}
use Rattle.schedule.specs.declared.action.Action.TheVariants.{Step, Flush, Round}
use Rattle.schedule.specs.declared.replay_fault.ReplayFault.{ReplayFault}
use Rattle.schedule.specs.declared.schedule.ScheduleLine.{ScheduleLine}
use Rattle.replay.specs.Runs.{ActionIsDone}
use Rattle.story.specs.declared.deeds.Deed.TheVariants.{Delivered, Other}
use Rattle.story.specs.declared.ledger.Step.{Step as AStep}
use Rattle.story.specs.Following.{LineEndsBy}
use Rattle.story.specs.Ledgers.{counts_of}
use Rattle.story.specs.Noting.{CameInRound, FrameIsNoted, IsNoted, NotesLine, NotesRound, RoundIsBegun, deed_of, round_begin, sending_step, step_of, at_first, has_come, still_waits}
use Rattle.story.specs.Passing.{DeliversOneOf}
use Rattle.story.proofs.LedgerLemmas.{equal_within}
use Rattle.story.proofs.Growing.{done_has, refused_has}

-- ---- the frames of a round that is over
module _ {S : Type 0} (end : WorldState S) (first : ℕ) where
  -- none is noted yet
  pub none_parted : (steps : List AStep) → NotesRound end first first steps steps
  none_parted steps = record { more = []; steps = sym (append-nil steps); came = at_first }

  more_parted : (k : ℕ) (before now after : List AStep) → NotesRound end first k before now → FrameIsNoted end k now after
      → (b : Bool) → slice_get end.waiting k ≡ Some b → NotesRound end first (k + 1) before after
  more_parted k before now after parted noted true e = record {
    more = parted.more;
    steps = noted.waits e ∙ parted.steps;
    came = still_waits k parted.more parted.came e;
  }
  more_parted k before now after parted noted false e = record {
    more = parted.more ++ sending_step (Delivered k) (before ++ parted.more) (length end.frames) ∷ [];
    steps = noted.came e ∙ ap (λ (ss : List AStep). ss ++ sending_step (Delivered k) ss (length end.frames) ∷ []) parted.steps
        ∙ append_assoc before parted.more (sending_step (Delivered k) (before ++ parted.more) (length end.frames) ∷ []);
    came = has_come k parted.more parted.came e;
  }

  -- the next one is, or waits
  pub one_more_parted : (seen : WorldState S) (k : ℕ) (before now after : List AStep) → seen ≡ end → k < length end.waiting
      → NotesRound end first k before now → FrameIsNoted seen k now after → NotesRound end first (k + 1) before after
  one_more_parted seen k before now after same within parted noted =
      more_parted k before now after parted (subst (λ (w : WorldState S). FrameIsNoted w k now after) same noted)
      (get_or end.waiting k true) (slice_get-get_or end.waiting k true within)

-- ---- a round
module _ {S : Type 0} (storages : Ghosts (Script S)) (node : ℕ) (members : List ℕ) (old new : WorldState S) where
  -- it begins, its frames come, and it ends, or can't be done
  pub round_noted : (before begun parted after : List AStep) (fault : Option ReplayFault) → RoundIsBegun node fault new before begun
      → NotesRound new (length old.frames) (length new.frames) begun parted → IsNoted (Other node) fault new parted after
      → NotesLine storages (Round node members) fault old before new after
  round_noted before begun parted after None begins comes ends =
      let first = round_begin node before new in
      let last : List AStep = step_of (Other node) new ∷ [] in record {
        more = first ++ (comes.more ++ last);
        steps = ends ∙ ap (λ (ss : List AStep). ss ++ last) (comes.steps ∙ ap (λ (ss : List AStep). ss ++ comes.more) begins)
            ∙ append_assoc (before ++ first) comes.more last ∙ append_assoc before first (comes.more ++ last);
        noted = (
          comes.more,
          refl,
          subst (λ (ss : List AStep). CameInRound new ss (length old.frames) (length new.frames) comes.more) begins comes.came,
        );
      }
  round_noted before begun parted after (Some fault) begins comes ends = record {
    more = comes.more;
    steps = ends ∙ comes.steps ∙ ap (λ (ss : List AStep). ss ++ comes.more) begins;
    noted = subst (λ (ss : List AStep). CameInRound new ss (length old.frames) (length new.frames) comes.more) begins comes.came;
  }

-- ---- the frames of a world
module _ {S : Type 0} (storages : Ghosts (Script S)) where
  done_grows : (action : Action) (old new : WorldState S) → ActionIsDone storages action old new → length old.frames ≤ length new.frames
  done_grows action old new h =
      (done_has (counts_of old) storages action old new h (equal_within (counts_of old) (counts_of old) refl)).frames

  -- none is lost at a line
  pub line_grows : (line : ScheduleLine) (fault : Option ReplayFault) (old new : WorldState S)
      → LineEndsBy storages line old fault new → length old.frames ≤ length new.frames
  line_grows line None old new h = done_grows line.action old new h
  line_grows line (Some fault) old new h =
      (refused_has (counts_of old) storages line.action old h.why new h.refused
      (equal_within (counts_of old) (counts_of old) refl)).frames

  -- one that is delivered was sent
  pub was_sent : (action : Action) (old new : WorldState S) → ActionIsDone storages action old new
      → DeliversOneOf (deed_of action) (length new.frames)
  was_sent (Step (event.Submit node submission)) old new h = tt
  was_sent (Step (event.Deliver k)) old new h =
      let grows : length old.frames ≤ length new.frames = done_grows (Step (event.Deliver k)) old new h in
      let there : ¬ (length old.frames ≤ k) = h.0.frame in
      omega (arith, grows, there)
  was_sent (Step (event.Drop k)) old new h = tt
  was_sent (Step (event.Timeout node)) old new h = tt
  was_sent (Step (event.Tick node)) old new h = tt
  was_sent (Step (event.Checkpoint node)) old new h = tt
  was_sent (Step (event.Trim node)) old new h = tt
  was_sent (Step (event.Restart node)) old new h = tt
  was_sent (Step (event.Fault node failing)) old new h = tt
  was_sent (Step (event.Query node query)) old new h = tt
  was_sent Flush old new h = tt
  was_sent (Round node members) old new h = tt
