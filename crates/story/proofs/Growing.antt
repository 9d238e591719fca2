-- No list of a world gets shorter, whatever is done in it, and a frame that waits no more never waits again.
use Rattle.std.proofs.Common.{◌≡◌, inr, ℕ, zero, suc, ◌≤◌, List, [], ◌∷◌, ◌++◌, length, replicate, slice_get, slice_set, Bool, true, false, Some, Ok, Err, refl, sym, ap, ◌∙◌, subst, arith}
use Rattle.std.proofs.lemmas.List.{length-append, length-replicate}
use Rattle.stable.specs.Script.{Script}
use Rattle.stable.specs.declared.stable.Stable.{Ghosts}
use Rattle.events.specs.declared.event.Event.{Event}
use Rattle.events.specs.declared.event.Event.TheVariants as event
use Rattle.events.specs.declared.fault.WorldFault.{WorldFault}
use Rattle.events.specs.declared.fault.WorldFault.TheVariants.{NoSuchFrame, NoSuchNode, FlushLimit, Memory, NotEmpty}
use Rattle.world_model.specs.declared.lists.StepOutcome.{StepOutcome}
use Rattle.world_model.specs.Flushing.{Delivers, none, more}
use Rattle.world_model.specs.Outputs.{replied_by}
use Rattle.world_model.specs.Waiting.{NoneWaitsBelow}
use Rattle.world_model.specs.Worlds.{WorldState, Steps, with_outcome, learnt_by}
use Rattle.world_model.proofs.Steps.Preserved.{Preserved, step_keeps}
use Rattle.world_model.proofs.Progress.RoundLemmas.{call_keeps}
use Rattle.schedule.specs.declared.action.Action.{Action}
use Rattle.schedule.specs.declared.action.Action.TheVariants.{Step, Flush, Round}
use Rattle.replay.specs.Runs.{ActionIsDone, ActionIsRefused}
use Rattle.diagram.specs.declared.arrows.Passage.{Passage}
use Rattle.story.specs.declared.ledger.Counts.{Counts}
use Rattle.story.specs.declared.ledger.Step.{Step as AStep}
use Rattle.story.specs.Counted.{AreWithin}
use Rattle.story.specs.Ledgers.{AreSearched, counts_of}
use Rattle.story.specs.Passing.{AreSent}
use Rattle.story.proofs.LedgerLemmas.{same_below}
use Rattle.story.proofs.SendingLemmas.{sent_still}

-- what every step and every told outcome keep, a line keeps, be it done or not
module _ {S : Type 0} {storages : Ghosts (Script S)} (Kept : WorldState S → Type 0) (kept : Preserved storages Kept)
    (told : (w : WorldState S) (o : StepOutcome) → Kept w → Kept (with_outcome w o)) where
  step_has : (old : WorldState S) (e : Event) (new : WorldState S) → Steps storages old e new → Kept old → Kept new
  step_has old e new h before = step_keeps kept old e new h before

  delivers_has : (old : WorldState S) (n : ℕ) (new : WorldState S) → Delivers storages old n new → Kept old → Kept new
  delivers_has old _ new none before = before
  delivers_has old _ new (more n k between new_ first lowest delivers) before =
      step_has between (event.Deliver k) new delivers (delivers_has old n between first before)

  same_has : (old new : WorldState S) → new ≡ old → Kept old → Kept new
  same_has old new e before = subst (λ (w : WorldState S). Kept w) (sym e) before

  -- what a line asks for is done
  line_has : (action : Action) (old new : WorldState S) → ActionIsDone storages action old new → Kept old → Kept new
  line_has (Step e) old new h before = step_has old e new h.1 before
  line_has Flush old new h before = delivers_has old h.0 new h.2 before
  line_has (Round node members) old new h before =
      call_keeps storages Kept step_has told old node members before new (Ok h.0) h.1 (λ e. absurd (cc)) (λ e. absurd (cc)) tt

  -- it is not
  stop_has : (action : Action) (old : WorldState S) (f : WorldFault) (new : WorldState S)
      → ActionIsRefused storages action old f new → Kept old → Kept new
  stop_has (Step e) old NoSuchFrame new h before = same_has old new h.1 before
  stop_has (Step e) old NoSuchNode new h before = same_has old new h.1 before
  stop_has (Step e) old Memory new h before = same_has old new h.1 before
  stop_has (Step e) old FlushLimit new h before = absurd h
  stop_has (Step e) old NotEmpty new h before = absurd h
  stop_has Flush old NoSuchFrame new h before = absurd h
  stop_has Flush old NoSuchNode new h before = absurd h
  stop_has Flush old FlushLimit new h before = delivers_has old _ new h.delivers before
  stop_has Flush old Memory new h before = delivers_has old h.delivers.delivered new h.delivers.delivers before
  stop_has Flush old NotEmpty new h before = absurd h
  stop_has (Round node members) old NoSuchFrame new h before = absurd h
  stop_has (Round node members) old NoSuchNode new h before = same_has old new h.1 before
  stop_has (Round node members) old FlushLimit new h before = absurd h
  stop_has (Round node members) old Memory new h before =
      call_keeps storages Kept step_has told old node members before new (Err Memory) tt (λ e. absurd (cc)) (λ e. h) (inr refl)
  stop_has (Round node members) old NotEmpty new h before = absurd h

-- ---- the lists
longer : {A : Type 0} (xs ys : List A) (n : ℕ) → n ≤ length xs → n ≤ length (xs ++ ys)
longer xs ys n h = omega (arith, length-append xs ys, h)

module _ {S : Type 0} (c : Counts) where
  abbrev Has : WorldState S → Type 0
  Has w = AreWithin c (counts_of w)

  with_more : (w : WorldState S) (o : StepOutcome) → Has w → Has (with_outcome w o)
  with_more w o h = record {
    frames = h.frames;
    learnt = h.learnt;
    replies = h.replies;
    answers = h.answers;
    outcomes = longer w.outcomes (o ∷ []) c.outcomes h.outcomes;
  }

  all_kept : (storages : Ghosts (Script S)) → Preserved storages Has
  all_kept storages = record {
    takes = λ w node i taken v h said is fits before. record {
      frames = longer w.frames said.sends c.frames before.frames;
      learnt = longer w.learnt (learnt_by node said.learnt) c.learnt before.learnt;
      replies = longer w.replies (replied_by node said.replies) c.replies before.replies;
      answers = before.answers;
      outcomes = longer w.outcomes _ c.outcomes before.outcomes;
    };
    fails = λ w node i taken v h f is before. before;
    submits = λ w s sound before. before;
    unwaits = λ w k before. before;
    says = λ w o brings before. with_more w o before;
    restarts = λ w node v h before. before;
    arms = λ w node failing n here before. before;
    answers = λ w node query v h told is before. record {
      frames = before.frames;
      learnt = before.learnt;
      replies = before.replies;
      answers = longer w.answers _ c.answers before.answers;
      outcomes = longer w.outcomes _ c.outcomes before.outcomes;
    };
  }

  module _ (storages : Ghosts (Script S)) where
    -- what a line asks for is done
    pub done_has : (action : Action) (old new : WorldState S) → ActionIsDone storages action old new → Has old → Has new
    done_has action old new h before = line_has Has (all_kept storages) with_more action old new h before

    -- it is not
    pub refused_has : (action : Action) (old : WorldState S) (f : WorldFault) (new : WorldState S)
        → ActionIsRefused storages action old f new → Has old → Has new
    refused_has action old f new h before = stop_has Has (all_kept storages) with_more action old f new h before

-- ---- when the frames were sent
module _ {S : Type 0} (steps : List AStep) (passages : List Passage) where
  abbrev Sent : WorldState S → Type 0
  Sent w = AreSent w.frames steps passages

  sent_kept : (storages : Ghosts (Script S)) → Preserved storages Sent
  sent_kept storages = record {
    takes = λ w node i taken v h said is fits before. sent_still w.frames said.sends steps passages before;
    fails = λ w node i taken v h f is before. before;
    submits = λ w s sound before. before;
    unwaits = λ w k before. before;
    says = λ w o brings before. before;
    restarts = λ w node v h before. before;
    arms = λ w node failing n here before. before;
    answers = λ w node query v h told is before. before;
  }

  module _ (storages : Ghosts (Script S)) where
    pub done_sent : (action : Action) (old new : WorldState S) → ActionIsDone storages action old new → Sent old → Sent new
    done_sent action old new h before = line_has Sent (sent_kept storages) (λ w o kept. kept) action old new h before

    pub refused_sent : (action : Action) (old : WorldState S) (f : WorldFault) (new : WorldState S)
        → ActionIsRefused storages action old f new → Sent old → Sent new
    refused_sent action old f new h before = stop_has Sent (sent_kept storages) (λ w o kept. kept) action old f new h before

-- ---- the frames that wait
set_length : {A : Type 0} (xs : List A) (k : ℕ) (x : A) → length (slice_set xs k x) ≡ length xs
set_length [] k x = refl
set_length (z ∷ xs) zero x = refl
set_length (z ∷ xs) (suc k) x = ap suc (set_length xs k x)

-- one that waits once another one doesn't has waited
was_set : (flags : List Bool) (k j : ℕ) → slice_get (slice_set flags k false) j ≡ Some true → slice_get flags j ≡ Some true
was_set [] k j h = h
was_set (f ∷ flags) zero zero h = absurd (cc)
was_set (f ∷ flags) zero (suc j) h = h
was_set (f ∷ flags) (suc k) zero h = h
was_set (f ∷ flags) (suc k) (suc j) h = was_set flags k j h

more_searched : (n : ℕ) (waiting behind : List Bool) → n ≤ length waiting → NoneWaitsBelow waiting n
    → NoneWaitsBelow (waiting ++ behind) n
more_searched n waiting behind within h = record {
  none = λ k below e. h.none k below (sym (same_below waiting behind k (omega (arith, below, within))) ∙ e);
}

module _ {S : Type 0} (n : ℕ) where
  abbrev Searched : WorldState S → Type 0
  Searched w = AreSearched w.waiting (length w.frames) n

  all_searched : (storages : Ghosts (Script S)) → Preserved storages Searched
  all_searched storages = record {
    takes = λ w node i taken v h said is fits before. record {
      none_below = more_searched n w.waiting (replicate (length said.sends) true) before.within before.none_below;
      within = longer w.waiting (replicate (length said.sends) true) n before.within;
      one_each = omega (
        arith,
        length-append w.waiting (replicate (length said.sends) true),
        length-replicate (length said.sends) true,
        length-append w.frames said.sends,
        before.one_each,
      );
    };
    fails = λ w node i taken v h f is before. before;
    submits = λ w s sound before. before;
    unwaits = λ w k before. record {
      none_below = record { none = λ j below e. before.none_below.none j below (was_set w.waiting k j e) };
      within = omega (arith, set_length w.waiting k false, before.within);
      one_each = omega (arith, set_length w.waiting k false, before.one_each);
    };
    says = λ w o brings before. before;
    restarts = λ w node v h before. before;
    arms = λ w node failing n here before. before;
    answers = λ w node query v h told is before. before;
  }

  module _ (storages : Ghosts (Script S)) where
    pub done_searched : (action : Action) (old new : WorldState S) → ActionIsDone storages action old new → Searched old → Searched new
    done_searched action old new h before = line_has Searched (all_searched storages) (λ w o kept. kept) action old new h before

    pub refused_searched : (action : Action) (old : WorldState S) (f : WorldFault) (new : WorldState S)
        → ActionIsRefused storages action old f new → Searched old → Searched new
    refused_searched action old f new h before = stop_has Searched (all_searched storages) (λ w o kept. kept) action old f new h before
