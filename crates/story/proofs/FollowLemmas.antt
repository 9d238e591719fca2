-- Where the lines of a schedule lead and what is noted of them, and a flush that is done frame by frame.
use Rattle.std.proofs.Common.{◌≡◌, ℕ, ◌+◌, ◌<◌, List, [], ◌∷◌, ◌++◌, length, slice_get, true, false, Option, Some, None, refl, sym, ap, ◌∙◌, subst, add-one, arith}
use Rattle.std.proofs.lemmas.List.{append_assoc}
use Rattle.stable.specs.Script.{Script}
use Rattle.stable.specs.declared.stable.Stable.{Ghosts}
use Rattle.events.specs.declared.fault.WorldFault.TheVariants.{FlushLimit, Memory}
use Rattle.world.specs.declared.log.TheConstants.{MOST_DELIVERIES}
use Rattle.world_model.specs.Flushing.{Delivers, more}
use Rattle.world_model.specs.Waiting.{IsLowestWaiting, NoneWaits, OneWaits}
use Rattle.world_model.specs.Worlds.{WorldState}
use Rattle.schedule.specs.declared.action.Action.TheVariants.{Flush}
use Rattle.schedule.specs.declared.replay_fault.ReplayCause.TheVariants.{World}
use Rattle.schedule.specs.declared.replay_fault.ReplayFault.{ReplayFault}
use Rattle.schedule.specs.declared.schedule.ScheduleLine.{ScheduleLine}
use Rattle.replay.proofs.LineByLine.{nothing_left}
use Rattle.story.specs.declared.deeds.Deed.TheVariants.{Delivered}
use Rattle.story.specs.declared.ledger.LineBegin.{LineBegin}
use Rattle.story.specs.declared.ledger.Step.{Step as AStep}
use Rattle.story.specs.Following.{AreFollowed, AreNoted, ComesNext, LineEndsBy, next}
use Rattle.story.specs.Noting.{ComeInTurn, LineIsNoted, NotesLine, step_of, next as next_frame}

abbrev IsWaiting : {S : Type 0} → WorldState S → ℕ → Type 0
IsWaiting w k = slice_get w.waiting k ≡ Some true

-- how far a loop over all lines has come: these it took, and so many are left
pub record AreTaken (all taken left : List ScheduleLine) (count : ℕ) : Type 0 where
  pub parts : taken ++ left ≡ all
  pub counted : count ≡ length left

-- it takes the next line
pub one_more_taken : (all taken left rest : List ScheduleLine) (line : ScheduleLine) (count fewer : ℕ) → AreTaken all taken left count
    → (left ≡ line ∷ rest) × (fewer + 1 ≡ count) → AreTaken all (taken ++ line ∷ []) rest fewer
one_more_taken all taken left rest line count fewer so_far step = record {
  parts = append_assoc taken (line ∷ []) rest ∙ ap (λ (ls : List ScheduleLine). taken ++ ls) (sym step.0) ∙ so_far.parts;
  counted = let shorter = ap length step.0 in omega (arith, shorter, so_far.counted, step.1);
}

module _ {S : Type 0} (storages : Ghosts (Script S)) where
  -- ---- the lines
  module _ (others : List LineBegin) (before : List AStep) (start : WorldState S) where
    -- one line more is noted: as it begins, and as it is done
    pub line_noted : (taken : List ScheduleLine) (line : ScheduleLine) (begins begun done : List LineBegin) (steps at after : List AStep)
        (now same new : WorldState S) (fault : Option ReplayFault)
        → AreNoted storages others before start taken begins steps None now
        → begun ≡ begins ++ record { number = line.number; step = length steps } ∷ [] → at ≡ steps → same ≡ now
        → done ≡ begun → LineEndsBy storages line same fault new → NotesLine storages line.action fault same at new after
        → AreNoted storages others before start (taken ++ line ∷ []) done after fault new
    line_noted taken line begins begun done steps at after now same new fault led is_begun is_at is_now is_done ends noted =
        let its_end : LineEndsBy storages line now fault new = subst (λ (w : WorldState S). LineEndsBy storages line w fault new) is_now ends in
        let its_steps : LineIsNoted storages line.action fault now steps noted.more new =
        subst (λ (ss : List AStep). LineIsNoted storages line.action fault now ss noted.more new) is_at
        (subst (λ (w : WorldState S). LineIsNoted storages line.action fault w at noted.more new) is_now noted.noted) in
        let begins_now : List LineBegin = begins ++ record { number = line.number; step = length steps } ∷ [] in
        let all : AreNoted storages others before start (taken ++ line ∷ []) begins_now (steps ++ noted.more) fault new =
        next taken begins steps now line noted.more fault new led its_end its_steps in
        subst (λ (bs : List LineBegin). AreNoted storages others before start (taken ++ line ∷ []) bs after fault new)
        (sym (is_done ∙ is_begun))
        (subst (λ (ss : List AStep). AreNoted storages others before start (taken ++ line ∷ []) begins_now ss fault new)
        (sym (noted.steps ∙ ap (λ (ss : List AStep). ss ++ noted.more) is_at)) all)

    -- the lines that a loop took are noted, and the last one of them can't be done
    pub stops_at_one : (lines all taken left rest : List ScheduleLine) (line : ScheduleLine) (count fewer : ℕ) (begins : List LineBegin)
        (steps : List AStep) (new : WorldState S) (fault : Option ReplayFault) (f : ReplayFault) → all ≡ lines
        → AreTaken all taken left count → (left ≡ line ∷ rest) × (fewer + 1 ≡ count) → fault ≡ Some f
        → AreNoted storages others before start (taken ++ line ∷ []) begins steps fault new
        → AreFollowed storages lines others begins before steps start fault new
    stops_at_one lines all taken left rest line count fewer begins steps new fault f same so_far step is noted = record {
      reached = taken ++ line ∷ [];
      left = rest;
      parts = sym same ∙ sym (one_more_taken all taken left rest line count fewer so_far step).parts;
      all = λ e. absurd (cc);
      noted = noted;
    }

    -- all are done
    pub all_followed : (lines all taken left : List ScheduleLine) (count : ℕ) (begins : List LineBegin) (steps : List AStep)
        (now : WorldState S) (fault : Option ReplayFault) → all ≡ lines → AreTaken all taken left count → count ≡ 0 → fault ≡ None
        → AreNoted storages others before start taken begins steps None now
        → AreFollowed storages lines others begins before steps start fault now
    all_followed lines all taken left count begins steps now fault same so_far none_left is noted = record {
      reached = taken;
      left = left;
      parts = sym same ∙ sym so_far.parts;
      all = λ e. nothing_left left (sym so_far.counted ∙ none_left);
      noted = subst (λ (o : Option ReplayFault). AreNoted storages others before start taken begins steps o now) (sym is) noted;
    }

  -- ---- a flush
  -- one frame more comes
  pub one_comes : (line n : ℕ) (old now new : WorldState S) (first before after : List AStep) (fault : Option ReplayFault)
      → Delivers storages old n now → NotesLine storages Flush None old first now before
      → ComesNext storages line now before true fault new after
      → (fault ≡ None) × Delivers storages old (n + 1) new × NotesLine storages Flush None old first new after
  one_comes line n old now new first before after None delivers noted h = (
    refl,
    subst (λ (m : ℕ). Delivers storages old m new) (sym (add-one n)) (more n h.0 now new delivers h.1 h.2),
    record {
      more = noted.more ++ step_of (Delivered h.0) new ∷ [];
      steps = h.3 ∙ ap (λ (ss : List AStep). ss ++ step_of (Delivered h.0) new ∷ []) noted.steps
          ∙ append_assoc first noted.more (step_of (Delivered h.0) new ∷ []);
      noted = next_frame noted.more h.0 now new noted.noted h.1 h.2;
    },
  )
  one_comes line n old now new first before after (Some fault) delivers noted h = absurd h

  -- none comes any more
  pub flush_is_over : (line n : ℕ) (old now new : WorldState S) (before after : List AStep) (fault : Option ReplayFault)
      → Delivers storages old n now → n < MOST_DELIVERIES → ComesNext storages line now before false fault new after
      → LineEndsBy storages (record { number = line; action = Flush }) old fault new
  flush_is_over line n old now new before after None delivers few h = (
    n,
    omega (arith, few),
    subst (λ (w : WorldState S). Delivers storages old n w) (sym h.0) delivers,
    subst (λ (w : WorldState S). NoneWaits w.waiting) (sym h.0) h.1,
  )
  flush_is_over line n old now new before after (Some fault) delivers few h = record {
    number = h.0;
    why = Memory;
    cause = h.1;
    refused = record {
      delivers = record {
        delivered = n;
        fewer = few;
        delivers = subst (λ (w : WorldState S). Delivers storages old n w) (sym h.2) delivers;
      };
      one_waits = subst (λ (w : WorldState S). OneWaits w.waiting) (sym h.2) h.3;
    };
  }

  -- as many came as may, and none waits
  pub all_delivered : (line n : ℕ) (old now new : WorldState S) → Delivers storages old n now → n ≡ MOST_DELIVERIES → new ≡ now
      → NoneWaits now.waiting → LineEndsBy storages (record { number = line; action = Flush }) old None new
  all_delivered line n old now new before all same done = (
    n,
    omega (arith, all),
    subst (λ (w : WorldState S). Delivers storages old n w) (sym same) before,
    subst (λ (w : WorldState S). NoneWaits w.waiting) (sym same) done,
  )

  -- or one still waits
  pub limit_is_met : (line n k : ℕ) (old now new : WorldState S) (fault : ReplayFault) → Delivers storages old n now → n ≡ MOST_DELIVERIES
      → new ≡ now → IsLowestWaiting now.waiting k → fault ≡ record { line = line; cause = World FlushLimit }
      → LineEndsBy storages (record { number = line; action = Flush }) old (Some fault) new
  limit_is_met line n k old now new fault before all same lowest is = record {
    number = ap (λ (f : ReplayFault). f.line) is;
    why = FlushLimit;
    cause = ap (λ (f : ReplayFault). f.cause) is;
    refused = record {
      delivers = subst (λ (m : ℕ). Delivers storages old m new) all
          (subst (λ (w : WorldState S). Delivers storages old n w) (sym same) before);
      one_waits = record { frame = k; waits = subst (λ (w : WorldState S). IsWaiting w k) (sym same) lowest.waits };
    };
  }

  -- what is noted of it stands, where nothing more comes
  pub turn_stands : (old now new : WorldState S) (first before after : List AStep) (fault : Option ReplayFault)
      → NotesLine storages Flush None old first now before → new ≡ now → after ≡ before
      → NotesLine storages Flush fault old first new after
  turn_stands old now new first before after fault noted same stands = record {
    more = noted.more;
    steps = stands ∙ noted.steps;
    noted = subst (λ (w : WorldState S). ComeInTurn storages old noted.more w) (sym same) noted.noted;
  }

  pub turn_is_over : (line : ℕ) (old now new : WorldState S) (first before after : List AStep) (fault : Option ReplayFault)
      → NotesLine storages Flush None old first now before → ComesNext storages line now before false fault new after
      → NotesLine storages Flush fault old first new after
  turn_is_over line old now new first before after None noted h = turn_stands old now new first before after None noted h.0 h.2
  turn_is_over line old now new first before after (Some fault) noted h =
      turn_stands old now new first before after (Some fault) noted h.2 h.4
