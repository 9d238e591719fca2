-- Doing line by line, whatever is done to.
use Rattle.std.proofs.Common.{◌≡◌, ℕ, ◌+◌, List, [], ◌∷◌, ◌++◌, length, refl, sym, ap, ◌∙◌, subst, append_assoc, append-nil, arith}
use Rattle.replay.specs.LineByLine.{AllDone, EndsWithout, LineStops, StopsAtOne, at_a_line, at_the_last}
use Rattle.events.specs.declared.fault.WorldFault.{WorldFault}
use Rattle.schedule.specs.Causes.{memory}
use Rattle.schedule.specs.Schedules.{Plan, last_number}
use Rattle.schedule.specs.declared.action.Action.{Action}
use Rattle.schedule.specs.declared.schedule.ScheduleLine.{ScheduleLine}
use Rattle.schedule.specs.declared.replay_fault.ReplayFault.{ReplayFault}

pub nothing_left : {T : Type 0} (l : List T) → length l ≡ 0 → l ≡ []
nothing_left [] h = refl
nothing_left (x ∷ xs) h = absurd (omega arith)

module _ {W : Type 0} (IsDone : Action → W → W → Type 0) where
  -- one line more
  pub one_more_done : (lines : List ScheduleLine) (line : ScheduleLine) (old between new : W)
      → AllDone IsDone lines old between → IsDone line.action between new
      → AllDone IsDone (lines ++ line ∷ []) old new
  one_more_done [] line old between new led done =
      (new, subst (λ (w : W). IsDone line.action w new) led done, refl)
  one_more_done (first ∷ lines) line old between new (w, done_first, led) done =
      (w, done_first, one_more_done lines line w between new led done)

  -- how far a loop over all lines has come: those that it took are done, and so many are left
  pub record DoneSoFar (all taken left : List ScheduleLine) (count : ℕ) (start now : W) : Type 0 where
    pub parts : taken ++ left ≡ all
    pub counted : count ≡ length left
    pub led : AllDone IsDone taken start now

  -- the loop takes the next line, and does it
  pub one_more_taken : (all taken left rest : List ScheduleLine) (line : ScheduleLine) (count fewer : ℕ) (start now next : W)
      → DoneSoFar all taken left count start now → (left ≡ line ∷ rest) × (fewer + 1 ≡ count) → IsDone line.action now next
      → DoneSoFar all (taken ++ line ∷ []) rest fewer start next
  one_more_taken all taken left rest line count fewer start now next so_far step done = record {
    parts = append_assoc taken (line ∷ []) rest ∙ rw (← step.0) so_far.parts;
    counted = let shorter = ap length step.0 in omega (arith, shorter, so_far.counted, step.1);
    led = one_more_done taken line start now next so_far.led done;
  }

  -- none is left
  pub all_taken : (lines all taken left : List ScheduleLine) (count : ℕ) (start now : W) → all ≡ lines
      → DoneSoFar all taken left count start now → count ≡ 0 → AllDone IsDone lines start now
  all_taken lines all taken left count start now same so_far none =
      let empty : left ≡ [] = nothing_left left (sym so_far.counted ∙ none) in
      let whole : taken ≡ lines = sym (append-nil taken) ∙ rw empty at so_far.parts ∙ same in
      subst (λ (ls : List ScheduleLine). AllDone IsDone ls start now) whole so_far.led

module _ {W : Type 0} (IsDone : Action → W → W → Type 0) (IsRefused : Action → W → WorldFault → W → Type 0) where
  -- a line that isn't done, after those that are
  pub stops_here : (lines all taken left rest : List ScheduleLine) (line : ScheduleLine) (count : ℕ) (start now new : W)
      (fault : ReplayFault) → all ≡ lines → DoneSoFar IsDone all taken left count start now → left ≡ line ∷ rest
      → LineStops IsRefused line now fault new → StopsAtOne IsDone IsRefused lines start fault new
  stops_here lines all taken left rest line count start now new fault same so_far next stopped = record {
    before = taken;
    line = line;
    after = rest;
    parts = sym same ∙ sym so_far.parts ∙ ap (λ (ls : List ScheduleLine). taken ++ ls) next;
    reached = now;
    led = so_far.led;
    stopped = stopped;
  }

  -- a run that ends at a line
  pub ends_at_a_line : (plan : Plan) (lines : List ScheduleLine) (start end : W) (fault : ReplayFault)
      → lines ≡ plan.lines → StopsAtOne IsDone IsRefused lines start fault end → EndsWithout IsDone IsRefused plan start fault end
  ends_at_a_line plan lines start end fault same ends =
      at_a_line (subst (λ (ls : List ScheduleLine). StopsAtOne IsDone IsRefused ls start fault end) same ends)

  -- there is no text after all lines
  pub ends_at_the_last : (plan : Plan) (lines : List ScheduleLine) (start end : W) (last : ℕ)
      → lines ≡ plan.lines → AllDone IsDone lines start end → last ≡ last_number plan
      → EndsWithout IsDone IsRefused plan start (record { line = last; cause = memory }) end
  ends_at_the_last plan lines start end last same led is_last =
      at_the_last (subst (λ (ls : List ScheduleLine). AllDone IsDone ls start end) same led) refl is_last
