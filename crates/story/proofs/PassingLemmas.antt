-- With one step more the passages still have of each frame at which step it came.
use Rattle.std.proofs.Common.{◌≡◌, ◌==◌, inl, inr, ℕ, ◌<◌, Bool, true, false, List, [], ◌∷◌, ◌++◌, length, Option, Some, None, refl, sym, ap, ◌∙◌, subst, arith}
use Rattle.std.proofs.lemmas.Bool.{eqb-false, eqb-true}
use Rattle.std.proofs.lemmas.Option.{slice_get_within}
use Rattle.diagram.specs.declared.arrows.Passage.{Passage}
use Rattle.story.specs.declared.deeds.Deed.{Deed}
use Rattle.story.specs.declared.deeds.Deed.TheVariants.{Submitted, Delivered, Dropped, TimedOut, Restarted, Other, Flushed, Ended}
use Rattle.story.specs.declared.ledger.Step.{Step}
use Rattle.story.specs.Passing.{ArePassages, CameAt, DeliversAt, FirstDeliversAt, NotesComing, SameComings, came_in, came_with, comes_by}
use Rattle.story.proofs.LedgerLemmas.{got_last, pushed_get, same_below}

same_frame : (a b : ℕ) → Delivered a ≡ Delivered b → a ≡ b
same_frame a b e = cc

module _ (steps : List Step) (s : Step) where
  -- what was delivered before was delivered
  delivered_still : (i k : ℕ) → DeliversAt steps i k → DeliversAt (steps ++ s ∷ []) i k
  delivered_still i k h = record {
    step = h.step;
    is = same_below steps (s ∷ []) i (slice_get_within steps i h.step h.is) ∙ h.is;
    delivers = h.delivers;
  }

  delivered_last : (k : ℕ) → s.deed ≡ Delivered k → DeliversAt (steps ++ s ∷ []) (length steps) k
  delivered_last k e = record { step = s; is = got_last steps s; delivers = e }

  -- what is delivered was so before, or is by the last step
  delivered_before : (i k : ℕ) → i < length steps → DeliversAt (steps ++ s ∷ []) i k → DeliversAt steps i k
  delivered_before i k below h = record {
    step = h.step;
    is = sym (same_below steps (s ∷ []) i below) ∙ h.is;
    delivers = h.delivers;
  }

  -- no step delivers a frame that none before does, nor the last one
  not_delivered : (k : ℕ) → ((i : ℕ) → ¬ (DeliversAt steps i k)) → ¬ (s.deed ≡ Delivered k) → (i : ℕ)
      → ¬ (DeliversAt (steps ++ s ∷ []) i k)
  not_delivered k never other i h = elim (pushed_get steps s i h.step h.is) [
    | inl g ↦ never i (record { step = h.step; is = g; delivers = h.delivers })
    | inr g ↦ other (ap (λ (t : Step). t.deed) (sym g.1) ∙ h.delivers)
  ]

  -- one that came has come then
  pub came_still : (k i : ℕ) → FirstDeliversAt steps i k → FirstDeliversAt (steps ++ s ∷ []) i k
  came_still k i h =
      let within : i < length steps = slice_get_within steps i h.here.step h.here.is in record {
        here = delivered_still i k h.here;
        first = λ j below d. h.first j below (delivered_before j k (omega (arith, below, within)) d);
      }

  -- one that comes now comes for the first time
  comes_now : (k : ℕ) → ((i : ℕ) → ¬ (DeliversAt steps i k)) → s.deed ≡ Delivered k
      → FirstDeliversAt (steps ++ s ∷ []) (length steps) k
  comes_now k never e = record {
    here = delivered_last k e;
    first = λ j below d. never j (delivered_before j k below d);
  }

  -- the frame that is delivered comes now
  if_delivered : (k frame : ℕ) (b : Bool) → (frame == k) ≡ b → s.deed ≡ Delivered frame → ((i : ℕ) → ¬ (DeliversAt steps i k))
      → CameAt (steps ++ s ∷ []) k (comes_by (Delivered frame) (length steps) k)
  if_delivered k frame true e is never =
      rw e (comes_now k never (is ∙ ap Delivered (eqb-true frame k e)))
  if_delivered k frame false e is never =
      rw e (not_delivered k never (λ d. eqb-false frame k e (same_frame frame k (sym is ∙ d))))

  -- and no other one does
  came_by : (deed : Deed) → s.deed ≡ deed → (k : ℕ) → ((i : ℕ) → ¬ (DeliversAt steps i k))
      → CameAt (steps ++ s ∷ []) k (comes_by deed (length steps) k)
  came_by (Submitted node) is k never = not_delivered k never (λ d. cc)
  came_by (Delivered frame) is k never = if_delivered k frame (frame == k) refl is never
  came_by (Dropped frame) is k never = not_delivered k never (λ d. cc)
  came_by (TimedOut node) is k never = not_delivered k never (λ d. cc)
  came_by (Restarted node) is k never = not_delivered k never (λ d. cc)
  came_by (Other node) is k never = not_delivered k never (λ d. cc)
  came_by Flushed is k never = not_delivered k never (λ d. cc)
  came_by Ended is k never = not_delivered k never (λ d. cc)

  came_more : (k : ℕ) (before : Option ℕ) → CameAt steps k before
      → CameAt (steps ++ s ∷ []) k (came_with before s.deed (length steps) k)
  came_more k None h = came_by s.deed refl k h
  came_more k (Some i) h = came_still k i h

-- the passages of all steps, the last one among them
pub passages_noted : (steps more : List Step) (s : Step) (old new : List Passage) → more ≡ steps ++ s ∷ []
    → NotesComing s.deed (length steps) old new → ArePassages steps old → ArePassages more new
passages_noted steps more s old new e noted h = record {
  each = λ k. subst (λ (o : Option ℕ). CameAt more k o) (sym (noted.each k))
      (subst (λ (ss : List Step). CameAt ss k (came_with (came_in old k) s.deed (length steps) k)) (sym e)
      (came_more steps s k (came_in old k) (h.each k)));
}

-- passages by which the frames came at the same steps
pub passages_same : (steps : List Step) (old new : List Passage) → SameComings old new → ArePassages steps old → ArePassages steps new
passages_same steps old new same h = record {
  each = λ k. subst (λ (o : Option ℕ). CameAt steps k o) (sym (same.each k)) (h.each k);
}
