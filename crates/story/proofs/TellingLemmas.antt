-- What more entries tell.
use Rattle.std.proofs.Common.{◌≡◌, ℕ, ◌+◌, List, [], ◌∷◌, ◌++◌, slice_get, Option, Some, Result, Ok, Err, OnOk, sym, ap, ◌∙◌, subst, arith}
use Rattle.world_model.specs.declared.lists.StepOutcome.{StepOutcome}
use Rattle.story.specs.declared.entries.Entry.{Entry}
use Rattle.story.specs.declared.entries.Entry.TheVariants.{Line, Step as AStep, Frame, Outcome, Learnt, Replied, Answered}
use Rattle.story.specs.declared.entries.Told.{Told}
use Rattle.story.specs.declared.entries.Listing.{Listing}
use Rattle.story.specs.declared.ledger.Counts.{Counts}
use Rattle.story.specs.declared.ledger.LineBegin.{LineBegin}
use Rattle.story.specs.declared.ledger.Step.{Step}
use Rattle.story.specs.Counted.{AreWithin}
use Rattle.story.specs.Telling.{Follow, one_more, FollowByKind, FollowOutcomes, outcome, FollowStep, Tells, line, step, IsUpToDate, GoesOn, counts_by}

-- where it succeeds, more is known
pub on_ok_then : {A E X Y : Type 0} (r : Result A E) → (X → Y) → OnOk r X → OnOk r Y
on_ok_then (Ok a) f h = f h
on_ok_then (Err e) f h = tt

-- one more entry of a list
pub one_entry : (entry : ℕ → Entry) (a b : ℕ) (es fs gs : List Entry) → Follow entry a b es fs → gs ≡ fs ++ entry b ∷ []
    → Follow entry a (b + 1) es gs
one_entry entry a b es fs gs h e = subst (λ (xs : List Entry). Follow entry a (b + 1) es xs) (sym e) (one_more a b es fs h)

-- what was learnt, replies and answers, each behind the other
pub by_kind : (old one two new : Listing) (ends : Counts)
    → Follow Learnt old.told.counts.learnt ends.learnt old.entries.items one.entries.items
    → one.told ≡ record old.told { counts = record old.told.counts { learnt = ends.learnt } }
    → Follow Replied one.told.counts.replies ends.replies one.entries.items two.entries.items
    → two.told ≡ record one.told { counts = record one.told.counts { replies = ends.replies } }
    → Follow Answered two.told.counts.answers ends.answers two.entries.items new.entries.items
    → FollowByKind old.told.counts ends old.entries.items new.entries.items
by_kind old one two new ends learnt e replies f answers =
    let es = one.entries.items in let fs = two.entries.items in let gs = new.entries.items in record {
      behind_learnt = es;
      behind_replies = fs;
      learnt = learnt;
      replies = subst (λ (n : ℕ). Follow Replied n ends.replies es fs) (ap (λ (t : Told). t.counts.replies) e) replies;
      answers = subst (λ (n : ℕ). Follow Answered n ends.answers fs gs)
          (ap (λ (t : Told). t.counts.answers) f ∙ ap (λ (t : Told). t.counts.answers) e) answers;
    }

-- one more outcome, with what it tells of
pub next_outcome : (outcomes : List StepOutcome) (ends c d f : Counts) (o : Option StepOutcome) (n : ℕ) (es fs ps gs : List Entry)
    → FollowOutcomes outcomes ends c d es fs → d.outcomes ≡ n → slice_get outcomes n ≡ o → ps ≡ fs ++ Outcome n ∷ []
    → FollowByKind (record d { outcomes = n + 1 }) (counts_by ends o (record d { outcomes = n + 1 })) ps gs
    → f ≡ counts_by ends o (record d { outcomes = n + 1 }) → FollowOutcomes outcomes ends c f es gs
next_outcome outcomes ends c d f o n es fs ps gs before e at items h told =
    let more : Counts = record d { outcomes = n + 1 } in
    let k : FollowByKind more (counts_by ends o more) (fs ++ Outcome d.outcomes ∷ []) gs =
    subst (λ (xs : List Entry). FollowByKind more (counts_by ends o more) xs gs)
    (items ∙ ap (λ (m : ℕ). fs ++ Outcome m ∷ []) (sym e)) h in
    let kinds : FollowByKind d (counts_by ends o d) (fs ++ Outcome d.outcomes ∷ []) gs = record {
      behind_learnt = k.behind_learnt;
      behind_replies = k.behind_replies;
      learnt = k.learnt;
      replies = k.replies;
      answers = k.answers;
    } in
    let is : counts_by ends o d ≡ counts_by ends (slice_get outcomes d.outcomes) d =
    ap (λ (q : Option StepOutcome). counts_by ends q d) (sym (ap (λ (m : ℕ). slice_get outcomes m) e ∙ at)) in
    let last : record (counts_by ends o d) { outcomes = d.outcomes + 1 } ≡ f =
    ap (λ (m : ℕ). record (counts_by ends o d) { outcomes = m + 1 }) e ∙ sym told in
    subst (λ (x : Counts). FollowOutcomes outcomes ends c x es gs) last
    (outcome c d (counts_by ends o d) es fs gs before is kinds)

-- once the frames are told, no list is longer than it is there
pub framed_within : (c d ends : Counts) → d ≡ record c { frames = ends.frames } → AreWithin c ends → AreWithin d ends
framed_within c d ends e h = subst (λ (x : Counts). AreWithin x ends) (sym e) (record {
  frames = omega arith;
  learnt = h.learnt;
  replies = h.replies;
  answers = h.answers;
  outcomes = h.outcomes;
})

pub framed_told : (t u : Told) (n : ℕ) → u ≡ record t { counts = record t.counts { frames = n } }
    → u ≡ record t { counts = record u.counts { frames = n } }
framed_told t u n e = e ∙ ap (λ (x : Told). record t { counts = record x.counts { frames = n } }) (sym e)

-- an outcome tells of no frame, and of no other outcome
pub told_on : (t now u : Told) (ends : Counts) (o : Option StepOutcome) (n : ℕ)
    → now ≡ record t {
      counts = record now.counts {
        frames = ends.frames;
        outcomes = n;
      };
    } → u ≡ record now { counts = counts_by ends o (record now.counts { outcomes = n + 1 }) }
    → u ≡ record t {
      counts = record u.counts {
        frames = ends.frames;
        outcomes = n + 1;
      };
    }
told_on t now u ends o n before e =
    e ∙ ap (λ (x : Told). record now {
      counts = record x.counts {
        frames = now.counts.frames;
        outcomes = n + 1;
      };
    }) (sym e) ∙ ap (λ (x : Told). record x {
      counts = record u.counts {
        frames = x.counts.frames;
        outcomes = n + 1;
      };
    }) before

-- all that came of a step
pub whole_step : (outcomes : List StepOutcome) (c ends framed told : Counts) (es fs gs hs : List Entry)
    → Follow Frame c.frames ends.frames es fs → framed ≡ record c { frames = ends.frames }
    → FollowOutcomes outcomes ends framed told fs gs → told.outcomes ≡ ends.outcomes → FollowByKind told ends gs hs
    → FollowStep outcomes c ends es hs
whole_step outcomes c ends framed told es fs gs hs frames e several all rest = record {
  behind_frames = fs;
  behind_outcomes = gs;
  told = told;
  frames = frames;
  each_outcome = subst (λ (x : Counts). FollowOutcomes outcomes ends x told fs gs) e several;
  all_outcomes = all;
  rest = rest;
}

module _ (lines : List LineBegin) (steps : List Step) (outcomes : List StepOutcome) where
  -- the same by equal entries, which tell equally much
  pub same_tells : (es fs : List Entry) (t u : Told) → es ≡ fs → t ≡ u → Tells lines steps outcomes fs u
      → Tells lines steps outcomes es t
  same_tells es fs t u e f h =
      subst (λ (xs : List Entry). Tells lines steps outcomes xs t) (sym e)
      (subst (λ (x : Told). Tells lines steps outcomes fs x) (sym f) h)

  -- a line
  pub one_line : (now : Listing) (n : ℕ) → IsUpToDate steps now.told → (l : LineBegin) (es : List Entry) (t : Told)
      → Tells lines steps outcomes now.entries.items now.told → now.told.lines ≡ n → slice_get lines n ≡ Some l
      → now.told.steps ≡ l.step → es ≡ now.entries.items ++ Line n ∷ [] → t ≡ record now.told { lines = n + 1 }
      → Tells lines steps outcomes es t
  one_line now n up l es t h e at begins items told =
      same_tells _ _ _ _ (items ∙ ap (λ (k : ℕ). now.entries.items ++ Line k ∷ []) (sym e))
      (told ∙ ap (λ (k : ℕ). record now.told { lines = k + 1 }) (sym e))
      (line now.entries.items now.told l h (subst (λ (k : ℕ). slice_get lines k ≡ Some l) (sym e) at) (sym begins) up)

-- a step, and what came of it
pub one_step : (steps : List Step) (outcomes : List StepOutcome) (old now new : Listing) (n : ℕ) (s : Step) (es : List Entry)
    → GoesOn steps outcomes old now → now.told.steps ≡ n → slice_get steps n ≡ Some s → IsUpToDate steps now.told
    → es ≡ now.entries.items ++ AStep n ∷ [] → FollowStep outcomes now.told.counts s.ends es new.entries.items
    → new.told ≡ record { lines = now.told.lines; steps = n + 1; counts = s.ends } → GoesOn steps outcomes old new
one_step steps outcomes old now new n s es g e at up items came told =
    let here : FollowStep outcomes now.told.counts s.ends (now.entries.items ++ AStep now.told.steps ∷ []) new.entries.items =
    subst (λ (xs : List Entry). FollowStep outcomes now.told.counts s.ends xs new.entries.items)
    (items ∙ ap (λ (k : ℕ). now.entries.items ++ AStep k ∷ []) (sym e)) came in
    let is : record { lines = now.told.lines; steps = now.told.steps + 1; counts = s.ends } ≡ new.told =
    ap (λ (k : ℕ). record { lines = now.told.lines; steps = k + 1; counts = s.ends }) e ∙ sym told in
    let there : slice_get steps now.told.steps ≡ Some s = subst (λ (k : ℕ). slice_get steps k ≡ Some s) (sym e) at in
    record {
      goes_on = λ lines h. subst (λ (t : Told). Tells lines steps outcomes new.entries.items t) is
          (step now.entries.items new.entries.items now.told s (g.goes_on lines h) there up here);
    }
