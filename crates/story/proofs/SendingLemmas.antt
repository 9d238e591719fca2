-- With one step more, and with frames that are sent later in a round, the passages still have of each frame at which step it was sent.
use Rattle.std.proofs.Common.{◌≡◌, ◌==◌, ◌⊎◌, inl, inr, ℕ, zero, suc, ◌+◌, ◌-◌, ◌<◌, ◌≤◌, Bool, true, false, if◌then◌else◌, List, [], ◌∷◌, ◌++◌, length, append-nil, append_assoc, add-one, get_or, slice_get, slice_set, drop, slice_index_or, Option, Some, None, refl, sym, ap, ◌∙◌, subst, arith}
use Rattle.std.proofs.Math.Seq.{drop-cons}
use Rattle.std.proofs.lemmas.List.{drop_all}
use Rattle.std.proofs.lemmas.Option.{slice_get_cases, slice_get-get_or, slice_get_within}
use Rattle.wire.specs.declared.frames.envelope.Envelope.{Envelope}
use Rattle.diagram.specs.declared.arrows.Passage.{Passage}
use Rattle.story.specs.Answering.{IsAnswered}
use Rattle.story.specs.declared.deeds.Deed.{Deed}
use Rattle.story.specs.declared.deeds.Deed.TheVariants.{Submitted, Delivered, Dropped, TimedOut, Restarted, Other, Flushed, Ended}
use Rattle.story.specs.declared.ledger.Counts.{Counts}
use Rattle.story.specs.declared.ledger.Step.{Step}
use Rattle.story.specs.Counted.{NeverFall, counts_before, ends_or_none}
use Rattle.world_model.specs.Worlds.{WorldState}
use Rattle.story.specs.Noting.{FrameIsNoted, RoundIsBegun, sending_step}
use Rattle.schedule.specs.declared.replay_fault.ReplayFault.{ReplayFault}
use Rattle.story.specs.Passing.{AreOfRound, ArePassages, AreSent, MadeFrom, OneMade, CameAt, FirstDeliversAt, Hears, HearsIn, IsLater, IsSent, NotesComing, NotesSending, came_in, came_of, came_with, comes_by, sent_of}
use Rattle.story.proofs.LedgerLemmas.{counts_same, got_last, one_longer, same_below}
use Rattle.story.proofs.PassingLemmas.{came_still}

-- ---- the counts of steps
-- a step by whose end the list has frame k is there
step_there : (steps : List Step) (i k : ℕ) → k < (counts_before steps (suc i)).frames → i < length steps
step_there steps i k h = elim (slice_get_cases steps i).1 [
  | inl g ↦ g.1
  | inr g ↦ let none : (counts_before steps (suc i)).frames ≡ 0 = ap (λ (o : Option Step). (ends_or_none o).frames) g.1 in
      absurd (omega (arith, h, none))
]

le_cases : (m n : ℕ) → m ≤ suc n → (m ≤ n) ⊎ (m ≡ suc n)
le_cases zero n h = inl (omega arith)
le_cases (suc m) zero h = inr (omega (arith, h))
le_cases (suc m) (suc n) h = elim (le_cases m n (omega (arith, h))) [ inl g ↦ inl (omega (arith, g)) | inr g ↦ inr (ap suc g) ]

-- no step behind has fewer frames
frames_rise : (steps : List Step) → NeverFall steps → (m n : ℕ) → m ≤ n → n ≤ length steps
    → (counts_before steps m).frames ≤ (counts_before steps n).frames
frames_rise steps rise zero zero h there = omega arith
frames_rise steps rise (suc m) zero h there = absurd (omega (arith, h))
frames_rise steps rise m (suc n) h there = elim (le_cases m n h) [
  | inl g ↦ let before : (counts_before steps m).frames ≤ (counts_before steps n).frames =
      frames_rise steps rise m n g (omega (arith, there)) in
      elim (slice_get_cases steps n).1 [
        | inl at ↦ let now : (counts_before steps (suc n)).frames ≡ at.0.ends.frames =
            ap (λ (o : Option Step). (ends_or_none o).frames) at.2 in
            omega (arith, before, now, (rise n at.0 at.2).frames)
        | inr at ↦ absurd (omega (arith, there, at.0))
      ]
  | inr g ↦ let same : (counts_before steps m).frames ≡ (counts_before steps (suc n)).frames =
      ap (λ (i : ℕ). (counts_before steps i).frames) g in omega (arith, same)
]

-- ---- the frames from a number on
-- one more is opened
pub one_opened : (frames : List Envelope) (first i : ℕ) (x : Envelope) (now new : List Envelope) → i < length frames
    → x ≡ get_or frames i x → now ++ drop i frames ≡ drop first frames → new ≡ now ++ x ∷ [] → new ++ drop (i + 1) frames ≡ drop first frames
one_opened frames first i x now new below read before is =
    let next : x ∷ drop (i + 1) frames ≡ drop i frames =
    rw (add-one i) (ap (λ (y : Envelope). y ∷ drop (suc i) frames) read ∙ sym (drop-cons frames i x below)) in
    ap (λ (es : List Envelope). es ++ drop (i + 1) frames) is ∙ append_assoc now (x ∷ []) (drop (i + 1) frames)
    ∙ ap (λ (es : List Envelope). now ++ es) next ∙ before

pub all_opened : (frames : List Envelope) (first i : ℕ) (now : List Envelope) → length frames ≤ i → now ++ drop i frames ≡ drop first frames
    → now ≡ drop first frames
all_opened frames first i now behind opened =
    sym (append-nil now) ∙ ap (λ (es : List Envelope). now ++ es) (sym (drop_all i frames behind)) ∙ opened

-- ---- which frame answers which
-- of the frames from a number on, and of all
dropped_get : {A : Type 0} (first : ℕ) (xs : List A) (i : ℕ) → first ≤ i → slice_get (drop first xs) (i - first) ≡ slice_get xs i
dropped_get zero xs i h = ap (λ (n : ℕ). slice_get xs n) (omega arith)
dropped_get (suc first) [] i h = refl
dropped_get (suc first) (x ∷ xs) zero h = absurd (omega (arith, h))
dropped_get (suc first) (x ∷ xs) (suc i) h =
    let less : suc i - suc first ≡ i - first = omega arith in
    ap (λ (n : ℕ). slice_get (drop first xs) n) less ∙ dropped_get first xs i (omega (arith, h))

answered_of_all : (late frames : List Envelope) (first heard k : ℕ) → late ≡ drop first frames → first ≤ heard → heard < k
    → IsAnswered late (heard - first) (k - first) → IsAnswered frames heard k
answered_of_all late frames first heard k e from before h = record {
  heard = h.heard;
  is_heard = sym (dropped_get first frames heard from) ∙ ap (λ (fs : List Envelope). slice_get fs (heard - first)) (sym e) ∙ h.is_heard;
  said = h.said;
  is_said = sym (dropped_get first frames k (omega (arith, from, before)))
      ∙ ap (λ (fs : List Envelope). slice_get fs (k - first)) (sym e) ∙ h.is_said;
  answers = h.answers;
}

-- with more frames behind them
answered_still : (frames more : List Envelope) (heard k : ℕ) → IsAnswered frames heard k → IsAnswered (frames ++ more) heard k
answered_still frames more heard k h = record {
  heard = h.heard;
  is_heard = same_below frames more heard (slice_get_within frames heard h.heard h.is_heard) ∙ h.is_heard;
  said = h.said;
  is_said = same_below frames more k (slice_get_within frames k h.said h.is_said) ∙ h.is_said;
  answers = h.answers;
}

pub sent_still : (frames more : List Envelope) (steps : List Step) (passages : List Passage) → AreSent frames steps passages
    → AreSent (frames ++ more) steps passages
sent_still frames more steps passages h = record {
  each = λ k p at. let sent = h.each k p at in record {
    has = sent.has;
    when = elim sent.when [
      | inl g ↦ inl g
      | inr g ↦ inr (record {
        heard = g.heard;
        before = g.before;
        answered = answered_still frames more g.heard k g.answered;
        came = g.came;
        round = g.round;
      })
    ];
    in_time = sent.in_time;
  };
}

-- ---- later in a round
later_sent : (frames late : List Envelope) (steps : List Step) (first_ : ℕ) (passages : List Passage) (k heard sent : ℕ) (q : Passage)
    → late ≡ drop first_ frames → NeverFall steps → AreOfRound steps first_
    → ArePassages steps passages → HearsIn late first_ passages k heard → IsLater q heard sent → IsSent frames steps k q
    → IsSent frames steps k (record { sent = sent; came = q.came })
later_sent frames late steps first_ passages k heard sent q is_late rise round came hears later h =
    let first : FirstDeliversAt steps heard hears.heard =
    subst (λ (o : Option ℕ). CameAt steps hears.heard o) hears.came (came.each hears.heard) in
    let there : heard < length steps = slice_get_within steps heard first.here.step first.here.is in
    elim later.one [
      | inl e ↦ subst (λ (n : ℕ). IsSent frames steps k (record { sent = n; came = q.came })) (sym e)
          (record { has = h.has; when = h.when; in_time = h.in_time })
      | inr e ↦ let rises : (counts_before steps (suc q.sent)).frames ≤ (counts_before steps (suc heard)).frames =
          frames_rise steps rise (suc q.sent) (suc heard) (omega (arith, e.1)) (omega (arith, there)) in
          let all : (counts_before steps (suc q.sent)).frames ≤ (counts_before steps (length steps)).frames =
          frames_rise steps rise (suc q.sent) (length steps) (omega (arith, e.1, there)) (omega arith) in
          subst (λ (n : ℕ). IsSent frames steps k (record { sent = n; came = q.came })) (sym e.0) (record {
            has = omega (arith, h.has, rises);
            when = inr (record {
              heard = hears.heard;
              before = hears.before;
              answered = answered_of_all late frames first_ hears.heard k is_late hears.from hears.before hears.answered;
              came = first;
              round = round.each hears.heard k hears.from hears.before (omega (arith, h.has, all));
            });
            in_time = e.2;
          })
    ]

set_cases : {A : Type 0} (xs : List A) (i j : ℕ) (y z : A) → slice_get (slice_set xs i y) j ≡ Some z
    → ((j ≡ i) × (y ≡ z)) ⊎ (slice_get xs j ≡ Some z)
set_cases [] i j y z h = inr h
set_cases (x ∷ xs) zero zero y z h = inl (refl, cc)
set_cases (x ∷ xs) zero (suc j) y z h = inr h
set_cases (x ∷ xs) (suc i) zero y z h = inr h
set_cases (x ∷ xs) (suc i) (suc j) y z h = elim (set_cases xs i j y z h) [ inl g ↦ inl (ap suc g.0, g.1) | inr g ↦ inr g ]

-- frame i is sent later
pub delayed : (frames late : List Envelope) (steps : List Step) (first : ℕ) (passages : List Passage) (i heard sent : ℕ) (d : Passage)
    → i < length passages → HearsIn late first passages i heard → IsLater (slice_index_or passages i d) heard sent
    → late ≡ drop first frames → NeverFall steps → AreOfRound steps first
    → ArePassages steps passages → AreSent frames steps passages
    → AreSent frames steps (slice_set passages i (record { sent = sent; came = (slice_index_or passages i d).came }))
delayed frames late steps first passages i heard sent d below hears later is_late rise round came h = record {
  each = λ k p at.
      elim (set_cases passages i k (record { sent = sent; came = (slice_index_or passages i d).came }) p at) [
        | inl g ↦ subst (λ (n : ℕ). IsSent frames steps n p) (sym g.0) (subst (λ (r : Passage). IsSent frames steps i r) g.1
            (later_sent frames late steps first passages i heard sent (slice_index_or passages i d) is_late rise round came hears later
            (h.each i (slice_index_or passages i d) (slice_get-get_or passages i d below))))
        | inr g ↦ h.each k p g
      ];
}

-- ---- the frames of a round
module _ (steps : List Step) (s : Step) (first end : ℕ) where
  -- what one step made it made
  one_made_still : OneMade steps first end → OneMade (steps ++ s ∷ []) first end
  one_made_still h =
      let before : (counts_before (steps ++ s ∷ []) h.step).frames ≡ (counts_before steps h.step).frames =
      ap (λ (c : Counts). c.frames) (counts_same steps s h.step (omega (arith, h.there))) in
      let behind : (counts_before (steps ++ s ∷ []) (suc h.step)).frames ≡ (counts_before steps (suc h.step)).frames =
      ap (λ (c : Counts). c.frames) (counts_same steps s (suc h.step) (omega (arith, h.there))) in record {
        step = h.step;
        there = omega (arith, h.there, one_longer steps s);
        before = omega (arith, h.before, before);
        behind = omega (arith, h.behind, behind);
      }

  -- the last one made those that weren't there
  last_made : (counts_before steps (length steps)).frames ≤ first → end ≤ s.ends.frames → OneMade (steps ++ s ∷ []) first end
  last_made new made =
      let before : (counts_before (steps ++ s ∷ []) (length steps)).frames ≡ (counts_before steps (length steps)).frames =
      ap (λ (c : Counts). c.frames) (counts_same steps s (length steps) (omega arith)) in
      let behind : (counts_before (steps ++ s ∷ []) (suc (length steps))).frames ≡ s.ends.frames =
      ap (λ (o : Option Step). (ends_or_none o).frames) (got_last steps s) in record {
        step = length steps;
        there = omega (arith, one_longer steps s);
        before = omega (arith, new, before);
        behind = omega (arith, made, behind);
      }

  pub made_more : (more : List Step) → more ≡ steps ++ s ∷ [] → end ≤ s.ends.frames → MadeFrom steps first end → MadeFrom more first end
  made_more more e made h = subst (λ (ss : List Step). MadeFrom ss first end) (sym e) (elim h [
    | inl g ↦ inr (last_made g made)
    | inr g ↦ inr (one_made_still g)
  ])

-- a frame of a round is noted, or waits
pub made_noted : {S : Type 0} (w : WorldState S) (k first : ℕ) (before after : List Step) (waits : Bool) → slice_get w.waiting k ≡ Some waits
    → FrameIsNoted w k before after → MadeFrom before first (length w.frames) → MadeFrom after first (length w.frames)
made_noted w k first before after true at noted h = subst (λ (ss : List Step). MadeFrom ss first (length w.frames)) (sym (noted.waits at)) h
made_noted w k first before after false at noted h =
    made_more before (sending_step (Delivered k) before (length w.frames)) first (length w.frames) after (noted.came at) (omega arith) h

-- what a round makes is made by its own step, where it has one
pub round_made : {S : Type 0} (node : ℕ) (fault : Option ReplayFault) (w : WorldState S) (first : ℕ) (before after : List Step)
    → RoundIsBegun node fault w before after → (counts_before before (length before)).frames ≤ first → MadeFrom after first (length w.frames)
round_made node None w first before after noted h =
    made_more before (sending_step (Other node) before (length w.frames)) first (length w.frames) after noted (omega arith) (inl h)
round_made node (Some fault) w first before after noted h =
    subst (λ (ss : List Step). MadeFrom ss first (length w.frames)) (sym noted) (inl h)

pub of_round : (steps : List Step) (first end : ℕ) → (counts_before steps (length steps)).frames ≤ end → MadeFrom steps first end
    → AreOfRound steps first
of_round steps first end within h = record {
  each = λ j k from before there. elim h [
    | inl g ↦ absurd (omega (arith, g, from, before, there))
    | inr g ↦ record {
      step = g.step;
      there = g.there;
      before = omega (arith, g.before, from);
      behind = omega (arith, g.behind, there, within);
    }
  ];
}

-- ---- one step more
if_comes : (b : Bool) (n i : ℕ) → (if b then Some n else None) ≡ Some i → i ≡ n
if_comes true n i h = cc
if_comes false n i h = absurd (cc)

comes_then : (deed : Deed) (n k i : ℕ) → comes_by deed n k ≡ Some i → i ≡ n
comes_then (Submitted node) n k i h = absurd (cc)
comes_then (Delivered frame) n k i h = if_comes (frame == k) n i h
comes_then (Dropped frame) n k i h = absurd (cc)
comes_then (TimedOut node) n k i h = absurd (cc)
comes_then (Restarted node) n k i h = absurd (cc)
comes_then (Other node) n k i h = absurd (cc)
comes_then Flushed n k i h = absurd (cc)
comes_then Ended n k i h = absurd (cc)

-- a frame that has come came before, or comes now
came_then : (before : Option ℕ) (deed : Deed) (n k i : ℕ) → came_with before deed n k ≡ Some i → (before ≡ Some i) ⊎ (i ≡ n)
came_then None deed n k i h = inr (comes_then deed n k i h)
came_then (Some b) deed n k i h = inl h

module _ (frames : List Envelope) (steps : List Step) (s : Step) where
  -- one that was sent before
  still_sent : (k : ℕ) (q p : Passage) → IsSent frames steps k q → p.sent ≡ q.sent → p.came ≡ came_with q.came s.deed (length steps) k
      → IsSent frames (steps ++ s ∷ []) k p
  still_sent k q p h same came =
      let there : q.sent < length steps = step_there steps q.sent k h.has in
      let by : (counts_before (steps ++ s ∷ []) (suc p.sent)).frames ≡ (counts_before steps (suc q.sent)).frames =
      ap (λ (n : ℕ). (counts_before (steps ++ s ∷ []) (suc n)).frames) same
      ∙ ap (λ (c : Counts). c.frames) (counts_same steps s (suc q.sent) (omega (arith, there))) in
      let before : (counts_before (steps ++ s ∷ []) p.sent).frames ≡ (counts_before steps q.sent).frames =
      ap (λ (n : ℕ). (counts_before (steps ++ s ∷ []) n).frames) same
      ∙ ap (λ (c : Counts). c.frames) (counts_same steps s q.sent (omega (arith, there))) in record {
        has = omega (arith, h.has, by);
        when = elim h.when [
          | inl g ↦ inl (omega (arith, g, before))
          | inr g ↦ inr (subst (λ (n : ℕ). Hears frames (steps ++ s ∷ []) n k) (sym same) (record {
            heard = g.heard;
            before = g.before;
            answered = g.answered;
            came = came_still steps s g.heard q.sent g.came;
            round = one_made_still steps s g.heard (suc k) g.round;
          }))
        ];
        in_time = λ i e. elim (came_then q.came s.deed (length steps) k i (sym came ∙ e)) [
          | inl g ↦ omega (arith, same, h.in_time i g)
          | inr g ↦ omega (arith, same, there, g)
        ];
      }

  -- one that is sent now
  sent_now : (k : ℕ) (p : Passage) → (counts_before steps (length steps)).frames ≤ k → k < s.ends.frames → p.sent ≡ length steps
      → p.came ≡ comes_by s.deed (length steps) k → IsSent frames (steps ++ s ∷ []) k p
  sent_now k p new made now came =
      let by : (counts_before (steps ++ s ∷ []) (suc p.sent)).frames ≡ s.ends.frames =
      ap (λ (n : ℕ). (counts_before (steps ++ s ∷ []) (suc n)).frames) now
      ∙ ap (λ (o : Option Step). (ends_or_none o).frames) (got_last steps s) in
      let before : (counts_before (steps ++ s ∷ []) p.sent).frames ≡ (counts_before steps (length steps)).frames =
      ap (λ (n : ℕ). (counts_before (steps ++ s ∷ []) n).frames) now
      ∙ ap (λ (c : Counts). c.frames) (counts_same steps s (length steps) (omega arith)) in record {
        has = omega (arith, made, by);
        when = inl (omega (arith, new, before));
        in_time = λ i e. omega (arith, now, comes_then s.deed (length steps) k i (sym came ∙ e));
      }

-- the passages of all steps, the last one among them
pub sent_noted : (frames : List Envelope) (steps more : List Step) (s : Step) (old new : List Passage) → more ≡ steps ++ s ∷ []
    → NotesComing s.deed (length steps) old new → NotesSending (length steps) old new
    → length old ≡ (counts_before steps (length steps)).frames → length new ≡ s.ends.frames → AreSent frames steps old → AreSent frames more new
sent_noted frames steps more s old new e coming sending were are h = subst (λ (ss : List Step). AreSent frames ss new) (sym e) (record {
  each = λ k p at.
      let came : p.came ≡ came_with (came_in old k) s.deed (length steps) k = sym (ap came_of at) ∙ coming.each k in
      let sent : p.sent ≡ sent_of (length steps) (slice_get old k) = sym (ap (sent_of (length steps)) at) ∙ sending.each k in
      let within : k < length new = slice_get_within new k p at in
      elim (slice_get_cases old k).1 [
        | inl g ↦ still_sent frames steps s k g.0 p (h.each k g.0 g.2) (sent ∙ ap (sent_of (length steps)) g.2)
            (came ∙ ap (λ (o : Option Passage). came_with (came_of o) s.deed (length steps) k) g.2)
        | inr g ↦ sent_now frames steps s k p (omega (arith, g.0, were)) (omega (arith, within, are)) (sent ∙ ap (sent_of (length steps)) g.1)
            (came ∙ ap (λ (o : Option Passage). came_with (came_of o) s.deed (length steps) k) g.1)
      ];
})
