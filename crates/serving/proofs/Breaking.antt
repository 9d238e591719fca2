-- A part of a turn that breaks off has answered no line twice.
use Rattle.std.proofs.Common.{◌≡◌, ◌≤◌, ℕ, ◌+◌, Bool, List, [], ◌∷◌, ◌++◌, take, drop, Contains, Result, Ok, Err, OnErr, count_by, refl, sym, ap, subst, arith, append-nil, append_assoc, take-append-drop}
use Rattle.std.specs.List.{filter}
use Rattle.std.proofs.lemmas.List.Elements.{Contains-append_left, Contains-append_right}
use Rattle.stable.specs.declared.stable.Stable.{Ghosts}
use Rattle.world_model.specs.declared.lists.Replied.{Replied}
use Rattle.serving.specs.Claiming.{is_for, is_of}
use Rattle.serving.specs.Moves.{AreRepliesTold, Moves, Taking, TakesAll, Telling, TellsOrNot}
use Rattle.serving.specs.Owing.{AnswersAtMost, BreaksOff, BreaksOffOver, KeepsEach, is_line_of, is_text_to, owed_to, reply_line, reply_told}
use Rattle.serving.specs.Processes.{ProcessState}
use Rattle.serving.specs.Resting.{HasRead}
use Rattle.serving.specs.Serving.{Passes, PassesBoth}
use Rattle.serving.specs.Tapes.{Carried, HasPassed, Heard, ReadingFailed, Talk, Told, Went, heard, polled, read}
use Rattle.serving.specs.Waitings.{WaitingState}
use Rattle.serving.specs.declared.claims.Claim.{Claim}
use Rattle.serving.specs.declared.desk.Came.{Came}
use Rattle.serving.specs.declared.desk.Came.TheVariants as came
use Rattle.serving.proofs.Counts.{count_append, count_map, count_one, count_parts}
use Rattle.serving.proofs.MovesKeep.{each_reply, keeps_then, kept_taking, moves_keep_each}
use Rattle.serving.proofs.Passing.{passes_as, passes_none, passes_then}

-- of any error
pub on_err : {A E P : Type 0} (result : Result A E) → P → OnErr result P
on_err (Ok done) h = tt
on_err (Err fault) h = h

-- ---- what is said, by connection
-- each connection that doesn't go is told no more than what lines it wrote, and what waited
breaks_by : (said : List Talk) (old : WaitingState)
    → ((c : ℕ) → ¬ Contains said (Went c) → count_by (is_text_to c) said ≤ count_by (is_line_of c) said + owed_to c old)
    → BreaksOff said old
breaks_by said old few = record {
  at_most = λ talk h. record {
    each = λ c stays.
        let before = h.each c (λ went. stays (Contains-append_left talk said (Went c) went)) in
        let since = few c (λ went. stays (Contains-append_right talk said (Went c) went)) in
        omega (arith, before, since, count_append (is_line_of c) talk said, count_append (is_text_to c) talk said);
  };
}

breaks_nothing : (old : WaitingState) → BreaksOff [] old
breaks_nothing old = breaks_by [] old (λ c stays. omega arith)

breaks_behind : (said told : List Talk) (a b : WaitingState) → KeepsEach said a b → BreaksOff told b → BreaksOff (said ++ told) a
breaks_behind said told a b h k = record {
  at_most = λ talk is. subst (λ (t : List Talk). AnswersAtMost t) (append_assoc talk said told) (k.at_most (talk ++ said) (h.keeps talk is));
}

breaks_kept : (said : List Talk) (a b : WaitingState) → KeepsEach said a b → BreaksOff said a
breaks_kept said a b h =
    subst (λ (t : List Talk). BreaksOff t a) (append-nil said) (breaks_behind said [] a b h (breaks_nothing b))

-- a client did something, and was told nothing yet
breaks_heard : (what : Came) (old : WaitingState) → BreaksOff (heard what ∷ []) old
breaks_heard (came.Line connection text) old =
    breaks_by (Heard connection text.items ∷ []) old (λ c stays. omega (arith, count_one (is_text_to c) (Heard connection text.items)))
breaks_heard (came.Gone connection) old =
    breaks_by (Went connection ∷ []) old (λ c stays. omega (arith, count_one (is_text_to c) (Went connection)))

breaks_failed : (old : WaitingState) → BreaksOff (ReadingFailed ∷ []) old
breaks_failed old = breaks_by (ReadingFailed ∷ []) old (λ c stays. omega (arith, count_one (is_text_to c) ReadingFailed))

-- a reply was told to some who wait for it
breaks_reply : (replied : Replied) (count : ℕ) (old : WaitingState) → BreaksOff (reply_told replied (take count old.claims)) old
breaks_reply replied count old =
    let test : Claim → Bool = is_of replied.client replied.number in
    let tells : Claim → Talk = λ claim. Told claim.connection (reply_line replied) in
    let some = take count old.claims in
    breaks_by (reply_told replied some) old
    (λ c stays.
    omega (
      arith,
      count_map (is_text_to c) tells (filter test some),
      count_parts (is_for c) test some,
      count_append (is_for c) some (drop count old.claims),
      ap (count_by (is_for c)) (take-append-drop count old.claims),
    ))

-- ---- over a desk
module _ {D : Type 0} (tape : D → List Talk) (Tells : D → Type 0) where
  abbrev pub Breaks : WaitingState → D → D → Type 0
  Breaks old d e = Passes tape Tells (λ said. BreaksOff said old) d e

  pub breaks_still : (old : WaitingState) (d : D) → Breaks old d d
  breaks_still old d = record { passed = []; are = breaks_nothing old; passes = passes_none tape Tells d }

  pub breaks_untold : (old : WaitingState) (d e : D) → HasPassed tape Tells d [] e → Breaks old d e
  breaks_untold old d e h = record { passed = []; are = breaks_nothing old; passes = h }

  -- as a call's clauses have it
  pub breaks_hearing : (old : WaitingState) (d e : D) (passed : List Talk) (what : Came) → passed ≡ heard what ∷ []
      → (Tells e → tape e ≡ tape d ++ passed) → (Tells e → Tells d) → Breaks old d e
  breaks_hearing old d e passed what is tape_ told = record {
    passed = heard what ∷ [];
    are = breaks_heard what old;
    passes = passes_as tape Tells d e passed (heard what ∷ []) tape_ told is;
  }

  pub breaks_failing : (old : WaitingState) (d e : D) (passed : List Talk) → passed ≡ ReadingFailed ∷ []
      → (Tells e → tape e ≡ tape d ++ passed) → (Tells e → Tells d) → Breaks old d e
  breaks_failing old d e passed is tape_ told = record {
    passed = ReadingFailed ∷ [];
    are = breaks_failed old;
    passes = passes_as tape Tells d e passed (ReadingFailed ∷ []) tape_ told is;
  }

  -- it breaks off behind what keeps each line
  pub breaks_then : (a b : WaitingState) (d e f : D) → Passes tape Tells (λ said. KeepsEach said a b) d e → Breaks b e f → Breaks a d f
  breaks_then a b d e f h k = record {
    passed = h.passed ++ k.passed;
    are = breaks_behind h.passed k.passed a b h.are k.are;
    passes = passes_then tape Tells d e f h.passed k.passed h.passes k.passes;
  }

  pub kept_both : (a b c : WaitingState) (d e f : D) → Passes tape Tells (λ said. KeepsEach said a b) d e
      → Passes tape Tells (λ said. KeepsEach said b c) e f → Passes tape Tells (λ said. KeepsEach said a c) d f
  kept_both a b c d e f h k = record {
    passed = h.passed ++ k.passed;
    are = keeps_then h.passed k.passed a b c h.are k.are;
    passes = passes_then tape Tells d e f h.passed k.passed h.passes k.passes;
  }

  pub breaks_keeping : (a b : WaitingState) (d e : D) → Passes tape Tells (λ said. KeepsEach said a b) d e → Breaks a d e
  breaks_keeping a b d e h = record { passed = h.passed; are = breaks_kept h.passed a b h.are; passes = h.passes }

  pub breaks_over : (old : WaitingState) (d e : D) → Breaks old d e → BreaksOffOver tape Tells old d e
  breaks_over old d e h = record {
    at_most = λ tells is. subst (λ (t : List Talk). AnswersAtMost t) (sym (h.passes.passed_ tells)) (h.are.at_most (tape d) is);
  }

  -- ---- replies
  -- so many were told it so far
  pub told_so_far : (replied : Replied) (claims : List Claim) (count : ℕ) (d e : D)
      → HasPassed tape Tells d (reply_told replied (take count claims)) e
      → Passes tape Tells (λ said. (n : ℕ) × (said ≡ reply_told replied (take n claims))) d e
  told_so_far replied claims count d e h =
      record { passed = reply_told replied (take count claims); are = (count, refl); passes = h }

  pub breaks_replying : (claims left : List Claim) (w v : WaitingState) (replies : List Replied) (replied : Replied) (d e f : D)
      → w.claims ≡ claims → v ≡ record w { claims = left }
      → Passes tape Tells (λ said. AreRepliesTold claims replies said left) d e
      → Passes tape Tells (λ said. (count : ℕ) × (said ≡ reply_told replied (take count left))) e f → Breaks w d f
  breaks_replying claims left w v replies replied d e f is now h k =
      let part : BreaksOff (reply_told replied (take k.are.0 left)) (record w { claims = left }) =
      breaks_reply replied k.are.0 (record w { claims = left }) in
      record {
        passed = h.passed ++ k.passed;
        are = breaks_behind h.passed k.passed w (record w { claims = left }) (each_reply claims replies h.passed left w h.are is)
            (subst (λ (t : List Talk). BreaksOff t (record w { claims = left })) (sym k.are.1) part);
        passes = passes_then tape Tells d e f h.passed k.passed h.passes k.passes;
      }

  -- ---- moves
  module _ {S : Type 0} (storages : Ghosts S) (now : ℕ) where
    pub frames_kept : {N : Type 0} (carried : N → List Carried) (Carries : N → Type 0) (AreRead : List Carried → Type 0)
        (p q : ProcessState S) (n m : N) (d : D)
        → Passes carried Carries (λ came. Moves storages now Taking p came [] q × AreRead came) n m
        → Passes tape Tells (λ said. KeepsEach said p.waiting q.waiting) d d
    frames_kept carried Carries AreRead p q n m d h = record {
      passed = [];
      are = moves_keep_each storages now Taking p q h.passed [] h.are.0;
      passes = passes_none tape Tells d;
    }

    pub lines_kept : (AreRead : List Talk → Type 0) (p q : ProcessState S) (d e : D)
        → Passes tape Tells (λ said. Moves storages now Taking p [] said q × AreRead said) d e
        → Passes tape Tells (λ said. KeepsEach said p.waiting q.waiting) d e
    lines_kept AreRead p q d e h = record {
      passed = h.passed;
      are = moves_keep_each storages now Taking p q [] h.passed h.are.0;
      passes = h.passes;
    }

    pub telling_kept : (p q : ProcessState S) (d e : D) (has : Bool)
        → Passes tape Tells (λ said. TellsOrNot storages now p [] said q has) d e
        → Passes tape Tells (λ said. KeepsEach said p.waiting q.waiting) d e
    telling_kept p q d e has h = record {
      passed = h.passed;
      are = moves_keep_each storages now Telling p q [] h.passed h.are.0;
      passes = h.passes;
    }

    pub still_kept : (p q : ProcessState S) (d : D) → Moves storages now Telling p [] [] q
        → Passes tape Tells (λ said. KeepsEach said p.waiting q.waiting) d d
    still_kept p q d moves = record {
      passed = [];
      are = moves_keep_each storages now Telling p q [] [] moves;
      passes = passes_none tape Tells d;
    }

    pub kept_of_both : {N : Type 0} (carried : N → List Carried) (Carries : N → Type 0) (p q : ProcessState S) (n m : N) (d e : D)
        (has : Bool) → PassesBoth carried Carries tape Tells (λ sent said. TellsOrNot storages now p sent said q has) n d m e
        → Passes tape Tells (λ said. KeepsEach said p.waiting q.waiting) d e
    kept_of_both carried Carries p q n m d e has h = record {
      passed = h.said;
      are = moves_keep_each storages now Telling p q h.sent h.said h.are.0;
      passes = h.talks;
    }

    -- replies are told, then answers to the queries that are held back no more, and nothing passes behind that
    pub kept_answering : {N : Type 0} (carried : N → List Carried) (Carries : N → Type 0) (p q r : ProcessState S) (n m : N) (d e f : D)
        (a b : Bool) → PassesBoth carried Carries tape Tells (λ sent said. TellsOrNot storages now p sent said q a) n d m e
        → Passes tape Tells (λ said. TellsOrNot storages now q [] said r b) e f
        → Passes tape Tells (λ said. KeepsEach said p.waiting r.waiting) d f
    kept_answering carried Carries p q r n m d e f a b h k =
        kept_both p.waiting q.waiting r.waiting d e f (kept_of_both carried Carries p q n m d e a h) (telling_kept q r e f b k)

    pub kept_quietly : (a : WaitingState) (p q : ProcessState S) (d e : D) → Passes tape Tells (λ said. KeepsEach said a p.waiting) d e
        → Moves storages now Telling p [] [] q → Passes tape Tells (λ said. KeepsEach said a q.waiting) d e
    kept_quietly a p q d e h moves = kept_both a p.waiting q.waiting d e e h (still_kept p q e moves)

    -- frames are taken, then lines
    pub breaks_behind_lines : {N : Type 0} (carried : N → List Carried) (Carries : N → Type 0) (p q r : ProcessState S) (n m : N) (d e : D)
        (a b : Bool) → Passes carried Carries (λ came. Moves storages now Taking p came [] q × HasRead polled came a) n m
        → Passes tape Tells (λ said. Moves storages now Taking q [] said r × HasRead read said b) d e → Breaks p.waiting d e
    breaks_behind_lines carried Carries p q r n m d e a b h k =
        breaks_keeping p.waiting r.waiting d e
        (kept_both p.waiting q.waiting r.waiting d d e
        (frames_kept carried Carries (λ came. HasRead polled came a) p q n m d h) (lines_kept (λ said. HasRead read said b) q r d e k))

    pub kept_of_all : {N : Type 0} (carried : N → List Carried) (Carries : N → Type 0) (p q : ProcessState S) (n m : N) (d e : D)
        (more : Bool) → PassesBoth carried Carries tape Tells (λ came said. TakesAll storages now p came said q more) n d m e
        → Passes tape Tells (λ said. KeepsEach said p.waiting q.waiting) d e
    kept_of_all carried Carries p q n m d e more h = record {
      passed = h.said;
      are = (kept_taking storages now p q h.sent h.said more h.are).0;
      passes = h.talks;
    }
