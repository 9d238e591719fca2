-- One move of a process after the other, and what passes in them.
use Rattle.std.proofs.Common.{◌≡◌, ℕ, Bool, true, false, ◌||◌, List, [], ◌∷◌, ◌++◌, refl, sym, ap, subst, append-nil, append_assoc, ◌∙◌}
use Rattle.std.proofs.lemmas.Bool.{or_right}
use Rattle.stable.specs.declared.stable.Stable.{Ghosts}
use Rattle.life.specs.Lives.{LifeState}
use Rattle.serving.specs.Moves.{IsTurn, KeepsTime, Move, Moves, Part, Taking, TakesAll, Telling, TellsOrNot}
use Rattle.serving.specs.Moves.Moves.{none, next}
use Rattle.serving.specs.Processes.{ProcessState}
use Rattle.serving.specs.Resting.{HasRead}
use Rattle.serving.specs.Serving.{Passes, PassesBoth}
use Rattle.serving.specs.Tapes.{Carried, Talk, polled, read}
use Rattle.serving.specs.Timings.{TimingState}
use Rattle.serving.specs.Waitings.{has_any}
use Rattle.serving.proofs.Passing.{passes_none, passes_then}

module _ {S : Type 0} {part : Part} (storages : Ghosts S) (now : ℕ) where
  -- ---- as a list
  pub moves_one : (p q : ProcessState S) (sent : List Carried) (said : List Talk) → Move storages now part p sent said q
      → Moves storages now part p sent said q
  moves_one p q sent said move = next p p q [] sent [] said (none p) move

  pub moves_then : (p q r : ProcessState S) (sent more : List Carried) (said told : List Talk) → Moves storages now part p sent said q
      → Moves storages now part q more told r → Moves storages now part p (sent ++ more) (said ++ told) r
  moves_then p _ _ sent _ said _ before (none q) =
      subst (λ (xs : List Carried). Moves storages now part p xs (said ++ []) q) (sym (append-nil sent))
      (subst (λ (xs : List Talk). Moves storages now part p sent xs q) (sym (append-nil said)) before)
  moves_then p _ _ sent _ said _ before (next q m r more last told end moves move) =
      subst (λ (xs : List Carried). Moves storages now part p xs (said ++ (told ++ end)) r) (append_assoc sent more last)
      (subst (λ (xs : List Talk). Moves storages now part p ((sent ++ more) ++ last) xs r) (append_assoc said told end)
      (next p m r (sent ++ more) last (said ++ told) end (moves_then p q m sent more said told before moves) move))

  -- to what is the same
  pub moves_to : (p q r : ProcessState S) (sent : List Carried) (said : List Talk) → Moves storages now part p sent said q → r ≡ q
      → Moves storages now part p sent said r
  moves_to p q r sent said h same = subst (λ (x : ProcessState S). Moves storages now part p sent said x) (sym same) h

  pub moves_same : (p q : ProcessState S) → q ≡ p → Moves storages now part p [] [] q
  moves_same p q same = moves_to p p q [] [] (none p) same

  -- ---- over the network alone
  module _ {N : Type 0} (carried : N → List Carried) (Carries : N → Type 0) where
    pub nodes_moves_none : (p : ProcessState S) (n : N)
        → Passes carried Carries (λ sent. Moves storages now part p sent [] p) n n
    nodes_moves_none p n = record { passed = []; are = none p; passes = passes_none carried Carries n }

    pub nodes_moves_then : (p q r : ProcessState S) (n m o : N) → Passes carried Carries (λ sent. Moves storages now part p sent [] q) n m
        → Passes carried Carries (λ sent. Moves storages now part q sent [] r) m o
        → Passes carried Carries (λ sent. Moves storages now part p sent [] r) n o
    nodes_moves_then p q r n m o h k = record {
      passed = h.passed ++ k.passed;
      are = moves_then p q r h.passed k.passed [] [] h.are k.are;
      passes = passes_then carried Carries n m o h.passed k.passed h.passes k.passes;
    }

    -- in which nothing passes
    pub nodes_moves_quiet : (p q : ProcessState S) (n : N) → Moves storages now part p [] [] q
        → Passes carried Carries (λ sent. Moves storages now part p sent [] q) n n
    nodes_moves_quiet p q n moves = record { passed = []; are = moves; passes = passes_none carried Carries n }

-- ---- and whether a connection was told anything
any_of_both : (xs ys : List Talk) → has_any (xs ++ ys) ≡ has_any xs || has_any ys
any_of_both [] ys = refl
any_of_both (x ∷ xs) ys = refl

none_more : (a b : Bool) → b ≡ false → (a || b) ≡ a
none_more true b is = refl
none_more false b is = is

module _ {S : Type 0} (storages : Ghosts S) (now : ℕ) where
  telling_then : (p q r : ProcessState S) (sent more : List Carried) (said told : List Talk) (a b : Bool)
      → TellsOrNot storages now p sent said q a → TellsOrNot storages now q more told r b
      → TellsOrNot storages now p (sent ++ more) (said ++ told) r (a || b)
  telling_then p q r sent more said told a b h k = (
    moves_then storages now p q r sent more said told h.0 k.0,
    ap (λ (x : Bool). x || b) h.1 ∙ ap (λ (x : Bool). has_any said || x) k.1 ∙ sym (any_of_both said told),
  )

  -- and then some are sent
  telling_sent : (p q r : ProcessState S) (sent more : List Carried) (said : List Talk) (has : Bool)
      → TellsOrNot storages now p sent said q has → Moves storages now Telling q more [] r
      → TellsOrNot storages now p (sent ++ more) said r has
  telling_sent p q r sent more said has h moves = (
    subst (λ (xs : List Talk). Moves storages now Telling p (sent ++ more) xs r) (append-nil said)
        (moves_then storages now p q r sent more said [] h.0 moves),
    h.1,
  )

  -- and then nothing passes
  telling_quiet : (p q r : ProcessState S) (sent : List Carried) (said : List Talk) (has : Bool)
      → TellsOrNot storages now p sent said q has → Moves storages now Telling q [] [] r → TellsOrNot storages now p sent said r has
  telling_quiet p q r sent said has h moves =
      subst (λ (xs : List Carried). TellsOrNot storages now p xs said r has) (append-nil sent)
      (telling_sent p q r sent [] said has h moves)

  -- ---- over the desk alone
  module _ {D : Type 0} (talk : D → List Talk) (Talks : D → Type 0) where
    abbrev pub ClientsTold : ProcessState S → D → ProcessState S → D → Bool → Type 0
    ClientsTold p d q e has = Passes talk Talks (λ said. TellsOrNot storages now p [] said q has) d e

    pub clients_none_told : (p : ProcessState S) (d : D) → ClientsTold p d p d false
    clients_none_told p d = record { passed = []; are = (none p, refl); passes = passes_none talk Talks d }

    pub clients_told_then : (p q r : ProcessState S) (d e f : D) (a b : Bool) → ClientsTold p d q e a → ClientsTold q e r f b
        → ClientsTold p d r f (a || b)
    clients_told_then p q r d e f a b h k = record {
      passed = h.passed ++ k.passed;
      are = telling_then p q r [] [] h.passed k.passed a b h.are k.are;
      passes = passes_then talk Talks d e f h.passed k.passed h.passes k.passes;
    }

    -- behind others one was told, or none
    pub clients_told_also : (p q r : ProcessState S) (d e f : D) (has more : Bool) → more ≡ true → ClientsTold p d q e has
        → ClientsTold q e r f more → ClientsTold p d r f true
    clients_told_also p q r d e f has more is h k =
        subst (λ (b : Bool). ClientsTold p d r f b) (or_right has more is) (clients_told_then p q r d e f has more h k)

    pub clients_told_before : (p q r : ProcessState S) (d e f : D) (has more : Bool) → more ≡ false → ClientsTold p d q e has
        → ClientsTold q e r f more → ClientsTold p d r f has
    clients_told_before p q r d e f has more is h k =
        subst (λ (b : Bool). ClientsTold p d r f b) (none_more has more is) (clients_told_then p q r d e f has more h k)

    pub clients_told_quiet : (p q : ProcessState S) (d : D) → Moves storages now Telling p [] [] q → ClientsTold p d q d false
    clients_told_quiet p q d moves = record { passed = []; are = (moves, refl); passes = passes_none talk Talks d }

  -- ---- over both
  module _ {N D : Type 0} (carried : N → List Carried) (Carries : N → Type 0) (talk : D → List Talk) (Talks : D → Type 0) where
    abbrev pub BothTold : ProcessState S → N → D → ProcessState S → N → D → Bool → Type 0
    BothTold p n d q m e has = PassesBoth carried Carries talk Talks (λ sent said. TellsOrNot storages now p sent said q has) n d m e

    -- a client is told something
    pub both_told : (p q r : ProcessState S) (n m : N) (d e f : D) (a b : Bool) → BothTold p n d q m e a
        → ClientsTold talk Talks q e r f b → BothTold p n d r m f (a || b)
    both_told p q r n m d e f a b h k = record {
      sent = h.sent;
      said = h.said ++ k.passed;
      are = subst (λ (xs : List Carried). TellsOrNot storages now p xs (h.said ++ k.passed) r (a || b)) (append-nil h.sent)
          (telling_then p q r h.sent [] h.said k.passed a b h.are k.are);
      carries = h.carries;
      talks = passes_then talk Talks d e f h.said k.passed h.talks k.passes;
    }

    pub both_sent : (p q r : ProcessState S) (n m o : N) (d e : D) (has : Bool) → BothTold p n d q m e has
        → Passes carried Carries (λ sent. Moves storages now Telling q sent [] r) m o → BothTold p n d r o e has
    both_sent p q r n m o d e has h k = record {
      sent = h.sent ++ k.passed;
      said = h.said;
      are = telling_sent p q r h.sent k.passed h.said has h.are k.are;
      carries = passes_then carried Carries n m o h.sent k.passed h.carries k.passes;
      talks = h.talks;
    }

    pub both_quiet : (p q r : ProcessState S) (n m : N) (d e : D) (has : Bool) → BothTold p n d q m e has
        → Moves storages now Telling q [] [] r → BothTold p n d r m e has
    both_quiet p q r n m d e has h moves = record {
      sent = h.sent;
      said = h.said;
      are = telling_quiet p q r h.sent h.said has h.are moves;
      carries = h.carries;
      talks = h.talks;
    }

    -- ---- a whole turn
    -- all that has come is taken
    pub both_taken : (p q r s : ProcessState S) (life : LifeState S) (knows : TimingState) (n m : N) (d e : D) (a b : Bool)
        → Passes carried Carries (λ came. Moves storages now Taking p came [] q × HasRead polled came a) n m
        → Passes talk Talks (λ said. Moves storages now Taking q [] said r × HasRead read said b) d e
        → (p.life.own ≡ [] → q.life.own ≡ []) → KeepsTime storages now r life knows
        → Moves storages now Taking (record r { life = life; timing = knows }) [] [] s → s.life.own ≡ []
        → PassesBoth carried Carries talk Talks (λ came said. TakesAll storages now p came said s (a || b)) n d m e
    both_taken p q r s life knows n m d e a b packets lines own_packets keeps goes_on own = record {
      sent = packets.passed;
      said = lines.passed;
      are = record {
        more_came = a;
        after_packets = q;
        packets = packets.are.0;
        all_packets = packets.are.1;
        own_packets = own_packets;
        more_heard = b;
        after_lines = r;
        lines = lines.are.0;
        all_lines = lines.are.1;
        life = life;
        knows = knows;
        keeps_time = keeps;
        goes_on = goes_on;
        own = own;
        is_more = refl;
      };
      carries = packets.passes;
      talks = lines.passes;
    }

    pub both_turned : (p q r : ProcessState S) (n m o : N) (d e f : D) (a b : Bool)
        → PassesBoth carried Carries talk Talks (λ came said. TakesAll storages now p came said q a) n d m e → BothTold q m e r o f b
        → PassesBoth carried Carries talk Talks (λ sent said. IsTurn storages now p sent said r (a || b)) n d o f
    both_turned p q r n m o d e f a b h k = record {
      sent = h.sent ++ k.sent;
      said = h.said ++ k.said;
      are = record {
        came = h.sent;
        heard = h.said;
        more_came = a;
        between = q;
        takes = h.are;
        out = k.sent;
        told = k.said;
        has_told = b;
        tells = k.are;
        all_sent = refl;
        all_said = refl;
        is_more = refl;
      };
      carries = passes_then carried Carries n m o h.sent k.sent h.carries k.carries;
      talks = passes_then talk Talks d e f h.said k.said h.talks k.talks;
    }
