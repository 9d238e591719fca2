-- Which choices were tried, that none is tried twice, and that none is passed which is left at a contradiction.
use Rattle.std.proofs.Common.{Global, Vec, ◌≡◌, ◌≢◌, ℕ, zero, suc, ◌+◌, ◌-◌, ◌<◌, ◌≤◌, ◌⊎◌, inl, inr, List, [], ◌∷◌, ◌++◌, length, get_or, take, All, AllPairs, Option, Some, None, slice_get, refl, sym, ap, subst, ◌∙◌, arith}
use Rattle.std.proofs.lemmas.Bool.{cases_lt}
use Rattle.std.proofs.lemmas.List.{take_all, length_push, length-take-le}
use Rattle.std.proofs.lemmas.List.Elements.{All-append, All-cons, All-nil, All-weaker}
use Rattle.std.proofs.lemmas.Option.{get_or_from_slice_get, slice_get_past, slice_get_within}
use Rattle.sessions.specs.declared.command.Command.{Command}
use Rattle.sessions.specs.declared.command.Command.TheVariants as command
use Rattle.sessions.specs.declared.submission.Submission.{Submission}
use Rattle.verdicts.specs.Execution.{IsContradiction}
use Rattle.verdicts.specs.Search.{AreApart, AreAscending, AreBegun, AreLearnt, AreManyTried, AreUnlike, branch_at, branches_at, Follows, HasTried, IsChoice, IsEntering, IsExtended, IsLeaving, IsNext, IsStop, IsTried}
use Rattle.verdicts.specs.Verdicts.{AreNotEnough, AreOpen, IsInReach, are_contradicted}
use Rattle.verdicts.specs.declared.examination.Contradiction.{Contradiction}
use Rattle.verdicts.specs.declared.lines.Name.{Name}
use Rattle.verdicts.specs.declared.lines.Question.{Question}
use Rattle.verdicts.specs.declared.lines.ToldLine.{ToldLine}
use Rattle.verdicts.specs.declared.search.Branch.{Branch}
use Rattle.verdicts.specs.declared.search.Search.{Search}
use Rattle.verdicts.proofs.FindingLemmas.{get_take, take_take}
use Rattle.verdicts.proofs.PairLemmas.{pairs_append, pairs_cons, pairs_front, pairs_last, pairs_map, pairs_none, pairs_weaker}
use Rattle.verdicts.proofs.PlaceLemmas.{all_front, all_last, not_both}
use Rattle.verdicts.proofs.SearchLemmas.{all_at, ascending_last, begun_next, extended_begun, last_there, learnt_next, take_front}

-- ---- lists that begin so
get_last : {X : Type 0} (xs : List X) (n : ℕ) (x : X) → length xs ≡ n → slice_get (xs ++ x ∷ []) n ≡ Some x
get_last [] zero x h = refl
get_last [] (suc n) x h = absurd (omega (arith, h))
get_last (y ∷ xs) zero x h = absurd (omega (arith, h))
get_last (y ∷ xs) (suc n) x h = get_last xs n x (omega (arith, h))

same_below : (old new : List Command) (n : ℕ) → take (length old) new ≡ old → n ≤ length old → take n new ≡ take n old
same_below old new n keeps h = sym (take_take n (length old) new h) ∙ ap (λ (l : List Command). take n l) keeps

begins_old : (old new l : List Command) → take (length old) new ≡ old → length old ≤ length new → take (length new) l ≡ new
    → take (length old) l ≡ old
begins_old old new l keeps grows e =
    sym (take_take (length old) (length new) l grows) ∙ ap (λ (k : List Command). take (length old) k) e ∙ keeps

follows_same : (requests : List Submission) (one other l : List Command) (b : Branch) → take b.slot one ≡ take b.slot other
    → Follows requests one l b → Follows requests other l b
follows_same requests one other l b same h =
    record { request = h.request; there = h.there; begins = h.begins ∙ same; takes = h.takes }

-- of two beginnings of a list, one begins the other
beginning : (a b l : List Command) → take (length a) l ≡ a → take (length b) l ≡ b → (take (length a) b ≡ a) ⊎ (take (length b) a ≡ b)
beginning a b l ea eb = elim (cases_lt (length a) (length b)) [
  | inl shorter ↦
      inl (ap (λ (k : List Command). take (length a) k) (sym eb) ∙ take_take (length a) (length b) l (omega (arith, shorter)) ∙ ea)
  | inr longer ↦ inr (ap (λ (k : List Command). take (length b) k) (sym ea) ∙ take_take (length b) (length a) l longer ∙ eb)
]

-- a list that begins with commands which are in reach, and with which none of the choices begins
pub reach_on : (questions : List Question) (size : ℕ) (told : List ToldLine) (choices : List (List Command)) (commands l : List Command)
    → take (length commands) l ≡ commands → All (λ (c : List Command). take (length commands) c ≢ commands) choices
    → IsInReach questions size told choices commands → IsInReach questions size told choices l
reach_on questions size told choices commands l begins fresh was k d w e = elim (beginning commands (get_or choices k d) l begins e) [
  | inl after ↦ absurd (fresh k d w after)
  | inr before ↦ was k d w before
]

-- a line tells of the slot of one command more
pub learnt_by_one : (names : List (Option Name)) (now : List Command) (wanted : Name) (c : Command) → AreLearnt names (length now)
    → slice_get names (length now) ≡ Some (Some wanted) → AreLearnt names (length (now ++ c ∷ []))
learnt_by_one names now wanted c h there slot below free = elim (cases_lt slot (length now)) [
  | inl earlier ↦ h slot earlier free
  | inr later ↦
      let size = length_push now c in
      let same : slot ≡ length now = omega (arith, later, below, size) in
      not_both (slice_get names slot) wanted free (subst (λ (i : ℕ). slice_get names i ≡ Some (Some wanted)) (sym same) there)
]

module _ (requests : List Submission) (names : List (Option Name)) (questions : List Question) (told : List ToldLine) where
  next_none : IsNext requests names questions told 0 [] []
  next_none = record {
    has_tried = record {
      choices = [];
      counted = refl;
      unlike = pairs_none (λ (a b : List Command). a ≢ b);
      tried = All-nil (IsTried requests names questions told);
      apart = pairs_none (AreApart requests []);
      left = All-nil (λ (b : Branch). All (λ (l : List Command). ¬ (Follows requests [] l b)) []);
      in_reach = All-nil (λ (b : Branch). (l : List Command) → Follows requests [] l b → IsInReach questions (length names) told [] l);
    };
    fresh = All-nil (λ (l : List Command). take 0 l ≢ []);
    in_reach = All-nil (λ (c : List Command). take (length c) [] ≡ c → AreOpen questions (length names) told c);
    aside = All-nil (λ (b : Branch). (l : List Command) → take 0 l ≡ [] → ¬ (Follows requests [] l b));
  }

  -- at the start
  pub next_first : (commands : List Command) (untried : List Branch) → commands ≡ [] → untried ≡ []
      → IsNext requests names questions told 0 commands untried
  next_first commands untried e f =
      subst (λ (l : List Command). IsNext requests names questions told 0 l untried) (sym e)
      (subst (λ (bs : List Branch). IsNext requests names questions told 0 [] bs) (sym f) next_none)

  -- ---- commands are added of which there is no choice
  module _ (old new : List Command) (untried : List Branch) (count : ℕ) (ext : IsExtended requests names old new)
      (within : All (λ (b : Branch). b.slot ≤ length old) untried)
      (was : IsNext requests names questions told count old untried) where
    back : (l : List Command) (b : Branch) → b.slot ≤ length old → Follows requests new l b → Follows requests old l b
    back l b h f = follows_same requests new old l b (same_below old new b.slot ext.keeps h) f

    pub next_still : IsNext requests names questions told count new untried
    next_still = record {
      has_tried = record {
        choices = was.has_tried.choices;
        counted = was.has_tried.counted;
        unlike = was.has_tried.unlike;
        tried = was.has_tried.tried;
        apart = pairs_weaker (λ (b : Branch). b.slot ≤ length old) (AreApart requests old) (AreApart requests new)
            (λ b c hb hc h l f g. h l (back l b hb f) (back l c hc g)) untried within was.has_tried.apart;
        left = λ k d w.
            All-weaker (λ (l : List Command). ¬ (Follows requests old l (get_or untried k d)))
            (λ (l : List Command). ¬ (Follows requests new l (get_or untried k d)))
            (λ l h f. h (back l (get_or untried k d) (within k d w) f)) was.has_tried.choices (was.has_tried.left k d w);
        in_reach = λ k d w l f. was.has_tried.in_reach k d w l (back l (get_or untried k d) (within k d w) f);
      };
      fresh = All-weaker (λ (l : List Command). take (length old) l ≢ old) (λ (l : List Command). take (length new) l ≢ new)
          (λ l h e. h (begins_old old new l ext.keeps ext.grows e)) was.has_tried.choices was.fresh;
      in_reach = reach_on questions (length names) told was.has_tried.choices old new ext.keeps was.fresh was.in_reach;
      aside = λ k d w l e f.
          was.aside k d w l (begins_old old new l ext.keeps ext.grows e) (back l (get_or untried k d) (within k d w) f);
    }

  -- ---- the commands are tried
  module _ (commands : List Command) (untried : List Branch) (count : ℕ) (was : IsNext requests names questions told count commands untried)
      (now : IsTried requests names questions told commands) where
    abbrev before : List (List Command)
    before = was.has_tried.choices

    whole : take (length commands) commands ≡ commands
    whole = take_all (length commands) commands (omega arith)

    unlike_now : All (λ (l : List Command). commands ≢ l) before
    unlike_now =
        All-weaker (λ (l : List Command). take (length commands) l ≢ commands) (λ (l : List Command). commands ≢ l)
        (λ l h e. h (subst (λ (k : List Command). take (length commands) k ≡ commands) e whole)) before was.fresh

    pub tried_now : HasTried requests names questions told (count + 1) commands untried
    tried_now = record {
      choices = commands ∷ before;
      counted = let e = was.has_tried.counted in omega (arith, e);
      unlike = pairs_cons (λ (a b : List Command). a ≢ b) commands before unlike_now was.has_tried.unlike;
      tried = All-cons (IsTried requests names questions told) commands before now was.has_tried.tried;
      apart = was.has_tried.apart;
      left = λ k d w.
          All-cons (λ (l : List Command). ¬ (Follows requests commands l (get_or untried k d))) commands before
          (was.aside k d w commands whole) (was.has_tried.left k d w);
      in_reach = λ k d w l f.
          All-cons (λ (c : List Command). take (length c) l ≡ c → AreOpen questions (length names) told c) commands before
          (λ e. absurd (was.aside k d w l e f)) (was.has_tried.in_reach k d w l f);
    }

    -- and choices are left behind them
    module _ (places : List ℕ) (new : List Branch) (unlike : AreUnlike requests places)
        (is : new ≡ untried ++ branches_at (length commands) places) (opened : AreOpen questions (length names) told commands) where
      abbrev slot : ℕ
      slot = length commands

      apart_there : (a b : ℕ) → Unit {0} → Unit {0} → slice_get requests a ≢ slice_get requests b
          → AreApart requests commands (branch_at slot a) (branch_at slot b)
      apart_there a b ha hb h l f g =
          let e : Some (command.Request f.request) ≡ Some (command.Request g.request) = sym f.takes ∙ g.takes in
          let same : f.request ≡ g.request = cc in
          h (f.there ∙ ap (λ (r : Submission). Some r) same ∙ sym g.there)

      apart_now : AllPairs (AreApart requests commands) (untried ++ branches_at slot places)
      apart_now =
          pairs_append (AreApart requests commands) untried (branches_at slot places) was.has_tried.apart
          (pairs_map (AreApart requests commands) (branch_at slot) places
          (pairs_weaker (λ (p : ℕ). Unit {0}) (λ (a b : ℕ). slice_get requests a ≢ slice_get requests b)
          (λ (a b : ℕ). AreApart requests commands (branch_at slot a) (branch_at slot b)) apart_there places (λ k d w. tt) unlike))
          (λ k d w. all_at (AreApart requests commands (get_or untried k d)) slot places
          (λ place l f g. was.aside k d w l (g.begins ∙ whole) f))

      left_there : (place : ℕ) → All (λ (l : List Command). ¬ (Follows requests commands l (branch_at slot place))) (commands ∷ before)
      left_there place =
          All-cons (λ (l : List Command). ¬ (Follows requests commands l (branch_at slot place))) commands before
          (λ f. let e : None ≡ Some (command.Request f.request) = sym (slice_get_past commands slot (omega arith)) ∙ f.takes in cc)
          (All-weaker (λ (l : List Command). take (length commands) l ≢ commands)
          (λ (l : List Command). ¬ (Follows requests commands l (branch_at slot place))) (λ l h f. h (f.begins ∙ whole)) before was.fresh)

      abbrev InReach : Branch → Type 0
      InReach b = (l : List Command) → Follows requests commands l b → IsInReach questions (length names) told (commands ∷ before) l

      reach_there : (place : ℕ) → InReach (branch_at slot place)
      reach_there place l f =
          All-cons (λ (c : List Command). take (length c) l ≡ c → AreOpen questions (length names) told c) commands before (λ e. opened)
          (reach_on questions (length names) told before commands l (f.begins ∙ whole) was.fresh was.in_reach)

      pub tried_before : HasTried requests names questions told (count + 1) commands new
      unfolding tried_now
      tried_before =
          subst (HasTried requests names questions told (count + 1) commands) (sym is)
          (record {
            choices = tried_now.choices;
            counted = tried_now.counted;
            unlike = tried_now.unlike;
            tried = tried_now.tried;
            apart = apart_now;
            left = All-append (λ (b : Branch). All (λ (l : List Command). ¬ (Follows requests commands l b)) (commands ∷ before))
                untried (branches_at slot places) tried_now.left
                (all_at (λ (b : Branch). All (λ (l : List Command). ¬ (Follows requests commands l b)) (commands ∷ before)) slot places
                left_there);
            in_reach = All-append InReach untried (branches_at slot places) tried_now.in_reach (all_at InReach slot places reach_there);
          })

  -- ---- what is found where the commands are looked at
  pub contradicted_fails : (size : ℕ) (commands : List Command) (latest : Option Contradiction) (c : Contradiction)
      → IsContradiction questions size commands told latest c → AreNotEnough questions size told commands
  contradicted_fails size commands latest c h =
      are_contradicted (
        c.at,
        h.line,
        slice_get_within told c.at h.line h.there,
        get_or_from_slice_get told c.at h.line h.line h.there,
        h.contradicts,
      )

  -- ---- commands are added, and looked at
  module _ (s : Search) (new : Vec Command Global) (count : ℕ) (ext : IsExtended requests names s.commands.items new.items)
      (e : IsEntering requests names questions told s)
      (learnt : AreLearnt names (length s.commands.items) → AreLearnt names (length new.items))
      (was : IsNext requests names questions told count s.commands.items s.untried.items) where
    pub next_extended : IsNext requests names questions told count new.items s.untried.items
    next_extended =
        next_still s.commands.items new.items s.untried.items count ext
        (All-weaker (IsChoice requests names (length s.commands.items)) (λ (b : Branch). b.slot ≤ length s.commands.items) (λ b h. h.within)
        s.untried.items e.state.choices) was

    pub tried_extended : (next : Option (ℕ × ℕ)) → IsStop requests names (length new.items) next
        → AreNotEnough questions (length names) told new.items → IsTried requests names questions told new.items
    tried_extended next stops fails = record {
      begun = extended_begun requests names s.commands.items new.items e.state.begun ext;
      learnt = learnt e.state.learnt;
      next = next;
      stops = stops;
      fails = fails;
    }

  -- ---- the next choice
  module _ (commands new : List Command) (rest : List Branch) (b : Branch) (r : Submission) (count : ℕ)
      (order : AreAscending (rest ++ b ∷ [])) (choice : IsChoice requests names (length commands) b)
      (there : slice_get requests b.place ≡ Some r) (is : new ≡ take b.slot commands ++ command.Request r ∷ [])
      (was : HasTried requests names questions told count commands (rest ++ b ∷ [])) where
    front_size : length (take b.slot commands) ≡ b.slot
    front_size = length-take-le b.slot commands choice.within

    size : length new ≡ b.slot + 1
    size =
        let pushed = length_push (take b.slot commands) (command.Request r) in
        let same : length new ≡ length (take b.slot commands ++ command.Request r ∷ []) = ap length is in
        omega (arith, front_size, pushed, same)

    same_front : (n : ℕ) → n ≤ b.slot → take n new ≡ take n commands
    same_front n h =
        ap (λ (l : List Command). take n l) is
        ∙ take_front n (take b.slot commands) (command.Request r ∷ []) (omega (arith, h, front_size))
        ∙ take_take n b.slot commands h

    -- a list that begins so is one of the choice
    follows_choice : (l : List Command) → take (length new) l ≡ new → Follows requests commands l b
    follows_choice l e = record {
      request = r;
      there = there;
      begins = sym (take_take b.slot (length new) l (omega (arith, size))) ∙ ap (λ (k : List Command). take b.slot k) e
          ∙ same_front b.slot (omega arith);
      takes = sym (get_take (length new) l b.slot (omega (arith, size))) ∙ ap (λ (k : List Command). slice_get k b.slot) (e ∙ is)
          ∙ get_last (take b.slot commands) b.slot (command.Request r) front_size;
    }

    earlier : All (λ (c : Branch). c.slot ≤ b.slot) rest
    earlier = ascending_last rest b order

    back_then : (l : List Command) (c : Branch) → c.slot ≤ b.slot → Follows requests new l c → Follows requests commands l c
    back_then l c h f = follows_same requests new commands l c (same_front c.slot h) f

    abbrev Spared : Branch → Type 0
    Spared c = All (λ (l : List Command). ¬ (Follows requests commands l c)) was.choices

    abbrev Reached : Branch → Type 0
    Reached c = (l : List Command) → Follows requests commands l c → IsInReach questions (length names) told was.choices l

    pub next_choice : IsNext requests names questions told count new rest
    next_choice = record {
      has_tried = record {
        choices = was.choices;
        counted = was.counted;
        unlike = was.unlike;
        tried = was.tried;
        apart = pairs_weaker (λ (c : Branch). c.slot ≤ b.slot) (AreApart requests commands) (AreApart requests new)
            (λ c d hc hd h l f g. h l (back_then l c hc f) (back_then l d hd g)) rest earlier
            (pairs_front (AreApart requests commands) rest b was.apart);
        left = λ k d w.
            All-weaker (λ (l : List Command). ¬ (Follows requests commands l (get_or rest k d)))
            (λ (l : List Command). ¬ (Follows requests new l (get_or rest k d)))
            (λ l h f. h (back_then l (get_or rest k d) (earlier k d w) f)) was.choices (all_front Spared rest b was.left k d w);
        in_reach = λ k d w l f. all_front Reached rest b was.in_reach k d w l (back_then l (get_or rest k d) (earlier k d w) f);
      };
      fresh = All-weaker (λ (l : List Command). ¬ (Follows requests commands l b)) (λ (l : List Command). take (length new) l ≢ new)
          (λ l h e. h (follows_choice l e)) was.choices (all_last Spared rest b was.left);
      in_reach = all_last Reached rest b was.in_reach new (follows_choice new (take_all (length new) new (omega arith)));
      aside = λ k d w l e f.
          pairs_last (AreApart requests commands) rest b was.apart k d w l (back_then l (get_or rest k d) (earlier k d w) f)
          (follows_choice l e);
    }

    -- many were tried before it
    pub many_tried : 65536 < count → AreBegun requests names commands → AreLearnt names (length commands)
        → AreManyTried requests names questions told r.client r.number
    many_tried many begun learnt = record {
      count = count;
      many = many;
      commands = new;
      untried = rest;
      begun = begun_next requests names commands begun b r new choice there is;
      learnt = learnt_next requests names commands begun b r new choice there is learnt;
      next = next_choice;
      has_request =
          let here : slice_get new b.slot ≡ Some (command.Request r) =
          ap (λ (k : List Command). slice_get k b.slot) is ∙ get_last (take b.slot commands) b.slot (command.Request r) front_size in (
            b.slot,
            command.Request r,
            slice_get_within new b.slot (command.Request r) here,
            get_or_from_slice_get new b.slot (command.Request r) (command.Request r) here,
            refl,
          );
    }

  -- the last of the choices that are left is a further one
  pub last_left : (s : Search) → IsLeaving requests names questions told s → (b : Branch) (r : Submission)
      → slice_get s.untried.items (length s.untried.items - 1) ≡ Some b → slice_get requests b.place ≡ Some r → (count : ℕ)
      → 65536 < count → HasTried requests names questions told count s.commands.items s.untried.items
      → AreManyTried requests names questions told r.client r.number
  last_left s e b r last there count many tried =
      let rest : List Branch = take (length s.untried.items - 1) s.untried.items in
      let is : s.untried.items ≡ rest ++ b ∷ [] = last_there s.untried.items b last in
      many_tried s.commands.items (take b.slot s.commands.items ++ command.Request r ∷ []) rest b r count
      (subst AreAscending is e.state.ascending)
      (all_last (IsChoice requests names (length s.commands.items)) rest b
      (subst (All (IsChoice requests names (length s.commands.items))) is e.state.choices))
      there refl (subst (HasTried requests names questions told count s.commands.items) is tried) many e.state.begun e.state.learnt
