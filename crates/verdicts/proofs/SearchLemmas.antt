-- How a search among choices goes on, and what it leaves behind.
use Rattle.std.proofs.Common.{Global, Vec, ◌≡◌, ℕ, zero, suc, ◌+◌, ◌-◌, ◌<◌, ◌≤◌, ◌⊎◌, inl, inr, List, [], ◌∷◌, ◌++◌, length, map, min, take, set, All, Contains, Option, Some, None, get_or, slice_get, refl, sym, ap, subst, ◌∙◌, arith}
use Rattle.std.proofs.Math.ListN.{length-set}
use Rattle.std.proofs.lemmas.Bool.{cases_eq, cases_lt}
use Rattle.std.proofs.lemmas.List.{append_assoc, map-append, take_all, take_more, length_push, length-take, length-take-le}
use Rattle.std.proofs.lemmas.List.Elements.{All-append, All-cons, All-contains, All-contains_itself, All-head, All-map, All-nil, All-push, All-set, All-tail, All-take, All-weaker, Contains-append_left, Contains-append_right, Contains-push, Contains-push_cases}
use Rattle.std.proofs.lemmas.Option.{slice_get_within, slice_get-get_or, slice_get-map, get_or_from_slice_get}
use Rattle.std.specs.Option.{option_map}
use Rattle.sessions.specs.declared.command.Command.{Command}
use Rattle.sessions.specs.declared.command.Command.TheVariants as command
use Rattle.sessions.specs.declared.submission.Submission.{Submission}
use Rattle.verdicts.specs.Execution.{IsContradiction, IsLater}
use Rattle.verdicts.specs.Explaining.{IsAmong, HasTold, name_of}
use Rattle.verdicts.specs.Placement.{IsOnly}
use Rattle.verdicts.specs.RequestIndex.{IsAmbiguous, IsOf}
use Rattle.verdicts.specs.Search.{AreLearnt, IsPossible, HasAllTold, IsSolved, AreBegun, IsOperation, AreOperations, IsChoice, branch_at, branches_at, AreAscending, Follows, IsExtended, IsLatest, IsListed, IsBehind, IsWithin, IsRefuted, IsUnlearnt, IsLeft, is_refuted, is_untried, IsEntered, is_left, is_begun, IsSearch, IsEntering, IsLeaving, IsLast, IsUndecided}
use Rattle.verdicts.specs.Verdicts.{AreOpen, BeginsWith}
use Rattle.verdicts.specs.declared.examination.Contradiction.{Contradiction}
use Rattle.verdicts.specs.declared.lines.Name.{Name}
use Rattle.verdicts.specs.declared.lines.Name.TheVariants.{NoOp, Request}
use Rattle.verdicts.specs.declared.lines.Question.{Question}
use Rattle.verdicts.specs.declared.lines.ToldLine.{ToldLine}
use Rattle.verdicts.specs.declared.search.Branch.{Branch}
use Rattle.verdicts.specs.declared.search.Search.{Search}
use Rattle.verdicts.proofs.FindingLemmas.{take_take}
use Rattle.verdicts.proofs.IndexLemmas.{contains_from_get}
use Rattle.verdicts.proofs.NameLemmas.{same_client, same_number, same_name}
use Rattle.verdicts.proofs.PlaceLemmas.{all_front, all_last, get_set_same, get_set_other, named_there, not_both}

-- ---- the first elements
-- with the next one
pub one_more : {X : Type 0} (xs : List X) (k : ℕ) (x : X) → slice_get xs k ≡ Some x → take (k + 1) xs ≡ take k xs ++ x ∷ []
one_more xs k x e =
    take_more xs k x (slice_get_within xs k x e) ∙ ap (λ y. take k xs ++ y ∷ []) (get_or_from_slice_get xs k x x e)

pub take_front : {X : Type 0} (n : ℕ) (xs ys : List X) → n ≤ length xs → take n (xs ++ ys) ≡ take n xs
take_front zero xs ys h = refl
take_front (suc n) [] ys h = absurd (omega (arith, h))
take_front (suc n) (x ∷ xs) ys h = ap (λ l. x ∷ l) (take_front n xs ys (omega (arith, h)))

take_set : {X : Type 0} (xs : List X) (i : ℕ) (x : X) → i < length xs → take (suc i) (set xs i x) ≡ take i xs ++ x ∷ []
take_set [] i x h = absurd (omega (arith, h))
take_set (y ∷ xs) zero x h = refl
take_set (y ∷ xs) (suc i) x h = ap (λ l. y ∷ l) (take_set xs i x (omega (arith, h)))

pub all_less : {X : Type 0} (P : X → Type 0) (n m : ℕ) (xs : List X) → n ≤ m → All P (take m xs) → All P (take n xs)
all_less P n m xs h all = subst (All P) (take_take n m xs h) (All-take P n (take m xs) all)

contains_map : {X Y : Type 0} (f : X → Y) (xs : List X) (x : X) → Contains xs x → Contains (map f xs) (f x)
contains_map f xs x (k, within, e) =
    let there : slice_get xs k ≡ Some x = slice_get-get_or xs k x within ∙ ap (λ y. Some y) e in
    contains_from_get (map f xs) k (f x) (slice_get-map f xs k ∙ ap (λ o. option_map f o) there)

pub no_element : {X : Type 0} (x : X) → Contains [] x → ⊥
no_element x (k, within, e) = omega (arith, within)

-- ---- slots in ascending order
abbrev IsUpTo : ℕ → Branch → Type 0
IsUpTo slot b = b.slot ≤ slot

ascending_front : (bs : List Branch) (b : Branch) → AreAscending (bs ++ b ∷ []) → AreAscending bs
ascending_front [] b h = tt
ascending_front (c ∷ bs) b h = (all_front (λ (d : Branch). c.slot ≤ d.slot) bs b h.0, ascending_front bs b h.1)

pub ascending_last : (bs : List Branch) (b : Branch) → AreAscending (bs ++ b ∷ []) → All (IsUpTo b.slot) bs
ascending_last [] b h = All-nil (IsUpTo b.slot)
ascending_last (c ∷ bs) b h =
    All-cons (IsUpTo b.slot) c bs (all_last (λ (d : Branch). c.slot ≤ d.slot) bs b h.0) (ascending_last bs b h.1)

all_places : (slot : ℕ) (places : List ℕ) → All (λ (place : ℕ). Unit {0}) places
all_places slot [] = All-nil (λ (place : ℕ). Unit {0})
all_places slot (p ∷ places) = All-cons (λ (place : ℕ). Unit {0}) p places tt (all_places slot places)

-- what holds of the slot holds of all branches there
pub all_at : (P : Branch → Type 0) (slot : ℕ) (places : List ℕ) → ((place : ℕ) → P (branch_at slot place)) → All P (branches_at slot places)
all_at P slot places each =
    All-map P (branch_at slot) places
    (All-weaker (λ (place : ℕ). Unit {0}) (λ (place : ℕ). P (branch_at slot place)) (λ place h. each place) places (all_places slot places))

ascending_at : (slot : ℕ) (places : List ℕ) → AreAscending (branches_at slot places)
ascending_at slot [] = tt
ascending_at slot (p ∷ places) = (all_at (λ (c : Branch). slot ≤ c.slot) slot places (λ place. omega arith), ascending_at slot places)

ascending_more : (bs : List Branch) (slot : ℕ) (places : List ℕ) → AreAscending bs → All (IsUpTo slot) bs
    → AreAscending (bs ++ branches_at slot places)
ascending_more [] slot places h below = ascending_at slot places
ascending_more (b ∷ bs) slot places h below =
    let first : b.slot ≤ slot = All-head (IsUpTo slot) b bs below in (
      All-append (λ (c : Branch). b.slot ≤ c.slot) bs (branches_at slot places) h.0
          (all_at (λ (c : Branch). b.slot ≤ c.slot) slot places (λ place. first)),
      ascending_more bs slot places h.1 (All-tail (IsUpTo slot) b bs below),
    )

-- ---- commands of which there is no choice
module _ (requests : List Submission) (names : List (Option Name)) where
  -- what a possible list has at a slot with a name
  possible_there : (l : List Command) → IsPossible requests names l → (slot : ℕ) (wanted : Name)
      → slice_get names slot ≡ Some (Some wanted)
      → (c : Command) × (slice_get l slot ≡ Some c) × IsAmong requests c × (name_of c ≡ wanted)
  possible_there l possible slot wanted there =
      let (c, here, named) = named_there (slice_get l slot) wanted (possible.named slot wanted there) in
      (c, here, All-contains (IsAmong requests) l c possible.among (contains_from_get l slot c here), named)

  pub extended_by_none : (commands : List Command) → length commands ≤ length names → IsExtended requests names commands commands
  extended_by_none commands h = record {
    grows = omega arith;
    within = h;
    keeps = take_all (length commands) commands (omega arith);
    forced = λ l possible begins. begins;
  }

  pub extended_by_one : (old now : List Command) (wanted : Name) (c : Command) → IsExtended requests names old now
      → slice_get names (length now) ≡ Some (Some wanted) → IsOnly requests wanted c
      → IsExtended requests names old (now ++ c ∷ [])
  extended_by_one old now wanted c was there only =
      let more : length (now ++ c ∷ []) ≡ length now + 1 = length_push now c in
      let below : length now < length names = slice_get_within names (length now) (Some wanted) there in
      let grows : length old ≤ length now = was.grows in
      record {
        grows = omega (arith, more, grows);
        within = omega (arith, more, below);
        keeps = take_front (length old) now (c ∷ []) grows ∙ was.keeps;
        forced = λ l possible begins.
            let (d, here, among, named) = possible_there l possible (length now) wanted there in
            let same : d ≡ c = only.only d among named in
            let taken : take (length now + 1) l ≡ take (length now) l ++ d ∷ [] = one_more l (length now) d here in
            subst (λ n. take n l ≡ now ++ c ∷ []) (sym more)
            (taken ∙ ap (λ (k : List Command). k ++ d ∷ []) (was.forced l possible begins) ∙ ap (λ (x : Command). now ++ x ∷ []) same);
      }

  pub extended_begun : (old new : List Command) → AreBegun requests names old → IsExtended requests names old new
      → AreBegun requests names new
  extended_begun old new begun ext = record {
    list = begun.list;
    possible = begun.possible;
    begins = ext.forced begun.list begun.possible begun.begins;
  }

  pub begun_within : (commands : List Command) → AreBegun requests names commands → length commands ≤ length names
  begun_within commands begun =
      let taken : length (take (length commands) begun.list) ≡ min (length commands) (length begun.list) =
      length-take (length commands) begun.list in
      let same : length (take (length commands) begun.list) ≡ length commands = ap length begun.begins in
      let slots : length begun.list ≡ length names = begun.possible.slots in
      omega (arith, taken, same, slots)

  kept_below : (old new : List Command) → IsExtended requests names old new → (n : ℕ) → n ≤ length old → take n new ≡ take n old
  kept_below old new ext n h = sym (take_take n (length old) new h) ∙ ap (λ (k : List Command). take n k) ext.keeps

  -- ---- the request of a choice is taken
  module _ (commands : List Command) (begun : AreBegun requests names commands) (b : Branch) (r : Submission) (new : List Command)
      (choice : IsChoice requests names (length commands) b) (there : slice_get requests b.place ≡ Some r)
      (now : new ≡ take b.slot commands ++ command.Request r ∷ []) where
    pub same_request : (q : Submission) → slice_get requests b.place ≡ Some q → q ≡ r
    same_request q h = let f : Some q ≡ Some r = sym h ∙ there in cc

    named_so : slice_get names b.slot ≡ Some (Some (Request r.client r.number))
    named_so =
        subst (λ (q : Submission). slice_get names b.slot ≡ Some (Some (Request q.client q.number)))
        (same_request choice.request choice.there) choice.named

    pub size_now : length new ≡ b.slot + 1
    size_now =
        let taken : length (take b.slot commands) ≡ b.slot = length-take-le b.slot commands choice.within in
        let pushed : length (take b.slot commands ++ command.Request r ∷ []) ≡ length (take b.slot commands) + 1 =
        length_push (take b.slot commands) (command.Request r) in
        let same : length new ≡ length (take b.slot commands ++ command.Request r ∷ []) = ap length now in
        omega (arith, taken, pushed, same)

    -- below the slot nothing changes
    pub same_below : (n : ℕ) → n ≤ b.slot → take n new ≡ take n commands
    same_below n h =
        let taken : length (take b.slot commands) ≡ b.slot = length-take-le b.slot commands choice.within in
        ap (λ (l : List Command). take n l) now
        ∙ take_front n (take b.slot commands) (command.Request r ∷ []) (omega (arith, h, taken))
        ∙ take_take n b.slot commands h

    -- a list that has the request at the slot, and is else the same
    abbrev old : List Command
    old = begun.list

    abbrev changed : List Command
    changed = set old b.slot (command.Request r)

    below : b.slot < length old
    below =
        let within : b.slot < length names = slice_get_within names b.slot (Some (Request r.client r.number)) named_so in
        let size : length old ≡ length names = begun.possible.slots in
        omega (arith, within, size)

    named_still : (i : ℕ) (wanted : Name) → slice_get names i ≡ Some (Some wanted) → option_map name_of (slice_get changed i) ≡ Some wanted
    named_still i wanted h = elim (cases_eq i b.slot) [
      | inl same ↦
          let f : Some (Some (Request r.client r.number)) ≡ Some (Some wanted) =
          sym named_so ∙ subst (λ (j : ℕ). slice_get names j ≡ Some (Some wanted)) same h in
          let g : Some (Request r.client r.number) ≡ Some wanted = cc in
          ap (λ (j : ℕ). option_map name_of (slice_get changed j)) same
          ∙ ap (λ (o : Option Command). option_map name_of o) (get_set_same old b.slot (command.Request r) below) ∙ g
      | inr apart ↦
          ap (λ (o : Option Command). option_map name_of o) (get_set_other old b.slot i (command.Request r) apart)
          ∙ begun.possible.named i wanted h
    ]

    possible_still : IsPossible requests names changed
    possible_still = record {
      slots = length-set old b.slot (command.Request r) ∙ begun.possible.slots;
      among = All-set (IsAmong requests) old b.slot (command.Request r) (contains_from_get requests b.place r there)
          begun.possible.among;
      named = named_still;
    }

    begins_still : take (length new) changed ≡ new
    begins_still =
        let front : take b.slot old ≡ take b.slot commands =
        sym (take_take b.slot (length commands) old choice.within)
        ∙ ap (λ (l : List Command). take b.slot l) begun.begins in
        let count = size_now in
        let size : length new ≡ suc b.slot = omega (arith, count) in
        subst (λ (n : ℕ). take n changed ≡ new) (sym size)
        (take_set old b.slot (command.Request r) below ∙ ap (λ (l : List Command). l ++ command.Request r ∷ []) front ∙ sym now)

    pub begun_next : AreBegun requests names new
    begun_next = record { list = changed; possible = possible_still; begins = begins_still }

    pub learnt_next : AreLearnt names (length commands) → AreLearnt names (length new)
    learnt_next was slot lower free = elim (cases_lt slot b.slot) [
      | inl earlier ↦ let within = choice.within in was slot (omega (arith, earlier, within)) free
      | inr upper ↦
          let same : slot ≡ b.slot = omega (arith, upper, lower, size_now) in
          not_both (slice_get names slot) (Request r.client r.number) free
          (subst (λ (i : ℕ). slice_get names i ≡ Some (Some (Request r.client r.number))) (sym same) named_so)
    ]

-- a list that begins with the commands
begins_with : (requests : List Submission) (names : List (Option Name)) (commands l : List Command) → IsPossible requests names l
    → take (length commands) l ≡ commands → BeginsWith (length names) commands l
begins_with requests names commands l possible e = record { slots = possible.slots; begins = e }

-- ---- refuted lists
refuted_later : (questions : List Question) (told : List ToldLine) (latest : Option Contradiction) (c : Contradiction) (l : List Command)
    → IsLater c.at latest → IsRefuted questions told latest l → IsRefuted questions told (Some c) l
refuted_later questions told None c l later h = absurd h
refuted_later questions told (Some d) c l later h = λ all.
    h (all_less (λ (line : ToldLine). HasTold questions l line.told) (d.at + 1) (c.at + 1) told (omega (arith, later)) all)

refuted_earlier : (questions : List Question) (told : List ToldLine) (latest : Option Contradiction) (c : Contradiction)
    (l : List Command) → ¬ (IsLater c.at latest) → IsRefuted questions told (Some c) l → IsRefuted questions told latest l
refuted_earlier questions told None c l other h = absurd (other tt)
refuted_earlier questions told (Some d) c l other h = λ all.
    let upto : c.at ≤ d.at = elim (cases_lt d.at c.at) [ inl below ↦ absurd (other below) | inr above ↦ above ] in
    h (all_less (λ (line : ToldLine). HasTold questions l line.told) (c.at + 1) (d.at + 1) told (omega (arith, upto)) all)

module _ (requests : List Submission) (names : List (Option Name)) (questions : List Question) (told : List ToldLine) where
  -- ---- commands are added
  module _ (s : Search) (new : Vec Command Global) (ext : IsExtended requests names s.commands.items new.items)
      (learnt : AreLearnt names (length s.commands.items) → AreLearnt names (length new.items))
      (was : IsSearch requests names questions told s) where
    choice_still : (b : Branch) → IsChoice requests names (length s.commands.items) b → IsChoice requests names (length new.items) b
    choice_still b h = record {
      request = h.request;
      there = h.there;
      within = let grows : length s.commands.items ≤ length new.items = ext.grows in let within : b.slot ≤ length s.commands.items = h.within in omega (arith, grows, within);
      named = h.named;
      ambiguous = h.ambiguous;
    }

    follows_still : (l : List Command) (b : Branch) → Contains s.untried.items b → Follows requests s.commands.items l b
        → Follows requests new.items l b
    follows_still l b there h =
        let choice = All-contains (IsChoice requests names (length s.commands.items)) s.untried.items b was.choices there in
        record {
          request = h.request;
          there = h.there;
          begins = h.begins ∙ sym (kept_below requests names s.commands.items new.items ext b.slot choice.within);
          takes = h.takes;
        }

    left_still : (l : List Command) → IsLeft requests questions told s l → IsLeft requests questions told (record s { commands = new }) l
    left_still l (is_refuted h) = is_refuted h
    left_still l (is_untried b there f) = is_untried b there (follows_still l b there f)

    entered_still : (l : List Command) → IsPossible requests names l → IsEntered requests questions told s l
        → IsEntered requests questions told (record s { commands = new }) l
    entered_still l possible (is_left h) = is_left (left_still l h)
    entered_still l possible (is_begun e) = is_begun (ext.forced l possible e)

    searching_still : IsSearch requests names questions told (record s { commands = new })
    searching_still = record {
      begun = extended_begun requests names s.commands.items new.items was.begun ext;
      learnt = learnt was.learnt;
      choices = All-weaker (IsChoice requests names (length s.commands.items)) (IsChoice requests names (length new.items)) choice_still
          s.untried.items was.choices;
      ascending = was.ascending;
      latest = was.latest;
      unlearnt = was.unlearnt;
    }

  pub entering_still : (s : Search) (new : Vec Command Global) → IsExtended requests names s.commands.items new.items
      → (AreLearnt names (length s.commands.items) → AreLearnt names (length new.items)) → IsEntering requests names questions told s → IsEntering requests names questions told (record s { commands = new })
  entering_still s new ext learnt e = record {
    state = searching_still s new ext learnt e.state;
    entered = λ none l possible. entered_still s new ext learnt e.state l possible (e.entered none l possible);
  }

  -- all lines are explained
  pub all_explained : (s : Search) → IsEntering requests names questions told s
      → ((l : List Command) → BeginsWith (length names) s.commands.items l → HasAllTold questions told l)
      → IsSolved requests names questions told
  all_explained s e each =
      let begun = e.state.begun in
      record {
        list = begun.list;
        possible = begun.possible;
        explains = each begun.list (begins_with requests names s.commands.items begun.list begun.possible begun.begins);
      }

  -- ---- a choice is left
  module _ (s : Search) (c : Contradiction) (e : IsEntering requests names questions told s)
      (con : IsContradiction questions (length names) s.commands.items told s.latest c) where
    refuted_now : (l : List Command) → IsPossible requests names l → take (length s.commands.items) l ≡ s.commands.items
        → IsRefuted questions told (Some c) l
    refuted_now l possible eq = λ all.
        con.contradicts l (begins_with requests names s.commands.items l possible eq)
        (all_last (λ (line : ToldLine). HasTold questions l line.told) (take c.at told) con.line
        (subst (All (λ (line : ToldLine). HasTold questions l line.told)) (one_more told c.at con.line con.there) all))

    left_later : IsLater c.at s.latest → (l : List Command) → IsPossible requests names l → IsEntered requests questions told s l
        → IsLeft requests questions told (record s { latest = Some c }) l
    left_later later l possible (is_left (is_refuted h)) = is_refuted (refuted_later questions told s.latest c l later h)
    left_later later l possible (is_left (is_untried b there f)) = is_untried b there f
    left_later later l possible (is_begun eq) = is_refuted (refuted_now l possible eq)

    pub leaving_later : IsLater c.at s.latest → IsLeaving requests names questions told (record s { latest = Some c })
    leaving_later later =
        let begun = e.state.begun in
        record {
          state = record {
            begun = begun;
            learnt = e.state.learnt;
            choices = e.state.choices;
            ascending = e.state.ascending;
            latest = (
              slice_get_within told c.at con.line con.there,
              record {
                list = begun.list;
                possible = begun.possible;
                explains = con.explains later begun.list
                    (begins_with requests names s.commands.items begun.list begun.possible begun.begins);
              },
            );
            unlearnt = e.state.unlearnt;
          };
          left = λ none l possible. left_later later l possible (e.entered none l possible);
        }

    left_earlier : ¬ (IsLater c.at s.latest) → (l : List Command) → IsPossible requests names l → IsEntered requests questions told s l
        → IsLeft requests questions told s l
    left_earlier other l possible (is_left h) = h
    left_earlier other l possible (is_begun eq) = is_refuted (refuted_earlier questions told s.latest c l other (refuted_now l possible eq))

    pub leaving_earlier : ¬ (IsLater c.at s.latest) → IsLeaving requests names questions told s
    leaving_earlier other = record {
      state = e.state;
      left = λ none l possible. left_earlier other l possible (e.entered none l possible);
    }

  -- ---- a slot of which no line tells
  pub leaving_unlearnt : (s : Search) → IsEntering requests names questions told s
      → slice_get names (length s.commands.items) ≡ Some None → AreOpen questions (length names) told s.commands.items
      → IsLeaving requests names questions told (record s { unlearnt = Some (length s.commands.items) })
  leaving_unlearnt s e free opened = record {
    state = record {
      begun = e.state.begun;
      learnt = e.state.learnt;
      choices = e.state.choices;
      ascending = e.state.ascending;
      latest = e.state.latest;
      unlearnt = record {
        unlearnt = free;
        learnt = e.state.learnt;
        commands = s.commands.items;
        ends_there = refl;
        begun = e.state.begun;
        open_there = opened;
      };
    };
    left = λ none l possible. absurd (let h : Some (length s.commands.items) ≡ None = none in cc);
  }

  -- ---- choices are added
  module _ (s : Search) (client number : ℕ) (places : List ℕ) (new : Vec Branch Global) (e : IsEntering requests names questions told s)
      (named : slice_get names (length s.commands.items) ≡ Some (Some (Request client number)))
      (ambiguous : IsAmbiguous requests client number) (operations : AreOperations requests client number places)
      (is : new.items ≡ s.untried.items ++ branches_at (length s.commands.items) places) where
    abbrev slot : ℕ
    slot = length s.commands.items

    choice_of : (place : ℕ) → IsOperation requests client number place → IsChoice requests names slot (branch_at slot place)
    choice_of place op = record {
      request = op.request;
      there = op.there;
      within = omega arith;
      named = named ∙ ap (λ (n : Name). Some (Some n)) (sym (same_name op.request.client op.request.number client number op.is_of.of_client op.is_of.of_number));
      ambiguous = subst (λ (m : ℕ). IsAmbiguous requests m op.request.number) (sym op.is_of.of_client)
          (subst (λ (m : ℕ). IsAmbiguous requests client m) (sym op.is_of.of_number) ambiguous);
    }

    choices_now : All (IsChoice requests names slot) new.items
    choices_now =
        subst (All (IsChoice requests names slot)) (sym is)
        (All-append (IsChoice requests names slot) s.untried.items (branches_at slot places) e.state.choices
        (All-map (IsChoice requests names slot) (branch_at slot) places
        (All-weaker (IsOperation requests client number) (λ (place : ℕ). IsChoice requests names slot (branch_at slot place)) choice_of places
        operations.each)))

    ascending_now : AreAscending new.items
    ascending_now =
        subst AreAscending (sym is)
        (ascending_more s.untried.items slot places e.state.ascending
        (All-weaker (IsChoice requests names slot) (IsUpTo slot) (λ b h. h.within) s.untried.items e.state.choices))

    open_there : (b : Branch) → Contains (s.untried.items ++ branches_at slot places) b → Contains new.items b
    open_there b there = subst (λ (bs : List Branch). Contains bs b) (sym is) there

    left_at : (l : List Command) → take slot l ≡ s.commands.items → (c : Command) → slice_get l slot ≡ Some c → IsAmong requests c
        → name_of c ≡ Request client number → IsLeft requests questions told (record s { untried = new }) l
    left_at l eq command.NoOp here among same = absurd (let h : NoOp ≡ Request client number = same in cc)
    left_at l eq (command.Request r) here among same =
        let listed = operations.whole r among (record {
          of_client = same_client r.client r.number client number same;
          of_number = same_number r.client r.number client number same;
        }) in
        let whole : take slot s.commands.items ≡ s.commands.items = take_all slot s.commands.items (omega arith) in
        is_untried (branch_at slot listed.place)
        (open_there (branch_at slot listed.place)
        (Contains-append_right s.untried.items (branches_at slot places) (branch_at slot listed.place)
        (contains_map (branch_at slot) places listed.place listed.listed)))
        (record { request = r; there = listed.there; begins = eq ∙ sym whole; takes = here })

    left_now : (l : List Command) → IsPossible requests names l → IsEntered requests questions told s l
        → IsLeft requests questions told (record s { untried = new }) l
    left_now l possible (is_left (is_refuted h)) = is_refuted h
    left_now l possible (is_left (is_untried b there f)) =
        is_untried b (open_there b (Contains-append_left s.untried.items (branches_at slot places) b there)) f
    left_now l possible (is_begun eq) =
        let (c, here, among, same) = possible_there requests names l possible slot (Request client number) named in
        left_at l eq c here among same

    pub leaving_choices : IsLeaving requests names questions told (record s { untried = new })
    leaving_choices = record {
      state = record {
        begun = e.state.begun;
        learnt = e.state.learnt;
        choices = choices_now;
        ascending = ascending_now;
        latest = e.state.latest;
        unlearnt = e.state.unlearnt;
      };
      left = λ none l possible. left_now l possible (e.entered none l possible);
    }

  -- ---- the next choice is tried
  module _ (s : Search) (b : Branch) (rest : Vec Branch Global) (r : Submission) (new : Vec Command Global)
      (e : IsLeaving requests names questions told s) (is : s.untried.items ≡ rest.items ++ b ∷ [])
      (there : slice_get requests b.place ≡ Some r)
      (now : new.items ≡ take b.slot s.commands.items ++ command.Request r ∷ []) where
    abbrev next : Search
    next = record s { commands = new; untried = rest }

    all_now : All (IsChoice requests names (length s.commands.items)) (rest.items ++ b ∷ [])
    all_now = subst (All (IsChoice requests names (length s.commands.items))) is e.state.choices

    order : AreAscending (rest.items ++ b ∷ [])
    order = subst AreAscending is e.state.ascending

    choice : IsChoice requests names (length s.commands.items) b
    choice = all_last (IsChoice requests names (length s.commands.items)) rest.items b all_now

    taken_size : length new.items ≡ b.slot + 1
    taken_size = size_now requests names s.commands.items e.state.begun b r new.items choice there now

    choice_next : (c : Branch) → IsChoice requests names (length s.commands.items) c → IsUpTo b.slot c
        → IsChoice requests names (length new.items) c
    choice_next c h upto = record {
      request = h.request;
      there = h.there;
      within = omega (arith, taken_size, upto);
      named = h.named;
      ambiguous = h.ambiguous;
    }

    choices_next : All (IsChoice requests names (length new.items)) rest.items
    choices_next =
        All-weaker (Contains rest.items) (IsChoice requests names (length new.items))
        (λ c here. choice_next c
        (All-contains (IsChoice requests names (length s.commands.items)) rest.items c
        (all_front (IsChoice requests names (length s.commands.items)) rest.items b all_now) here)
        (All-contains (IsUpTo b.slot) rest.items c (ascending_last rest.items b order) here))
        rest.items (All-contains_itself rest.items)

    left_next : (l : List Command) → IsLeft requests questions told s l → IsEntered requests questions told next l
    left_next l (is_refuted h) = is_left (is_refuted h)
    left_next l (is_untried c here f) = elim (Contains-push_cases rest.items b c (subst (λ (bs : List Branch). Contains bs c) is here)) [
      | inl earlier ↦
          let upto : c.slot ≤ b.slot = All-contains (IsUpTo b.slot) rest.items c (ascending_last rest.items b order) earlier in
          is_left (is_untried c earlier (record {
            request = f.request;
            there = f.there;
            begins = f.begins ∙ sym (same_below requests names s.commands.items e.state.begun b r new.items choice there now c.slot upto);
            takes = f.takes;
          }))
      | inr same ↦
          let g : Follows requests s.commands.items l b = subst (Follows requests s.commands.items l) (sym same) f in
          let here : slice_get l b.slot ≡ Some (command.Request r) =
          g.takes ∙ ap (λ (q : Submission). Some (command.Request q)) (same_request requests names s.commands.items e.state.begun b r new.items choice there now g.request g.there) in
          is_begun (subst (λ (n : ℕ). take n l ≡ new.items) (sym taken_size)
          (one_more l b.slot (command.Request r) here ∙ ap (λ (k : List Command). k ++ command.Request r ∷ []) g.begins ∙ sym now))
    ]

    pub entering_next : IsEntering requests names questions told (record s { commands = new; untried = rest })
    entering_next = record {
      state = record {
        begun = begun_next requests names s.commands.items e.state.begun b r new.items choice there now;
        learnt = learnt_next requests names s.commands.items e.state.begun b r new.items choice there now e.state.learnt;
        choices = choices_next;
        ascending = ascending_front rest.items b order;
        latest = e.state.latest;
        unlearnt = e.state.unlearnt;
      };
      entered = λ none l possible. left_next l (e.left none l possible);
    }

  -- ---- no choice is left
  left_same : (s : Search) (rest : Vec Branch Global) → s.untried.items ≡ rest.items → (l : List Command)
      → IsLeft requests questions told s l → IsLeft requests questions told (record s { untried = rest }) l
  left_same s rest is l (is_refuted h) = is_refuted h
  left_same s rest is l (is_untried b here f) = is_untried b (subst (λ (bs : List Branch). Contains bs b) is here) f

  pub leaving_same : (s : Search) (rest : Vec Branch Global) → IsLeaving requests names questions told s → s.untried.items ≡ rest.items
      → IsLeaving requests names questions told (record s { untried = rest })
  leaving_same s rest e is = record {
    state = record {
      begun = e.state.begun;
      learnt = e.state.learnt;
      choices = subst (All (IsChoice requests names (length s.commands.items))) is e.state.choices;
      ascending = subst AreAscending is e.state.ascending;
      latest = e.state.latest;
      unlearnt = e.state.unlearnt;
    };
    left = λ none l possible. left_same s rest is l (e.left none l possible);
  }

  module _ (s : Search) (e : IsLeaving requests names questions told s) where
    pub choice_left : (b : Branch) → Contains s.untried.items b → (r : Submission) → slice_get requests b.place ≡ Some r
        → IsUndecided requests names r.client r.number
    choice_left b here r there =
        let choice = All-contains (IsChoice requests names (length s.commands.items)) s.untried.items b e.state.choices here in
        let f : Some choice.request ≡ Some r = sym choice.there ∙ there in
        let same : choice.request ≡ r = cc in
        subst (λ (q : Submission). IsUndecided requests names q.client q.number) same
        (record { slot = b.slot; named = choice.named; ambiguous = choice.ambiguous })

    module _ (empty : s.untried.items ≡ []) (none : s.unlearnt ≡ None) where
      all_refuted : (l : List Command) → IsLeft requests questions told s l → IsRefuted questions told s.latest l
      all_refuted l (is_refuted h) = h
      all_refuted l (is_untried b here f) = absurd (no_element b (subst (λ (bs : List Branch). Contains bs b) empty here))

      pub each_refuted : (l : List Command) → IsPossible requests names l → IsRefuted questions told s.latest l
      each_refuted l possible = all_refuted l (e.left none l possible)

      pub last_contradiction : (c : Contradiction) (line : ToldLine) → s.latest ≡ Some c → slice_get told c.at ≡ Some line
          → IsLast requests names questions told line.place
      last_contradiction c line is there =
          let latest : IsLatest requests names questions told (Some c) = subst (IsLatest requests names questions told) is e.state.latest in
          record {
            before = c.at;
            line = line;
            there = there;
            at_place = refl;
            solved = latest.1;
            unsolved = λ sv.
                subst (λ (o : Option Contradiction). IsRefuted questions told o sv.list) is (each_refuted sv.list sv.possible) sv.explains;
          }

      pub not_none : s.latest ≡ None → ⊥
      not_none is =
          subst (λ (o : Option Contradiction). IsRefuted questions told o e.state.begun.list) is
          (each_refuted e.state.begun.list e.state.begun.possible)

-- ---- the operations of a client and number, with one request more
module _ (requests : List Submission) (client number : ℕ) (places : List ℕ) (place : ℕ) (r : Submission)
    (here : slice_get requests place ≡ Some r) (each : All (IsOperation requests client number) places)
    (whole : (q : Submission) → Contains (take place requests) q → IsOf client number q → IsListed requests places q) where
  one_of : (q : Submission) → Contains (take (place + 1) requests) q → Contains (take place requests) q ⊎ (r ≡ q)
  one_of q h = Contains-push_cases (take place requests) r q (subst (λ (l : List Submission). Contains l q) (one_more requests place r here) h)

  pub each_added : IsOf client number r → All (IsOperation requests client number) (places ++ place ∷ [])
  each_added is =
      All-push (IsOperation requests client number) places place each (record { request = r; there = here; is_of = is })

  pub whole_added : (q : Submission) → Contains (take (place + 1) requests) q → IsOf client number q
      → IsListed requests (places ++ place ∷ []) q
  whole_added q h is = elim (one_of q h) [
    | inl earlier ↦
        let was = whole q earlier is in
        record { place = was.place; listed = Contains-append_left places (place ∷ []) was.place was.listed; there = was.there }
    | inr same ↦
        record { place = place; listed = Contains-push places place; there = here ∙ ap (λ (x : Submission). Some x) same }
  ]

  pub whole_kept : (IsOf client number r → IsListed requests places r) → (q : Submission) → Contains (take (place + 1) requests) q
      → IsOf client number q → IsListed requests places q
  whole_kept listed q h is = elim (one_of q h) [
    | inl earlier ↦ whole q earlier is
    | inr same ↦ subst (IsListed requests places) same (listed (subst (IsOf client number) (sym same) is))
  ]

pub none_operations : (requests : List Submission) (client number : ℕ) (q : Submission) → Contains (take 0 requests) q
    → IsOf client number q → IsListed requests [] q
none_operations requests client number q h is = absurd (no_element q h)

-- ---- choices at a slot, with one more
pub branches_more : (slot : ℕ) (places : List ℕ) (i p : ℕ) (old : List Branch) → slice_get places i ≡ Some p
    → (old ++ branches_at slot (take i places)) ++ branch_at slot p ∷ [] ≡ old ++ branches_at slot (take (i + 1) places)
branches_more slot places i p old h =
    let more : branches_at slot (take (i + 1) places) ≡ branches_at slot (take i places) ++ branch_at slot p ∷ [] =
    ap (λ (l : List ℕ). branches_at slot l) (one_more places i p h) ∙ map-append (branch_at slot) (take i places) (p ∷ []) in
    append_assoc old (branches_at slot (take i places)) (branch_at slot p ∷ []) ∙ ap (λ (l : List Branch). old ++ l) (sym more)

-- ---- at the start
begins_none : (commands l : List Command) → commands ≡ [] → take (length commands) l ≡ commands
begins_none commands l e = subst (λ (k : List Command). take (length k) l ≡ k) (sym e) refl

pub entering_first : (requests : List Submission) (names : List (Option Name)) (questions : List Question) (told : List ToldLine)
    (s : Search) → s.commands.items ≡ [] → s.untried.items ≡ [] → s.latest ≡ None → s.unlearnt ≡ None
    → ((l : List Command) × IsPossible requests names l) → IsEntering requests names questions told s
entering_first requests names questions told s commands untried latest unlearnt (l, possible) = record {
  state = record {
    begun = record { list = l; possible = possible; begins = begins_none s.commands.items l commands };
    learnt = subst (λ (k : List Command). AreLearnt names (length k)) (sym commands) (λ slot below. absurd (omega (arith, below)));
    choices = subst (All (IsChoice requests names (length s.commands.items))) (sym untried)
        (All-nil (IsChoice requests names (length s.commands.items)));
    ascending = subst AreAscending (sym untried) tt;
    latest = subst (IsLatest requests names questions told) (sym latest) tt;
    unlearnt = subst (IsUnlearnt requests names questions told) (sym unlearnt) tt;
  };
  entered = λ none k other. is_begun (begins_none s.commands.items k commands);
}

-- ---- the places of what is left
pub all_behind : (requests : List Submission) (names : List (Option Name)) (reached : ℕ) (bs : List Branch)
    → All (IsChoice requests names reached) bs → All (IsBehind requests) bs
all_behind requests names reached bs h =
    All-weaker (IsChoice requests names reached) (IsBehind requests)
    (λ b choice. slice_get_within requests b.place choice.request choice.there) bs h

pub latest_within : (requests : List Submission) (names : List (Option Name)) (questions : List Question) (told : List ToldLine)
    (latest : Option Contradiction) → IsLatest requests names questions told latest → IsWithin told latest
latest_within requests names questions told None h = tt
latest_within requests names questions told (Some c) h = h.0

-- ---- where none is left
pub none_last : {X : Type 0} (xs : List X) → slice_get xs (length xs - 1) ≡ None → xs ≡ []
none_last [] e = refl
none_last (x ∷ xs) e =
    let f : slice_get (x ∷ xs) (length (x ∷ xs) - 1) ≡ Some (get_or (x ∷ xs) (length (x ∷ xs) - 1) x) =
    slice_get-get_or (x ∷ xs) (length (x ∷ xs) - 1) x (omega arith) in
    absurd (let g : None ≡ Some (get_or (x ∷ xs) (length (x ∷ xs) - 1) x) = sym e ∙ f in cc)

-- ---- the last one
pub last_there : {X : Type 0} (xs : List X) (x : X) → slice_get xs (length xs - 1) ≡ Some x → xs ≡ take (length xs - 1) xs ++ x ∷ []
last_there xs x e =
    let within = slice_get_within xs (length xs - 1) x e in
    sym (take_all (length xs - 1 + 1) xs (omega (arith, within))) ∙ one_more xs (length xs - 1) x e
