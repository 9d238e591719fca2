-- Verdicts from what is known.
use Rattle.std.proofs.Common.{◌≡◌, ◌≢◌, ℕ, zero, suc, ◌+◌, ◌-◌, ◌<◌, ◌≤◌, inl, inr, max, List, [], ◌∷◌, ◌++◌, length, take, get_or, slice_get, All, Any, Contains, Option, Some, None, Result, Ok, Err, IfOk, sym, ap, subst, ◌∙◌, arith}
use Rattle.std.proofs.lemmas.Bool.{cases_lt}
use Rattle.std.proofs.lemmas.List.{length-take-le, take_more}
use Rattle.std.proofs.lemmas.List.Elements.{All-contains, All-nil, All-cons, All-take, All-weaker}
use Rattle.std.proofs.lemmas.Option.{get_or_from_slice_get, slice_get_within, slice_get-get_or}
use Rattle.std.specs.Option.{option_map}
use Rattle.store.specs.Operations.{OpIsValid}
use Rattle.sessions.specs.declared.submission.Submission.{Submission}
use Rattle.sessions.specs.Meaning.{RequestsAreValid}
use Rattle.sessions.specs.declared.command.Command.{Command}
use Rattle.sessions.specs.declared.command.Command.TheVariants as command
use Rattle.verdicts.specs.Explaining.{IsAmong, HasLearnt, HasTold, IsExplained, name_of, reach, greatest, position_of}
use Rattle.verdicts.specs.Placement.{AreNames, IsEarly}
use Rattle.verdicts.specs.Search.{AreBegun, AreLearnt, AreManyTried, IsNeededSlot, IsTried, IsStop, IsLast, IsOutcome, IsSolved, IsUndecided}
use Rattle.verdicts.specs.Verdicts.{AreOpen, IsInReach, IsVerdict, IsFirstContradiction, IsNeeded, HasTwoOperations, IsOfSeveral, IsChosen, AreNotEnough, AreTooMany, at_learn, at_told}
use Rattle.verdicts.specs.declared.lines.LearnLine.{LearnLine}
use Rattle.verdicts.specs.declared.lines.Name.{Name}
use Rattle.verdicts.specs.declared.lines.Name.TheVariants.{Request}
use Rattle.verdicts.specs.declared.lines.Place.{Place}
use Rattle.verdicts.specs.declared.lines.Question.{Question}
use Rattle.verdicts.specs.declared.lines.ToldLine.{ToldLine}
use Rattle.verdicts.specs.declared.verdict.Verdict.{Verdict}
use Rattle.verdicts.specs.declared.verdict.Verdict.TheVariants.{Explained, Contradicted, UnlearntSlot, TwoOperations}
use Rattle.verdicts.specs.declared.verdict.Why.{Why}
use Rattle.verdicts.proofs.FindingLemmas.{get_take, take_take, taken_there}
use Rattle.verdicts.proofs.IndexLemmas.{contains_from_get}
use Rattle.verdicts.proofs.PlaceLemmas.{all_front, all_last, not_both}
use Rattle.verdicts.proofs.PossibleLemmas.{possible_list, possible_learnt, list_possible, some_possible}
use Rattle.verdicts.proofs.SearchLemmas.{begun_within, one_more}
use Rattle.verdicts.proofs.TryingLemmas.{reach_on}

-- ---- the greatest position
pub greatest_more : {X : Type 0} (f : X → ℕ) (xs : List X) (x : X) → greatest f (xs ++ x ∷ []) ≡ max (greatest f xs) (f x)
greatest_more f [] x = omega arith
greatest_more f (y ∷ xs) x = let e = greatest_more f xs x in omega (arith, e)

pub greatest_upto : {X : Type 0} (f : X → ℕ) (xs : List X) (i : ℕ) (d : X) → i < length xs
    → max (greatest f (take i xs)) (f (get_or xs i d)) ≡ greatest f (take (i + 1) xs)
greatest_upto f xs i d h = sym (ap (λ l. greatest f l) (take_more xs i d h) ∙ greatest_more f (take i xs) (get_or xs i d))

greatest_above : {X : Type 0} (f : X → ℕ) (xs : List X) → All (λ x. f x ≤ greatest f xs) xs
greatest_above f [] = All-nil (λ x. f x ≤ 0)
greatest_above f (y ∷ xs) =
    All-cons (λ x. f x ≤ max (f y) (greatest f xs)) y xs (omega arith)
    (All-weaker (λ x. f x ≤ greatest f xs) (λ x. f x ≤ max (f y) (greatest f xs)) (λ x h. omega (arith, h)) xs (greatest_above f xs))

pub slots_below : (learns : List LearnLine) (told : List ToldLine) → All (λ (line : LearnLine). line.slot < reach learns told) learns
slots_below learns told =
    All-weaker (λ (line : LearnLine). line.slot + 1 ≤ greatest (λ (x : LearnLine). x.slot + 1) learns)
    (λ (line : LearnLine). line.slot < reach learns told) (λ line h. omega (arith, h)) learns
    (greatest_above (λ (x : LearnLine). x.slot + 1) learns)

pub positions_within : (learns : List LearnLine) (told : List ToldLine)
    → All (λ (line : ToldLine). position_of line.told ≤ reach learns told) told
positions_within learns told =
    All-weaker (λ (line : ToldLine). position_of line.told ≤ greatest (λ (x : ToldLine). position_of x.told) told)
    (λ (line : ToldLine). position_of line.told ≤ reach learns told) (λ line h. omega (arith, h)) told
    (greatest_above (λ (x : ToldLine). position_of x.told) told)

-- ---- what the requests of commands bring is valid
pub begun_valid : (requests : List Submission) (names : List (Option Name)) (commands : List Command)
    → AreBegun requests names commands → All (λ (r : Submission). OpIsValid r.op) requests → RequestsAreValid commands
begun_valid requests names commands begun valid = record {
  each = λ i r there.
      let taken : slice_get (take (length commands) begun.list) i ≡ Some (command.Request r) =
      subst (λ (l : List Command). slice_get l i ≡ Some (command.Request r)) (sym begun.begins) there in
      let listed : slice_get begun.list i ≡ Some (command.Request r) =
      taken_there (length commands) begun.list i (command.Request r) taken in
      let among : Contains requests r =
      All-contains (IsAmong requests) begun.list (command.Request r) begun.possible.among
      (contains_from_get begun.list i (command.Request r) listed) in
      All-contains (λ (q : Submission). OpIsValid q.op) requests r valid among;
}

-- ---- where a choice ends
several_there : (requests : List Submission) (names : List (Option Name)) (slot : ℕ) (next : Option (ℕ × ℕ)) (wanted : Name)
    → slice_get names slot ≡ Some (Some wanted) → IsStop requests names slot next → IsOfSeveral requests wanted
several_there requests names slot None wanted there stop =
    absurd (not_both (slice_get names slot) wanted (stop (slice_get_within names slot (Some wanted) there)) there)
several_there requests names slot (Some key) wanted there stop =
    let e : Some (Some (Request key.0 key.1)) ≡ Some (Some wanted) = sym stop.0 ∙ there in
    let same : Request key.0 key.1 ≡ wanted = cc in subst (IsOfSeveral requests) same stop.1

-- ---- the first slot behind others of which no line tells
record StopsAt (names : List (Option Name)) (least : ℕ) : Type 0 where
  at : ℕ
  behind : least ≤ at
  within : at ≤ length names
  learnt : AreLearnt names at
  stops : at < length names → slice_get names at ≡ Some None

stops_here : (names : List (Option Name)) (n : ℕ) → n ≤ length names → (n < length names → slice_get names n ≡ Some None)
    → AreLearnt names n → StopsAt names n
stops_here names n within stops learnt = record { at = n; behind = omega arith; within = within; learnt = learnt; stops = stops }

stops_behind : (names : List (Option Name)) (n : ℕ) → StopsAt names (n + 1) → StopsAt names n
stops_behind names n h =
    let behind = h.behind in
    record { at = h.at; behind = omega (arith, behind); within = h.within; learnt = h.learnt; stops = h.stops }

learnt_one_more : (names : List (Option Name)) (n : ℕ) (wanted : Name) → slice_get names n ≡ Some (Some wanted) → AreLearnt names n
    → AreLearnt names (n + 1)
learnt_one_more names n wanted there learnt slot below free = elim (cases_lt slot n) [
  | inl lower ↦ learnt slot lower free
  | inr upper ↦
      let same : slot ≡ n = omega (arith, upper, below) in
      not_both (slice_get names slot) wanted free (subst (λ (i : ℕ). slice_get names i ≡ Some (Some wanted)) (sym same) there)
]

stops_from : (names : List (Option Name)) (n : ℕ) (o : Option Name) → n ≤ length names → slice_get names n ≡ Some o
    → (AreLearnt names (n + 1) → StopsAt names (n + 1)) → AreLearnt names n → StopsAt names n
stops_from names n None within there behind learnt = stops_here names n within (λ below. there) learnt
stops_from names n (Some wanted) within there behind learnt =
    stops_behind names n (behind (learnt_one_more names n wanted there learnt))

stops_at : (names : List (Option Name)) (left n : ℕ) → n + left ≡ length names → AreLearnt names n → StopsAt names n
stops_at names zero n e learnt = stops_here names n (omega (arith, e)) (λ below. absurd (omega (arith, e, below))) learnt
stops_at names (suc left) n e learnt =
    stops_from names n (get_or names n None) (omega (arith, e)) (slice_get-get_or names n None (omega (arith, e)))
    (stops_at names left (n + 1) (omega (arith, e))) learnt

-- ---- a verdict on the lines `learn`
module _ (requests : List Submission) (questions : List Question) (learns : List LearnLine) (told : List ToldLine) where
  abbrev size : ℕ
  size = reach learns told

  module _ (place : Place) (why : Why) (early : IsEarly requests (reach learns told) learns (Contradicted place why)) where
    none_more : ¬ (IsExplained requests questions (reach learns told) (take (early.before + 1) learns) [])
    none_more e =
        let both : All (HasLearnt e.list) (take early.before learns ++ early.line ∷ []) =
        subst (All (HasLearnt e.list)) (one_more learns early.before early.line early.there) e.explains.learnt in
        early.ends.1 e.list e.explains.is_list (all_front (HasLearnt e.list) (take early.before learns) early.line both)
        (all_last (HasLearnt e.list) (take early.before learns) early.line both)

    early_contradiction : IsFirstContradiction requests questions (reach learns told) learns told place
    early_contradiction =
        at_learn early.before early.line early.there early.ends.0
        (record {
          list = early.list;
          explains = record {
            is_list = early.is_list;
            learnt = early.learnt;
            others = All-nil (λ (line : ToldLine). HasTold questions early.list line.told);
          };
        }) none_more

  pub early_verdict : (verdict : Verdict) → IsEarly requests (reach learns told) learns verdict
      → IsVerdict requests questions learns told verdict
  early_verdict Explained early = absurd early.ends
  early_verdict (Contradicted place why) early = early_contradiction place why early
  early_verdict (UnlearntSlot slot) early = absurd early.ends
  early_verdict (TwoOperations client number) early = absurd early.ends

  -- ---- a verdict on the others
  module _ (names : List (Option Name)) (are : AreNames requests (reach learns told) learns names) where
    solved_explained : (part : List ToldLine) → IsSolved requests names questions part
        → IsExplained requests questions (reach learns told) learns part
    solved_explained part h = record {
      list = h.list;
      explains = record {
        is_list = possible_list requests (reach learns told) learns names are h.list h.possible;
        learnt = possible_learnt requests (reach learns told) learns names are h.list h.possible;
        others = h.explains;
      };
    }

    explained_solved : (part : List ToldLine) → IsExplained requests questions (reach learns told) learns part
        → IsSolved requests names questions part
    explained_solved part h = record {
      list = h.list;
      possible = list_possible requests (reach learns told) learns names are h.list h.explains.is_list h.explains.learnt;
      explains = h.explains.others;
    }

    last_told : (place : Place) → IsLast requests names questions told place
        → IsFirstContradiction requests questions (reach learns told) learns told place
    last_told place h =
        at_told h.before h.line h.there h.at_place (solved_explained (take h.before told) h.solved)
        (λ e. h.unsolved (explained_solved (take (h.before + 1) told) e))

    two_operations : (client number : ℕ) → IsUndecided requests names client number → HasTwoOperations requests learns client number
    two_operations client number h =
        let t = are.told h.slot (Request client number) h.named in
        let (k, within, e) = t.there in
        record { learnt = (k, t.line, within, e, t.of_name); ambiguous = h.ambiguous }

    -- some list explains the lines `learn`
    learns_explained : IsExplained requests questions (reach learns told) learns []
    learns_explained =
        let (l, possible) = some_possible requests names are.submitted in
        solved_explained []
        (record { list = l; possible = possible; explains = All-nil (λ (line : ToldLine). HasTold questions l line.told) })

    -- ---- choices
    module _ (c : List Command) (begun : AreBegun requests names c) (learnt : AreLearnt names (length c)) where
      chosen_there : (slot : ℕ) → slot < length c → (o : Option Name) → slice_get names slot ≡ Some o
          → Any (λ (line : LearnLine). (line.slot ≡ slot) × HasLearnt c line) learns
      chosen_there slot below None there = absurd (learnt slot below there)
      chosen_there slot below (Some wanted) there =
          let h = are.told slot wanted there in
          let (k, within, e) = h.there in
          let here : option_map name_of (slice_get c slot) ≡ Some wanted =
          ap (λ (o : Option Command). option_map name_of o)
          (ap (λ (l : List Command). slice_get l slot) (sym begun.begins) ∙ get_take (length c) begun.list slot below)
          ∙ begun.possible.named slot wanted there in
          let at : option_map name_of (slice_get c h.line.slot) ≡ Some wanted =
          subst (λ (i : ℕ). option_map name_of (slice_get c i) ≡ Some wanted) (sym h.of_slot) here in
          (k, h.line, within, e, (h.of_slot, at ∙ ap (λ (n : Name). Some n) (sym h.of_name)))

      begun_chosen : (next : Option (ℕ × ℕ)) → IsStop requests names (length c) next → IsChosen requests learns c
      begun_chosen next stops = record {
        among = subst (All (IsAmong requests)) begun.begins (All-take (IsAmong requests) (length c) begun.list begun.possible.among);
        learnt = λ slot below.
            let fits = begun_within requests names c begun in
            chosen_there slot below (get_or names slot None) (slice_get-get_or names slot None (omega (arith, below, fits)));
        ends = All-weaker (λ (line : LearnLine). slice_get names line.slot ≡ Some (Some line.name))
            (λ (line : LearnLine). line.slot ≡ length c → IsOfSeveral requests line.name)
            (λ line there same. several_there requests names (length c) next line.name
            (subst (λ (i : ℕ). slice_get names i ≡ Some (Some line.name)) same there) stops)
            learns are.learnt;
      }

    tried_chosen : (c : List Command) → IsTried requests names questions told c → IsChosen requests learns c
    tried_chosen c t = begun_chosen c t.begun t.learnt t.next t.stops

    -- ---- a slot that is needed
    needed_slot : (slot : ℕ) → IsNeededSlot requests names questions told slot
        → IsNeeded requests questions (reach learns told) learns told slot
    needed_slot slot h =
        let chosen : IsChosen requests learns h.commands =
        begun_chosen h.commands h.begun (subst (AreLearnt names) (sym h.ends_there) h.learnt) None
        (λ below. subst (λ (i : ℕ). slice_get names i ≡ Some None) (sym h.ends_there) h.unlearnt) in
        record {
          unlearnt = All-weaker (λ (line : LearnLine). slice_get names line.slot ≡ Some (Some line.name))
              (λ (line : LearnLine). line.slot ≢ slot)
              (λ line there same. not_both (slice_get names slot) line.name h.unlearnt
              (subst (λ i. slice_get names i ≡ Some (Some line.name)) same there))
              learns are.learnt;
          first = λ lower below.
              let (k, line, within, e, told_there) = chosen.learnt lower (subst (λ (n : ℕ). lower < n) (sym h.ends_there) below) in
              (k, line, within, e, told_there.0);
          commands = h.commands;
          chosen = chosen;
          ends_there = h.ends_there;
          open_there = subst (λ (n : ℕ). AreOpen questions n told h.commands) are.count h.open_there;
        }

    -- ---- choices that were tried, and a further one
    module _ (client number : ℕ) (m : AreManyTried requests names questions told client number) where
      abbrev size_of : ℕ
      size_of = length m.commands

      stop : StopsAt names (length m.commands)
      stop =
          let fits = begun_within requests names m.commands m.begun in
          stops_at names (length names - length m.commands) (length m.commands) (omega (arith, fits)) m.learnt

      abbrev further : List Command
      further = take stop.at m.begun.list

      further_size : length further ≡ stop.at
      further_size =
          let slots = m.begun.possible.slots in
          let within = stop.within in length-take-le stop.at m.begun.list (omega (arith, slots, within))

      further_begun : AreBegun requests names further
      further_begun = record {
        list = m.begun.list;
        possible = m.begun.possible;
        begins = ap (λ (n : ℕ). take n m.begun.list) further_size;
      }

      further_begins : take (length m.commands) further ≡ m.commands
      further_begins = take_take (length m.commands) stop.at m.begun.list stop.behind ∙ m.begun.begins

      further_chosen : IsChosen requests learns further
      further_chosen =
          begun_chosen further further_begun (subst (AreLearnt names) (sym further_size) stop.learnt) None
          (subst (λ (n : ℕ). n < length names → slice_get names n ≡ Some None) (sym further_size) stop.stops)

      has_request : Any (λ (c : Command). name_of c ≡ Request client number) further
      has_request =
          let (k, c, within, e, named) = m.has_request in
          let here : slice_get m.commands k ≡ Some c =
          slice_get-get_or m.commands k c within ∙ ap (λ (x : Command). Some x) e in
          let there : slice_get further k ≡ Some c =
          taken_there (length m.commands) further k c (subst (λ (l : List Command). slice_get l k ≡ Some c) (sym further_begins) here) in
          (k, c, slice_get_within further k c there, get_or_from_slice_get further k c c there, named)

      abbrev choices : List (List Command)
      choices = m.next.has_tried.choices

      too_many : AreTooMany requests questions (reach learns told) learns told client number
      too_many = record {
        tried = choices;
        count = let counted = m.next.has_tried.counted in let many = m.many in omega (arith, counted, many);
        unlike = m.next.has_tried.unlike;
        chosen = All-weaker (IsTried requests names questions told) (IsChosen requests learns) tried_chosen choices m.next.has_tried.tried;
        failed = All-weaker (IsTried requests names questions told) (AreNotEnough questions (reach learns told) told)
            (λ c t. subst (λ (n : ℕ). AreNotEnough questions n told c) are.count t.fails) choices m.next.has_tried.tried;
        further = further;
        further_chosen = further_chosen;
        has_request = has_request;
        untried = All-weaker (λ (c : List Command). take (length m.commands) c ≢ m.commands) (λ (c : List Command). c ≢ further)
            (λ c h same. h (ap (λ (l : List Command). take (length m.commands) l) same ∙ further_begins)) choices m.next.fresh;
        in_reach = subst (λ (n : ℕ). IsInReach questions n told choices further) are.count
            (reach_on questions (length names) told choices m.commands further further_begins m.next.fresh m.next.in_reach);
      }

    pub later_verdict : (verdict : Verdict) → IsOutcome requests names questions told verdict
        → IsVerdict requests questions learns told verdict
    later_verdict Explained h = solved_explained told h
    later_verdict (Contradicted place why) h = last_told place h
    later_verdict (UnlearntSlot slot) h = (learns_explained, needed_slot slot h)
    later_verdict (TwoOperations client number) h =
        (learns_explained, two_operations client number h.0, too_many client number h.1)

pub later_found : {E : Type 0} (requests : List Submission) (questions : List Question) (learns : List LearnLine) (told : List ToldLine)
    (names : List (Option Name)) → AreNames requests (reach learns told) learns names → (result : Result Verdict E)
    → IfOk result (IsOutcome requests names questions told) → IfOk result (IsVerdict requests questions learns told)
later_found requests questions learns told names are (Ok verdict) h = later_verdict requests questions learns told names are verdict h
later_found requests questions learns told names are (Err e) h = h
