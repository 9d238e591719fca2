-- What one line `learn` more leaves.
use Rattle.std.proofs.Common.{◌≡◌, ◌≢◌, ℕ, zero, suc, ◌+◌, ◌<◌, inl, inr, List, [], ◌∷◌, ◌++◌, length, set, All, Contains, Option, None, Some, slice_get, take, get_or, refl, sym, ap, subst, ◌∙◌, arith}
use Rattle.std.proofs.Math.ListN.{length-set}
use Rattle.std.proofs.lemmas.Bool.{cases_eq}
use Rattle.std.proofs.lemmas.List.{take_more}
use Rattle.std.proofs.lemmas.List.Elements.{All-push, All-set, All-weaker, All-contains, All-contains_itself, Contains-push, Contains-append_left}
use Rattle.std.specs.Option.{option_map}
use Rattle.sessions.specs.declared.submission.Submission.{Submission}
use Rattle.sessions.specs.declared.command.Command.{Command}
use Rattle.verdicts.specs.Explaining.{IsAmong, IsList, HasLearnt, name_of}
use Rattle.verdicts.specs.Placement.{AreNames, IsSubmitted, IsTold, SlotIsSubmitted}
use Rattle.verdicts.specs.declared.lines.LearnLine.{LearnLine}
use Rattle.verdicts.specs.declared.lines.Name.{Name}
use Rattle.verdicts.proofs.IndexLemmas.{contains_from_get}

-- ---- lists with one element more
pub all_front : {X : Type 0} (P : X → Type 0) (xs : List X) (y : X) → All P (xs ++ y ∷ []) → All P xs
all_front P xs y h =
    All-weaker (Contains xs) P (λ x there. All-contains P (xs ++ y ∷ []) x h (Contains-append_left xs (y ∷ []) x there)) xs
    (All-contains_itself xs)

pub all_last : {X : Type 0} (P : X → Type 0) (xs : List X) (y : X) → All P (xs ++ y ∷ []) → P y
all_last P xs y h = All-contains P (xs ++ y ∷ []) y h (Contains-push xs y)

-- ---- a list with one element changed
pub get_set_same : {X : Type 0} (xs : List X) (i : ℕ) (x : X) → i < length xs → slice_get (set xs i x) i ≡ Some x
get_set_same [] i x h = absurd (omega (arith, h))
get_set_same (y ∷ xs) zero x h = refl
get_set_same (y ∷ xs) (suc i) x h = get_set_same xs i x (omega (arith, h))

pub get_set_other : {X : Type 0} (xs : List X) (i j : ℕ) (x : X) → j ≢ i → slice_get (set xs i x) j ≡ slice_get xs j
get_set_other [] i j x h = refl
get_set_other (y ∷ xs) zero zero x h = absurd (h refl)
get_set_other (y ∷ xs) zero (suc j) x h = refl
get_set_other (y ∷ xs) (suc i) zero x h = refl
get_set_other (y ∷ xs) (suc i) (suc j) x h = get_set_other xs i j x (λ e. h (ap suc e))

-- ---- what a list has learnt
pub named_there : (o : Option Command) (wanted : Name) → option_map name_of o ≡ Some wanted
    → (c : Command) × (o ≡ Some c) × (name_of c ≡ wanted)
named_there None wanted e = absurd (let h : None ≡ Some wanted = e in cc)
named_there (Some c) wanted e = (c, refl, let h : Some (name_of c) ≡ Some wanted = e in cc)

pub has_learnt : (l : List Command) (line : LearnLine) → HasLearnt l line
    → (c : Command) × (slice_get l line.slot ≡ Some c) × (name_of c ≡ line.name)
has_learnt l line h = named_there (slice_get l line.slot) line.name h

pub among_there : (requests : List Submission) (size : ℕ) (l : List Command) (i : ℕ) (c : Command) → IsList requests size l
    → slice_get l i ≡ Some c → IsAmong requests c
among_there requests size l i c is e = All-contains (IsAmong requests) l c is.among (contains_from_get l i c e)

pub not_both : {X : Type 0} (o : Option (Option X)) (x : X) → o ≡ Some None → o ≡ Some (Some x) → ⊥
not_both o x e f = let h : Some None ≡ Some (Some x) = sym e ∙ f in cc

abbrev HasName : List (Option Name) → LearnLine → Type 0
HasName names line = slice_get names line.slot ≡ Some (Some line.name)

-- ---- what the lines tell of a slot
told_more : (learns : List LearnLine) (line : LearnLine) (slot : ℕ) (wanted : Name) → IsTold learns slot wanted
    → IsTold (learns ++ line ∷ []) slot wanted
told_more learns line slot wanted h = record {
  line = h.line;
  there = Contains-append_left learns (line ∷ []) h.line h.there;
  of_slot = h.of_slot;
  of_name = h.of_name;
}

told_last : (learns : List LearnLine) (line : LearnLine) (slot : ℕ) (wanted : Name) → line.slot ≡ slot → line.name ≡ wanted
    → IsTold (learns ++ line ∷ []) slot wanted
told_last learns line slot wanted s n = record { line = line; there = Contains-push learns line; of_slot = s; of_name = n }

-- a list that has learnt the lines has the name that they tell of the slot
pub name_there : (learns : List LearnLine) (slot : ℕ) (wanted : Name) → IsTold learns slot wanted → (l : List Command)
    → All (HasLearnt l) learns → option_map name_of (slice_get l slot) ≡ Some wanted
name_there learns slot wanted h l all =
    let learnt : option_map name_of (slice_get l h.line.slot) ≡ Some h.line.name = All-contains (HasLearnt l) learns h.line all h.there in
    subst (λ i. option_map name_of (slice_get l i) ≡ Some wanted) h.of_slot
    (subst (λ n. option_map name_of (slice_get l h.line.slot) ≡ Some n) h.of_name learnt)

module _ (requests : List Submission) (size : ℕ) (learns : List LearnLine) (names : List (Option Name)) (line : LearnLine)
    (was : AreNames requests size learns names) where
  -- the slot has this name already
  module _ (n : Name) (there : slice_get names line.slot ≡ Some (Some n)) where
    pub named_again : n ≡ line.name → AreNames requests size (learns ++ line ∷ []) names
    named_again same = record {
      count = was.count;
      submitted = was.submitted;
      learnt = All-push (HasName names) learns line was.learnt (there ∙ ap (λ (x : Name). Some (Some x)) same);
      told = λ slot wanted e. told_more learns line slot wanted (was.told slot wanted e);
    }

    pub two_names : n ≢ line.name → (l : List Command) → IsList requests size l → All (HasLearnt l) learns
        → HasLearnt l line → ⊥
    two_names other l is h here =
        let e : Some n ≡ Some line.name = sym (name_there learns line.slot n (was.told line.slot n there) l h) ∙ here in
        let same : n ≡ line.name = cc in other same

  -- nothing is told of the slot yet
  pub none_placed : ¬ (IsSubmitted requests line.name) → (l : List Command) → IsList requests size l → HasLearnt l line → ⊥
  none_placed none l is here =
      let found = has_learnt l line here in
      none (record { command = found.0; among = among_there requests size l line.slot found.0 is found.1; named = found.2 })

  module _ (free : slice_get names line.slot ≡ Some None) (within : line.slot < length names) (is : IsSubmitted requests line.name) where
    kept : (other : LearnLine) → HasName names other → HasName (set names line.slot (Some line.name)) other
    kept other there =
        let apart : other.slot ≢ line.slot =
        λ e. not_both (slice_get names line.slot) other.name free (subst (λ i. slice_get names i ≡ Some (Some other.name)) e there) in
        get_set_other names line.slot other.slot (Some line.name) apart ∙ there

    told_now : (slot : ℕ) (wanted : Name) → slice_get (set names line.slot (Some line.name)) slot ≡ Some (Some wanted)
        → IsTold (learns ++ line ∷ []) slot wanted
    told_now slot wanted there = elim (cases_eq slot line.slot) [
      | inl same ↦
          let e : Some (Some line.name) ≡ Some (Some wanted) =
          sym (get_set_same names line.slot (Some line.name) within)
          ∙ subst (λ j. slice_get (set names line.slot (Some line.name)) j ≡ Some (Some wanted)) same there in
          let same_name : line.name ≡ wanted = cc in
          told_last learns line slot wanted (sym same) same_name
      | inr apart ↦
          told_more learns line slot wanted
          (was.told slot wanted (sym (get_set_other names line.slot slot (Some line.name) apart) ∙ there))
    ]

    pub named_first : AreNames requests size (learns ++ line ∷ []) (set names line.slot (Some line.name))
    named_first = record {
      count = length-set names line.slot (Some line.name) ∙ was.count;
      submitted = All-set (SlotIsSubmitted requests) names line.slot (Some line.name) is was.submitted;
      learnt = All-push (HasName (set names line.slot (Some line.name))) learns line
          (All-weaker (HasName names) (HasName (set names line.slot (Some line.name))) kept learns was.learnt)
          (get_set_same names line.slot (Some line.name) within);
      told = told_now;
    }

-- the lines so far, and the next one
pub names_more : (requests : List Submission) (size : ℕ) (learns : List LearnLine) (i : ℕ) (d : LearnLine) (names : List (Option Name))
    → i < length learns → AreNames requests size (take i learns ++ get_or learns i d ∷ []) names
    → AreNames requests size (take (i + 1) learns) names
names_more requests size learns i d names h are =
    subst (λ (part : List LearnLine). AreNames requests size part names) (sym (take_more learns i d h)) are
