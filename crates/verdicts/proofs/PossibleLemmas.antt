-- The lists that have the names of the slots.
use Rattle.std.proofs.Common.{◌≡◌, ℕ, zero, suc, List, [], ◌∷◌, length, replicate, All, Option, None, Some, slice_get, refl, sym, ap, ◌∙◌}
use Rattle.std.proofs.lemmas.List.Elements.{All-weaker, All-nil, All-cons, All-head, All-tail, All-replicate}
use Rattle.std.specs.Option.{option_map}
use Rattle.sessions.specs.declared.submission.Submission.{Submission}
use Rattle.sessions.specs.declared.command.Command.{Command}
use Rattle.sessions.specs.declared.command.Command.TheVariants as command
use Rattle.verdicts.specs.Explaining.{IsAmong, IsList, HasLearnt, name_of}
use Rattle.verdicts.specs.Placement.{AreNames, SlotIsSubmitted}
use Rattle.verdicts.specs.Search.{IsPossible}
use Rattle.verdicts.specs.declared.lines.LearnLine.{LearnLine}
use Rattle.verdicts.specs.declared.lines.Name.{Name}
use Rattle.verdicts.proofs.PlaceLemmas.{name_there}

-- ---- a list that has them
abbrev HasNames : List (Option Name) → List Command → Type 0
HasNames names l = (slot : ℕ) (wanted : Name) → slice_get names slot ≡ Some (Some wanted)
    → option_map name_of (slice_get l slot) ≡ Some wanted

named_more : (o : Option Name) (names : List (Option Name)) (c : Command) (l : List Command)
    → ((wanted : Name) → o ≡ Some wanted → name_of c ≡ wanted) → HasNames names l → HasNames (o ∷ names) (c ∷ l)
named_more o names c l first rest zero wanted e =
    let same : o ≡ Some wanted = let h : Some o ≡ Some (Some wanted) = e in cc in ap (λ (n : Name). Some n) (first wanted same)
named_more o names c l first rest (suc slot) wanted e = rest slot wanted e

possible_more : (requests : List Submission) (o : Option Name) (names : List (Option Name)) (c : Command) (l : List Command)
    → IsAmong requests c → ((wanted : Name) → o ≡ Some wanted → name_of c ≡ wanted) → IsPossible requests names l
    → IsPossible requests (o ∷ names) (c ∷ l)
possible_more requests o names c l among first rest = record {
  slots = ap suc rest.slots;
  among = All-cons (IsAmong requests) c l among rest.among;
  named = named_more o names c l first rest.named;
}

none_wanted : (wanted : Name) (c : Command) → None ≡ Some wanted → name_of c ≡ wanted
none_wanted wanted c e = absurd (cc)

one_wanted : (n wanted : Name) (c : Command) → name_of c ≡ n → Some n ≡ Some wanted → name_of c ≡ wanted
one_wanted n wanted c named e = let same : n ≡ wanted = cc in named ∙ same

-- a no-op where nothing is told
pub some_possible : (requests : List Submission) (names : List (Option Name)) → All (SlotIsSubmitted requests) names
    → (l : List Command) × IsPossible requests names l
some_possible requests [] h = ([], record { slots = refl; among = All-nil (IsAmong requests); named = λ slot wanted e. absurd (let f : None ≡ Some (Some wanted) = e in cc) })
some_possible requests (None ∷ names) h =
    let (l, rest) = some_possible requests names (All-tail (SlotIsSubmitted requests) None names h) in
    (command.NoOp ∷ l, possible_more requests None names command.NoOp l tt (λ wanted e. none_wanted wanted command.NoOp e) rest)
some_possible requests (Some n ∷ names) h =
    let (l, rest) = some_possible requests names (All-tail (SlotIsSubmitted requests) (Some n) names h) in
    let first = All-head (SlotIsSubmitted requests) (Some n) names h in (
      first.command ∷ l,
      possible_more requests (Some n) names first.command l first.among
          (λ wanted e. one_wanted n wanted first.command first.named e) rest,
    )

-- ---- the lists that explain the lines are those
module _ (requests : List Submission) (size : ℕ) (learns : List LearnLine) (names : List (Option Name))
    (are : AreNames requests size learns names) where
  pub possible_list : (l : List Command) → IsPossible requests names l → IsList requests size l
  possible_list l possible = record { slots = possible.slots ∙ are.count; among = possible.among }

  pub possible_learnt : (l : List Command) → IsPossible requests names l → All (HasLearnt l) learns
  possible_learnt l possible =
      All-weaker (λ (line : LearnLine). slice_get names line.slot ≡ Some (Some line.name)) (HasLearnt l)
      (λ line there. possible.named line.slot line.name there) learns are.learnt

  pub list_possible : (l : List Command) → IsList requests size l → All (HasLearnt l) learns → IsPossible requests names l
  list_possible l is learnt = record {
    slots = is.slots ∙ sym are.count;
    among = is.among;
    named = λ slot wanted there. name_there learns slot wanted (are.told slot wanted there) l learnt;
  }

-- ---- at the start nothing is told
none_there : (size i : ℕ) (n : Name) → slice_get (replicate size None) i ≡ Some (Some n) → ⊥
none_there zero i n e = let h : None ≡ Some (Some n) = e in cc
none_there (suc size) zero n e = let h : Some None ≡ Some (Some n) = e in cc
none_there (suc size) (suc i) n e = none_there size i n e

pub length_of : (size : ℕ) (x : Option Name) → length (replicate size x) ≡ size
length_of zero x = refl
length_of (suc size) x = ap suc (length_of size x)

pub none_named : (requests : List Submission) (size : ℕ) → AreNames requests size [] (replicate size None)
none_named requests size = record {
  count = length_of size None;
  submitted = All-replicate (SlotIsSubmitted requests) size None tt;
  learnt = All-nil (λ (line : LearnLine). slice_get (replicate size None) line.slot ≡ Some (Some line.name));
  told = λ slot wanted e. absurd (none_there size slot wanted e);
}
