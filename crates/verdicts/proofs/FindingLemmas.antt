-- What the first commands of a list say of a line, and what that is to a verdict.
use Rattle.std.proofs.Common.{Global, Vec, ◌≡◌, ℕ, zero, suc, ◌<◌, ◌≤◌, List, [], ◌∷◌, length, take, slice_get, Some, None, Result, Ok, Err, IfOk, refl, sym, ap, subst, ◌∙◌, arith}
use Rattle.std.proofs.lemmas.List.{take_all}
use Rattle.sessions.specs.Meaning.{RequestsAreValid}
use Rattle.sessions.specs.declared.command.Command.{Command}
use Rattle.sessions.specs.declared.command.Command.TheVariants as command
use Rattle.verdicts.specs.Execution.{IsAnswerFinding, IsFinding}
use Rattle.verdicts.specs.Verdicts.{BeginsWith}
use Rattle.verdicts.specs.declared.examination.Finding.{Finding}
use Rattle.verdicts.specs.declared.examination.Finding.TheVariants as finding
use Rattle.verdicts.specs.declared.lines.Told.TheVariants.{Answer}
use Rattle.verdicts.specs.Explaining.{HasReply, HasAnswer, AnswersOne}
use Rattle.verdicts.specs.declared.lines.Question.{Question}
use Rattle.sessions.proofs.Agreements.{AgreeBelow}
use Rattle.verdicts.proofs.ReplyLemmas.{reply_over}

-- ---- lists that begin so
pub get_take : {X : Type 0} (n : ℕ) (l : List X) (i : ℕ) → i < n → slice_get (take n l) i ≡ slice_get l i
get_take zero l i h = absurd (omega (arith, h))
get_take (suc n) [] i h = refl
get_take (suc n) (x ∷ l) zero h = refl
get_take (suc n) (x ∷ l) (suc i) h = get_take n l i (omega (arith, h))

pub taken_there : {X : Type 0} (n : ℕ) (l : List X) (i : ℕ) (x : X) → slice_get (take n l) i ≡ Some x → slice_get l i ≡ Some x
taken_there zero l i x e = absurd (let h : None ≡ Some x = e in cc)
taken_there (suc n) [] i x e = absurd (let h : None ≡ Some x = e in cc)
taken_there (suc n) (y ∷ l) zero x e = e
taken_there (suc n) (y ∷ l) (suc i) x e = taken_there n l i x e

pub take_take : {X : Type 0} (n m : ℕ) (l : List X) → n ≤ m → take n (take m l) ≡ take n l
take_take zero m l h = refl
take_take (suc n) zero l h = absurd (omega (arith, h))
take_take (suc n) (suc m) [] h = refl
take_take (suc n) (suc m) (x ∷ l) h = ap (λ k. x ∷ k) (take_take n m l (omega (arith, h)))

module _ (size : ℕ) (commands l : List Command) (begins : BeginsWith size commands l) where
  agree : AgreeBelow commands l (length commands)
  agree i h = ap (λ (k : List Command). slice_get k i) (sym begins.begins) ∙ get_take (length commands) l i h

  pub reply_there : (client number code : ℕ) → HasReply commands client number code → HasReply l client number code
  reply_there = reply_over commands l (length commands) (omega arith) agree

  pub same_list : length commands ≡ size → l ≡ commands
  same_list full =
      let within : length l ≤ length commands = let e = begins.slots in omega (arith, e, full) in
      sym (take_all (length commands) l within) ∙ begins.begins

  pub same_beginning : (position : ℕ) → position ≤ length commands → take position l ≡ take position commands
  same_beginning position h =
      sym (take_take position (length commands) l h) ∙ ap (λ (k : List Command). take position k) begins.begins

-- what the requests bring stays valid
pub beginning_valid : (n : ℕ) (l : List Command) → RequestsAreValid l → RequestsAreValid (take n l)
beginning_valid n l valid = record { each = λ i r there. valid.each i r (taken_there n l i (command.Request r) there) }

-- ---- an answer
module _ (questions : List Question) (size : ℕ) (commands : List Command) (node position : ℕ) (text : List ℕ)
    (within : position ≤ length commands) (fits : length commands ≤ size) where
  pub answered : AnswersOne questions (take position commands) node text → (l : List Command) → BeginsWith size commands l
      → HasAnswer questions l node position text
  answered answers l begins = (
    let e = begins.slots in omega (arith, e, within, fits),
    subst (λ (k : List Command). AnswersOne questions k node text) (sym (same_beginning size commands l begins position within)) answers,
  )

  pub not_answered : ¬ (AnswersOne questions (take position commands) node text) → (l : List Command) → BeginsWith size commands l
      → ¬ (HasAnswer questions l node position text)
  not_answered none l begins h =
      none (subst (λ (k : List Command). AnswersOne questions k node text) (same_beginning size commands l begins position within) h.1)

-- a line that is an answer
answer_line : (questions : List Question) (size : ℕ) (commands : List Command) (node position : ℕ) (text : Vec ℕ Global) (f : Finding)
    → IsAnswerFinding questions size commands node position text.items f
    → IsFinding questions size commands (Answer node position text) f
answer_line questions size commands node position text finding.Explained h = h
answer_line questions size commands node position text (finding.Contradicted why) h = h
answer_line questions size commands node position text finding.Undecided h = h

pub answer_found : {E : Type 0} (questions : List Question) (size : ℕ) (commands : List Command) (node position : ℕ) (text : Vec ℕ Global)
    (result : Result Finding E) → IfOk result (IsAnswerFinding questions size commands node position text.items)
    → IfOk result (IsFinding questions size commands (Answer node position text))
answer_found questions size commands node position text (Ok f) h = answer_line questions size commands node position text f h
answer_found questions size commands node position text (Err e) h = h
