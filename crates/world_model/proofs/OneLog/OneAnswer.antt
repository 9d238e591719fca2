-- Two answers to one query at one position are equal.
use Rattle.std.proofs.Common.{◌≡◌, ℕ, zero, suc, List, [], ◌∷◌, take, Some, None, Contains, slice_get, sym, subst}
use Rattle.std.proofs.Math.Logic.{∥∥₁_elim}
use Rattle.std.specs.Coded.{Coded-set, coded_list, coded_ℕ}
use Rattle.store.specs.Operations.{OpIsValid}
use Rattle.sessions.specs.declared.submission.Submission.{Submission}
use Rattle.sessions.specs.Meaning.{Answers, RequestsAreValid}
use Rattle.sessions.proofs.Executions.{one_answer}
use Rattle.sessions.specs.declared.command.Command.{Command}
use Rattle.sessions.specs.declared.command.Command.TheVariants.{Request}
use Rattle.world_model.specs.declared.lists.Answered.{Answered}
use Rattle.world_model.specs.declared.lists.LearntEntry.{LearntEntry}
use Rattle.world_model.specs.declared.lists.Replied.{Replied}
use Rattle.world_model.specs.declared.lists.Submitted.{Submitted}
use Rattle.world_model.specs.Explaining.{Explains, ExplainsAnswer}
use Rattle.world_model.specs.Safety.{IsSafe}
use Rattle.world_model.specs.Submissions.{BringValid, IsSubmitted}
use Rattle.world_model.specs.Worlds.{WorldState}

-- an entry among the first ones of a list is the list's
taken_there : (n : ℕ) (l : List Command) (i : ℕ) (c : Command) → slice_get (take n l) i ≡ Some c → slice_get l i ≡ Some c
taken_there zero l i c e = absurd (let h : None ≡ Some c = e in cc)
taken_there (suc n) [] i c e = absurd (let h : None ≡ Some c = e in cc)
taken_there (suc n) (d ∷ l) zero c e = e
taken_there (suc n) (d ∷ l) (suc i) c e = taken_there n l i c e

module _ (l : List Command) (submitted : List Submitted) (learnt : List LearntEntry) (replies : List Replied) (answers : List Answered)
    (explains : Explains l submitted learnt replies answers) (valid : BringValid submitted) where
  -- what its requests bring was submitted, and is valid
  beginning_sound : (n : ℕ) → RequestsAreValid (take n l)
  beginning_sound n = record {
    each = λ i r there.
        let s : IsSubmitted submitted r = explains.grounded i (Request r) (taken_there n l i (Request r) there) in
        subst (λ (x : Submission). OpIsValid x.op) s.carries (valid.each s.entry s.taken);
  }

  pub one_text : (a b : Answered) → Contains answers a → Contains answers b → a.query ≡ b.query → a.position ≡ b.position → a.text ≡ b.text
  one_text a b ca cb query position =
      let of_a : ExplainsAnswer l a = explains.answered a ca in
      let of_b : ExplainsAnswer l b = explains.answered b cb in
      one_answer (take a.position l) a.query a.text b.text (beginning_sound a.position) of_a.answers
      (subst (λ q. Answers (take a.position l) q b.text) (sym query)
      (subst (λ n. Answers (take n l) b.query b.text) (sym position) of_b.answers))

pub answers_one : {S : Type 0} (w : WorldState S) → ∥ IsSafe w ∥₁ → (a b : Answered) → Contains w.answers a → Contains w.answers b
    → a.query ≡ b.query → a.position ≡ b.position → a.text ≡ b.text
answers_one w safe a b ca cb query position =
    ∥∥₁_elim safe (Coded-set (coded_list coded_ℕ) a.text b.text)
    (λ s. one_text s.explained.log w.submitted w.learnt w.replies w.answers s.explained.explains s.valid a b ca cb query position)
