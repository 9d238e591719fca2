-- A list of commands can be executed, and in one way; it has one reply at each place, and one answer to each query.
use Rattle.std.proofs.Common.{◌≡◌, ℕ, zero, suc, ◌+◌, inl, inr, List, length, Bool, true, false, Option, Some, None, slice_get, refl, sym}
use Rattle.std.proofs.Common.{ap, ◌∙◌, subst, arith}
use Rattle.store.specs.Answers.{IsAnswer}
use Rattle.store.specs.Features.{AreValid, IsDatabase}
use Rattle.store.specs.Operations.{reply, effect}
use Rattle.store.specs.Replies.{reply_code}
use Rattle.store.specs.declared.query.Query.{Query}
use Rattle.store.proofs.OneAnswer.{answer_one}
use Rattle.store.proofs.DatabaseLemmas.{none_database, effect_database}
use Rattle.store.proofs.ValidLemmas.{none_valid, effect_valid}
use Rattle.sessions.specs.declared.submission.Submission.{Submission}
use Rattle.sessions.specs.declared.command.Command.{Command}
use Rattle.sessions.specs.declared.command.Command.TheVariants.{NoOp, Request}
use Rattle.sessions.specs.Meaning.{Database, empty, HasCounted, IsNext, IsRequestAt, Execution, IsReply, RepliesAt, RequestsAreValid, Answers}
use Rattle.sessions.proofs.Counting.{labelling, labelling_is_lawful, one_labelling, has_counted_by, has_counted_or_not, counted_or_not}

-- ---- each list can be executed
-- the database behind a place
step : Bool → Option Command → Database → Database
step true (Some (Request r)) d = effect d r.op
step true (Some NoOp) d = d
step true None d = d
step false o d = d

-- the database before each place
databases : List Command → ℕ → Database
databases l zero = empty
databases l (suc i) = step (labelling l i) (slice_get l i) (databases l i)

database_behind : (l : List Command) (i : ℕ) →
    databases l (i + 1) ≡ step (labelling l i) (slice_get l i) (databases l i)
unfolding databases
database_behind l i =
    let more : suc i ≡ i + 1 = omega arith in
    subst (λ n. databases l n ≡ step (labelling l i) (slice_get l i) (databases l i)) more refl

counted_step : (l : List Command) (i : ℕ) (r : Submission) → labelling l i ≡ true → IsRequestAt l i r →
    databases l (i + 1) ≡ effect (databases l i) r.op
unfolding step
counted_step l i r counted there = database_behind l i ∙ (λ j. step (counted j) (there j) (databases l i))

passed_step : (l : List Command) (i : ℕ) → labelling l i ≡ false → databases l (i + 1) ≡ databases l i
unfolding step
passed_step l i passed = database_behind l i ∙ (λ j. step (passed j) (slice_get l i) (databases l i))

no_database_before : (l : List Command) → databases l 0 ≡ empty
unfolding databases
no_database_before l = refl

pub executed : (l : List Command) → Execution l
executed l = record {
  counts = labelling l;
  lawful = labelling_is_lawful l;
  before = databases l;
  starts = no_database_before l;
  executes = counted_step l;
  passes = passed_step l;
}

-- ---- in one way
module _ (l : List Command) (e f : Execution l) where
  pub same_counts : (i : ℕ) → e.counts i ≡ f.counts i
  same_counts = one_labelling l e.counts f.counts e.lawful f.lawful

  same_next : (i : ℕ) → e.before i ≡ f.before i → e.before (i + 1) ≡ f.before (i + 1)
  same_next i same = elim (counted_or_not (e.counts i)) [
    | inl counted ↦
        let next : IsNext l e.counts i = (e.lawful i).0 counted in
        e.executes i next.request counted next.there
        ∙ ap (λ (d : Database). effect d next.request.op) same
        ∙ sym (f.executes i next.request (sym (same_counts i) ∙ counted) next.there)
    | inr passed ↦ e.passes i passed ∙ same ∙ sym (f.passes i (sym (same_counts i) ∙ passed))
  ]

  pub same_before : (i : ℕ) → e.before i ≡ f.before i
  same_before zero = e.starts ∙ sym f.starts
  same_before (suc i) =
      let more : i + 1 ≡ suc i = omega arith in
      subst (λ n. e.before n ≡ f.before n) more (same_next i (same_before i))

  abbrev pub counted_too : (below client number : ℕ) → HasCounted l e.counts below client number →
      HasCounted l f.counts below client number
  counted_too below client number = has_counted_by l e.counts f.counts below client number (λ i h. same_counts i)

  abbrev pub counted_back : (below client number : ℕ) → HasCounted l f.counts below client number →
      HasCounted l e.counts below client number
  counted_back below client number =
      has_counted_by l f.counts e.counts below client number (λ i h. sym (same_counts i))

  same_code : (i : ℕ) (r : Submission) (a b : ℕ) → IsReply e i r a → IsReply f i r b → a ≡ b
  same_code i r a b p q = elim (has_counted_or_not l e.counts (i + 1) r.client r.number) [
    | inl c ↦ elim (has_counted_or_not l e.counts (i + 1) r.client (r.number + 1)) [
      | inl d ↦
          p.past c d
          ∙ sym (q.past (counted_too (i + 1) r.client r.number c) (counted_too (i + 1) r.client (r.number + 1) d))
      | inr none ↦
          p.kept c none
          ∙ ap (λ (d : Database). reply_code (reply d c.request.op)) (same_before c.place)
          ∙ sym (q.kept (counted_too (i + 1) r.client r.number c)
          (λ d. none (counted_back (i + 1) r.client (r.number + 1) d)))
    ]
    | inr none ↦ p.gap none ∙ sym (q.gap (λ c. none (counted_back (i + 1) r.client r.number c)))
  ]

same_requests : (l : List Command) (i : ℕ) (r q : Submission) → IsRequestAt l i r → IsRequestAt l i q → r ≡ q
same_requests l i r q e f = let same : Some (Request r) ≡ Some (Request q) = sym e ∙ f in cc

pub one_reply : (l : List Command) (i : ℕ) (r q : Submission) (a b : ℕ) → RepliesAt l i r a → RepliesAt l i q b → a ≡ b
one_reply l i r q a b p s =
    let there : r ≡ q = same_requests l i r q p.there s.there in
    same_code l p.execution s.execution i r a b p.reply
    (subst (λ (x : Submission). IsReply s.execution i x b) (sym there) s.reply)

-- ---- each place has a database
module _ (l : List Command) (e : Execution l) where
  database_next : (i : ℕ) → IsDatabase (e.before i) → IsDatabase (e.before (i + 1))
  database_next i db = elim (counted_or_not (e.counts i)) [
    | inl counted ↦
        let next : IsNext l e.counts i = (e.lawful i).0 counted in
        let made : IsDatabase (effect (e.before i) next.request.op) = effect_database (e.before i) next.request.op db in
        subst IsDatabase (sym (e.executes i next.request counted next.there)) made
    | inr passed ↦ subst IsDatabase (sym (e.passes i passed)) db
  ]

  pub database_before : (i : ℕ) → IsDatabase (e.before i)
  database_before zero = subst IsDatabase (sym e.starts) none_database
  database_before (suc i) =
      let more : i + 1 ≡ suc i = omega arith in
      subst (λ n. IsDatabase (e.before n)) more (database_next i (database_before i))

-- ---- one answer to each query
-- the features stay valid, where what the requests bring is
module _ (l : List Command) (sound : RequestsAreValid l) (e : Execution l) where
  valid_next : (i : ℕ) → AreValid (e.before i) → AreValid (e.before (i + 1))
  valid_next i valid = elim (counted_or_not (e.counts i)) [
    | inl counted ↦
        let next : IsNext l e.counts i = (e.lawful i).0 counted in
        let brought : AreValid (effect (e.before i) next.request.op) =
        effect_valid (e.before i) next.request.op valid (sound.each i next.request next.there) in
        subst AreValid (sym (e.executes i next.request counted next.there)) brought
    | inr passed ↦ subst AreValid (sym (e.passes i passed)) valid
  ]

  valid_before : (i : ℕ) → AreValid (e.before i)
  valid_before zero = subst AreValid (sym e.starts) none_valid
  valid_before (suc i) =
      let more : i + 1 ≡ suc i = omega arith in
      subst (λ n. AreValid (e.before n)) more (valid_next i (valid_before i))

pub one_answer : (l : List Command) (query : Query) (a b : List ℕ) → RequestsAreValid l → Answers l query a → Answers l query b →
    a ≡ b
one_answer l query a b sound p q =
    let end = length l in
    let same : q.execution.before end ≡ p.execution.before end = same_before l q.execution p.execution end in
    let told : IsAnswer (p.execution.before end) query b = subst (λ fs. IsAnswer fs query b) same q.says in
    answer_one (p.execution.before end) (valid_before l sound p.execution end) query a b p.says told
