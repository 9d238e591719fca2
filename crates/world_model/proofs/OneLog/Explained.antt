-- One list of commands explains what is told: at each slot of the log what was learnt there, or a no-op.
use Rattle.std.proofs.Common.{◌≡◌, ℕ, zero, suc, ◌+◌, ◌<◌, ◌≤◌, ◌⊎◌, inl, inr, List, [], ◌∷◌, length, take, Some, None, Contains}
use Rattle.std.proofs.Common.{slice_get, refl, sym, ap, ◌∙◌, subst, arith}
use Rattle.std.proofs.lemmas.Bool.{cases_eq}
use Rattle.std.proofs.lemmas.List.Elements.{Contains-append_left, Contains-append_right, Contains-append_cases, Contains-push}
use Rattle.std.proofs.lemmas.List.Elements.{Contains-push_cases}
use Rattle.std.proofs.lemmas.Option.{same_Some, slice_get_within}
use Rattle.stable.specs.Records.{Records}
use Rattle.stable.specs.Script.{Script}
use Rattle.synod.specs.declared.slot.TheConstants.{SLOTS}
use Rattle.synod.proofs.Thinking.{none_in}
use Rattle.sessions.specs.Meaning.{Answers}
use Rattle.sessions.specs.SessionReplies.{outcome_code}
use Rattle.sessions.specs.declared.command.Command.{Command}
use Rattle.sessions.specs.declared.command.Command.TheVariants.{NoOp}
use Rattle.node_model.specs.Composition.{IsReplyOf}
use Rattle.world_model.specs.declared.lists.Submitted.{Submitted}
use Rattle.world_model.specs.declared.lists.LearntEntry.{LearntEntry}
use Rattle.world_model.specs.declared.lists.Replied.{Replied}
use Rattle.world_model.specs.declared.lists.Answered.{Answered}
use Rattle.world_model.specs.Explaining.{ExplainsReply, ExplainsAnswer, IsExplained, LearntAgree, LearntInLog, LearntGrounded}
use Rattle.world_model.specs.Outputs.{executed_of}
use Rattle.world_model.specs.Submissions.{IsGrounded}
use Rattle.world_model.specs.Telling.{WasLearnt, WereLearnt, TellsReply, TellsAnswer, WorldIsBacked}
use Rattle.world_model.specs.Worlds.{WorldState}
use Rattle.sessions.proofs.Agreements.{AgreeBelow, replies_over}

-- ---- a list of so many commands
table : (ℕ → Command) → ℕ → List Command
table f zero = []
table f (suc n) = f zero ∷ table (λ i. f (suc i)) n

table_length : (f : ℕ → Command) (n : ℕ) → length (table f n) ≡ n
unfolding table
table_length f zero = refl
table_length f (suc n) = ap suc (table_length (λ i. f (suc i)) n)

table_has : (f : ℕ → Command) (n i : ℕ) → i < n → slice_get (table f n) i ≡ Some (f i)
unfolding table
table_has f zero i h = absurd (omega (arith, h))
table_has f (suc n) zero h = refl
table_has f (suc n) (suc i) h = table_has (λ j. f (suc j)) n i (omega (arith, h))

table_only : (f : ℕ → Command) (n i : ℕ) (c : Command) → slice_get (table f n) i ≡ Some c → f i ≡ c
table_only f n i c e =
    let within : i < length (table f n) = slice_get_within (table f n) i c e in
    same_Some (f i) c (sym (table_has f n i (omega (arith, within, table_length f n))) ∙ e)

-- ---- what nodes have learnt begins the list
-- each command of the one stands at its place in the other
abbrev pub IsBeginning : List Command → List Command → Type 0
IsBeginning log l = (i : ℕ) (c : Command) → slice_get log i ≡ Some c → slice_get l i ≡ Some c

pub begins_with : (log l : List Command) → IsBeginning log l → (length log ≤ length l) × (take (length log) l ≡ log)
begins_with [] l b = (omega arith, refl)
begins_with (c ∷ log) [] b = absurd (let h : None ≡ Some c = b zero c refl in cc)
begins_with (c ∷ log) (d ∷ l) b =
    let head : d ≡ c = same_Some d c (b zero c refl) in
    let rest = begins_with log l (λ i e h. b (suc i) e h) in
    (omega (arith, rest.0), ap (λ (x : Command). x ∷ take (length log) l) head ∙ ap (λ (xs : List Command). c ∷ xs) rest.1)

-- an answer over such a beginning is the list's at that position
answer_of : (l log : List Command) (a : Answered) → IsBeginning log l → a.position ≡ length log → Answers log a.query a.text
    → ExplainsAnswer l a
answer_of l log a begins position answers =
    let first = begins_with log l begins in
    record {
      within = subst (λ n. n ≤ length l) (sym position) first.0;
      answers = subst (λ (x : List Command). Answers x a.query a.text)
          (sym (ap (λ n. take n l) position ∙ first.1)) answers;
    }

-- its first commands are those of the list
first_agree : (log l : List Command) → IsBeginning log l → (n : ℕ) → n ≤ length log → AgreeBelow (take n log) l n
first_agree log l b zero h i below = absurd (omega (arith, below))
first_agree [] l b (suc n) h i below = absurd (omega (arith, h))
first_agree (c ∷ log) l b (suc n) h zero below = sym (b zero c refl)
first_agree (c ∷ log) [] b (suc n) h (suc i) below = absurd (let none : None ≡ Some c = b zero c refl in cc)
first_agree (c ∷ log) (d ∷ l) b (suc n) h (suc i) below =
    first_agree log l (λ j e f. b (suc j) e f) n (omega (arith, h)) i (omega (arith, below))

-- a reply over such a beginning is the list's
reply_of : (l log : List Command) (p : Replied) → IsBeginning log l → IsReplyOf log (executed_of p) → ExplainsReply l p
reply_of l log p begins r =
    let within : r.place < length log = slice_get_within log r.place _ r.there in
    record {
      place = r.place;
      below = let next : suc r.place ≡ r.place + 1 = omega arith in r.position_ ∙ next;
      request = r.request;
      of_client = r.client_;
      of_number = r.number_;
      replies = replies_over (take (suc r.place) log) l (suc r.place)
          (first_agree log l begins (suc r.place) (omega (arith, within)))
          r.place r.request (outcome_code p.reply) (omega arith) r.reply_;
    }

-- ---- what was learnt at a slot
-- some command, or none
abbrev Looked : List LearntEntry → ℕ → Type 0
Looked learnt slot = ((c : Command) × WasLearnt learnt slot c) ⊎ ((t : LearntEntry) → Contains learnt t → t.slot ≡ slot → ⊥)

look_on : (t : LearntEntry) (learnt : List LearntEntry) (slot : ℕ) → (t.slot ≡ slot → ⊥) → Looked learnt slot → Looked (t ∷ learnt) slot
look_on t learnt slot other (inl (c, was)) = inl (
  c,
  record {
    entry = was.entry;
    there = Contains-append_right (t ∷ []) learnt was.entry was.there;
    at = was.at;
    holds = was.holds;
  },
)
look_on t learnt slot other (inr none) = inr (λ u there at. elim (Contains-append_cases (t ∷ []) learnt u there) [
  | inl first ↦ elim (Contains-push_cases [] t u first) [
    | inl nothing ↦ none_in u nothing
    | inr same ↦ other (ap (λ (x : LearntEntry). x.slot) same ∙ at)
  ]
  | inr later ↦ none u later at
])

look : (learnt : List LearntEntry) (slot : ℕ) → Looked learnt slot
look [] slot = inr (λ t there at. none_in t there)
look (t ∷ learnt) slot = elim (cases_eq t.slot slot) [
  | inl at ↦ inl (
    t.command,
    record {
      entry = t;
      there = Contains-append_left (t ∷ []) learnt t (Contains-push [] t);
      at = at;
      holds = refl;
    },
  )
  | inr other ↦ look_on t learnt slot other (look learnt slot)
]

-- and a no-op where there is none
abbrev command_of : {learnt : List LearntEntry} {slot : ℕ} → Looked learnt slot → Command
command_of (inl some) = some.0
command_of (inr none) = NoOp

-- ---- the list
module _ (submitted : List Submitted) (learnt : List LearntEntry) (agree : LearntAgree learnt)
    (grounded : LearntGrounded submitted learnt) where
  looked_agrees : (t : LearntEntry) → Contains learnt t → (k : Looked learnt t.slot) → command_of k ≡ t.command
  looked_agrees t there (inl (c, was)) = sym was.holds ∙ agree was.entry t was.there there was.at
  looked_agrees t there (inr none) = absurd (none t there refl)

  looked_grounded : (slot : ℕ) (k : Looked learnt slot) → IsGrounded submitted (command_of k)
  looked_grounded slot (inl (c, was)) = subst (IsGrounded submitted) was.holds (grounded was.entry was.there)
  looked_grounded slot (inr none) = tt

  command_at : ℕ → Command
  command_at slot = command_of (look learnt slot)

  module _ (n : ℕ) (in_log : (t : LearntEntry) → Contains learnt t → t.slot < n) where
    whole : List Command
    whole = table command_at n

    learnt_there : (t : LearntEntry) → Contains learnt t → slice_get whole t.slot ≡ Some t.command
    unfolding whole command_at
    learnt_there t there =
        table_has command_at n t.slot (in_log t there)
        ∙ ap (λ (c : Command). Some c) (looked_agrees t there (look learnt t.slot))

    grounded_there : (i : ℕ) (c : Command) → slice_get whole i ≡ Some c → IsGrounded submitted c
    unfolding whole command_at
    grounded_there i c e = subst (IsGrounded submitted) (table_only command_at n i c e) (looked_grounded i (look learnt i))

    fits_there : length whole ≤ n
    unfolding whole
    fits_there = omega (arith, table_length command_at n)

    -- what was learnt from the first slot on begins it
    begins_so : (log : List Command) → WereLearnt learnt log → IsBeginning log whole
    begins_so log known i c e =
        let was = known i c e in
        subst (λ j. slice_get whole j ≡ Some c) was.at (learnt_there was.entry was.there ∙ ap (λ (d : Command). Some d) was.holds)

    reply_there : (p : Replied) → TellsReply learnt p → ExplainsReply whole p
    reply_there p t = reply_of whole t.log p (begins_so t.log t.known) t.replies

    answer_there : (a : Answered) → TellsAnswer learnt a → ExplainsAnswer whole a
    answer_there a t = answer_of whole t.log a (begins_so t.log t.known) t.position t.answers

-- what is told is explained
pub explained : {S : Type 0} (contents : Script S → Records) (w : WorldState S) → WorldIsBacked contents w → LearntAgree w.learnt → LearntInLog w.learnt
    → LearntGrounded w.submitted w.learnt → IsExplained w.submitted w.learnt w.replies w.answers
explained contents w tells agree in_log grounded = record {
  log = whole w.submitted w.learnt agree grounded SLOTS in_log;
  explains = record {
    fits = fits_there w.submitted w.learnt agree grounded SLOTS in_log;
    grounded = grounded_there w.submitted w.learnt agree grounded SLOTS in_log;
    entered = learnt_there w.submitted w.learnt agree grounded SLOTS in_log;
    replied = λ p c. reply_there w.submitted w.learnt agree grounded SLOTS in_log p (tells.replied p c);
    answered = λ a c. answer_there w.submitted w.learnt agree grounded SLOTS in_log a (tells.answered a c);
  };
}
