-- Each line of a client is answered by one text, or waits for it, one part of a turn after the other.
use Rattle.std.proofs.Common.{◌≡◌, ℕ, ◌+◌, ◌<◌, ◌==◌, Bool, true, false, not, cond, List, [], ◌∷◌, ◌++◌, map, length, take, get_or, Contains, count_by, refl, sym, ap, subst, ◌∙◌, arith, append-nil}
use Rattle.std.specs.List.{filter}
use Rattle.std.specs.Global.{Vec}
use Rattle.std.proofs.lemmas.Bool.{eqb-true}
use Rattle.std.proofs.lemmas.List.{map_push}
use Rattle.std.proofs.lemmas.List.Elements.{Contains-append_left, Contains-append_right, Contains-push, filter_more}
use Rattle.world_model.specs.declared.lists.Replied.{Replied}
use Rattle.serving.specs.Claiming.{is_for, is_of}
use Rattle.serving.specs.declared.claims.Claim.{Claim}
use Rattle.serving.specs.declared.waiting.Due.{Due}
use Rattle.serving.specs.declared.waiting.Due.TheVariants as due
use Rattle.serving.specs.declared.waiting.Question.{Question}
use Rattle.serving.specs.Owing.{AnswersEach, KeepsEach, is_line_of, is_text_to, owed_to, reply_line, reply_told}
use Rattle.serving.specs.Tapes.{Talk, Heard, NothingHeard, Went, Told}
use Rattle.serving.specs.Waitings.{IsFirstRipe, WaitingState, is_asked_by, is_told_to}
use Rattle.serving.proofs.Counts.{count_append, count_cons, count_kept, count_map, count_none, count_one, count_parts, count_push}

-- ---- what is said and what waits, by connection
-- for each connection that doesn't go, as many lines come as texts and waiting lines
pub keeps_by : (said : List Talk) (old new : WaitingState)
    → ((c : ℕ) → ¬ Contains said (Went c)
    → count_by (is_line_of c) said + owed_to c old ≡ count_by (is_text_to c) said + owed_to c new)
    → KeepsEach said old new
keeps_by said old new balance = record {
  keeps = λ talk h. record {
    each = λ c stays.
        let before = h.each c (λ went. stays (Contains-append_left talk said (Went c) went)) in
        let since = balance c (λ went. stays (Contains-append_right talk said (Went c) went)) in
        omega (arith, before, since, count_append (is_line_of c) talk said, count_append (is_text_to c) talk said);
  };
}

-- nothing is said, and what waits waits on
pub keeps_none : (old new : WaitingState) → new ≡ old → KeepsEach [] old new
keeps_none old new same = record {
  keeps = λ talk h. subst (λ (w : WaitingState). AnswersEach (talk ++ []) w) (sym same)
      (subst (λ (t : List Talk). AnswersEach t old) (sym (append-nil talk)) h);
}

-- no client does anything
pub keeps_nothing_heard : (waiting : WaitingState) (lines : List ℕ) → KeepsEach (NothingHeard lines ∷ []) waiting waiting
keeps_nothing_heard waiting lines =
    keeps_by (NothingHeard lines ∷ []) waiting waiting
    (λ c stays. omega (arith, count_one (is_line_of c) (NothingHeard lines), count_one (is_text_to c) (NothingHeard lines)))

-- a line comes, and one more waits
heard_balance : (c connection : ℕ) (text : List ℕ) (old new : WaitingState)
    → owed_to c new ≡ owed_to c old + cond (connection == c) 1 0
    → count_by (is_line_of c) (Heard connection text ∷ []) + owed_to c old
    ≡ count_by (is_text_to c) (Heard connection text ∷ []) + owed_to c new
heard_balance c connection text old new more =
    omega (arith, more, count_one (is_line_of c) (Heard connection text), count_one (is_text_to c) (Heard connection text))

pub keeps_claim : (old new : WaitingState) (connection : ℕ) (text : List ℕ) (claim : Claim) → claim.connection ≡ connection
    → new ≡ record old { claims = old.claims ++ claim ∷ [] } → KeepsEach (Heard connection text ∷ []) old new
keeps_claim old new connection text claim by is =
    keeps_by (Heard connection text ∷ []) old new
    (λ c stays. heard_balance c connection text old new
    (ap (owed_to c) is ∙ omega (arith, count_push (is_for c) old.claims claim, ap {B = ℕ} (λ (n : ℕ). cond (n == c) 1 0) by)))

-- what the connection is told for it is due
pub keeps_due : (old new : WaitingState) (connection : ℕ) (text : List ℕ) (what : Due)
    → ((c : ℕ) → is_told_to c what ≡ (connection == c))
    → new ≡ record old { due = old.due ++ what ∷ [] } → KeepsEach (Heard connection text ∷ []) old new
keeps_due old new connection text what to is =
    keeps_by (Heard connection text ∷ []) old new
    (λ c stays. heard_balance c connection text old new
    (ap (owed_to c) is ∙ omega (arith, count_push (is_told_to c) old.due what, ap {B = ℕ} (λ (b : Bool). cond b 1 0) (to c))))

pub keeps_line_due : (old new : WaitingState) (connection : ℕ) (text : List ℕ) (line : Vec ℕ)
    → new ≡ record old { due = old.due ++ due.Line connection line ∷ [] } → KeepsEach (Heard connection text ∷ []) old new
keeps_line_due old new connection text line is =
    keeps_due old new connection text (due.Line connection line) (λ c. refl) is

pub keeps_question_due : (old new : WaitingState) (connection : ℕ) (text : List ℕ) (question : Question)
    → question.connection ≡ connection → new ≡ record old { due = old.due ++ due.Answer question ∷ [] }
    → KeepsEach (Heard connection text ∷ []) old new
keeps_question_due old new connection text question by is =
    keeps_due old new connection text (due.Answer question) (λ c. ap (λ (n : ℕ). n == c) by) is

-- ---- a connection goes
other_connection : (b : Bool) (x c connection : ℕ) → (c ≡ connection → ⊥) → (x == connection) ≡ true → (x == c) ≡ b → b ≡ false
other_connection false x c connection apart gone is = refl
other_connection true x c connection apart gone is =
    absurd (apart (sym (eqb-true x c is) ∙ eqb-true x connection gone))

pub keeps_gone : (old new : WaitingState) (connection : ℕ) → new ≡ record old {
  claims = filter (λ claim. not (is_for connection claim)) old.claims;
  questions = filter (λ question. not (is_asked_by connection question)) old.questions;
  due = filter (λ due. not (is_told_to connection due)) old.due;
} → KeepsEach (Went connection ∷ []) old new
keeps_gone old new connection is =
    keeps_by (Went connection ∷ []) old new
    (λ c stays.
    let apart : c ≡ connection → ⊥ =
    λ e. stays (subst (λ (n : ℕ). Contains (Went connection ∷ []) (Went n)) (sym e) (Contains-push [] (Went connection))) in
    let claims = count_kept (is_for c) (is_for connection)
    (λ claim gone. other_connection (is_for c claim) claim.connection c connection apart gone refl) old.claims in
    let questions = count_kept (is_asked_by c) (is_asked_by connection)
    (λ question gone. other_connection (is_asked_by c question) question.connection c connection apart gone refl) old.questions in
    let told = count_kept (is_told_to c) (is_told_to connection) (due_of_another c connection apart) old.due in
    omega (
      arith,
      ap (owed_to c) is,
      claims,
      questions,
      told,
      count_one (is_line_of c) (Went connection),
      count_one (is_text_to c) (Went connection),
    ))
  where
    due_of_another : (c connection : ℕ) → (c ≡ connection → ⊥) → (what : Due) → is_told_to connection what ≡ true
        → is_told_to c what ≡ false
    due_of_another c connection apart (due.Answer question) gone =
        other_connection (question.connection == c) question.connection c connection apart gone refl
    due_of_another c connection apart (due.Line receiver line) gone =
        other_connection (receiver == c) receiver c connection apart gone refl

-- ---- what waits is told
told_balance : (c connection : ℕ) (text : List ℕ) (old new : WaitingState)
    → owed_to c old ≡ cond (connection == c) 1 0 + owed_to c new
    → count_by (is_line_of c) (Told connection text ∷ []) + owed_to c old
    ≡ count_by (is_text_to c) (Told connection text ∷ []) + owed_to c new
told_balance c connection text old new less =
    omega (arith, less, count_one (is_line_of c) (Told connection text), count_one (is_text_to c) (Told connection text))

-- a line that was due
pub keeps_line_told : (old new : WaitingState) (connection : ℕ) (line : Vec ℕ) (text : List ℕ)
    → old.due ≡ due.Line connection line ∷ new.due → new ≡ record old { due = new.due } → KeepsEach (Told connection text ∷ []) old new
keeps_line_told old new connection line text next is =
    keeps_by (Told connection text ∷ []) old new
    (λ c stays. told_balance c connection text old new
    (omega (
      arith,
      ap (owed_to c) is,
      ap (λ (ds : List Due). count_by (is_told_to c) ds) next,
      count_cons (is_told_to c) (due.Line connection line) new.due,
    )))

-- the query that is the next that is due
pub keeps_answer_told : (old : WaitingState) (question : Question) (text : List ℕ)
    → KeepsEach (Told question.connection text ∷ []) (record old { due = due.Answer question ∷ old.due }) old
keeps_answer_told old question text =
    keeps_by (Told question.connection text ∷ []) (record old { due = due.Answer question ∷ old.due }) old
    (λ c stays. told_balance c question.connection text (record old { due = due.Answer question ∷ old.due }) old
    (omega (arith, count_cons (is_told_to c) (due.Answer question) old.due)))

-- ---- queries are held back, and ripen
pub keeps_held : (old new : WaitingState) (question : Question)
    → new ≡ record old { questions = old.questions ++ question ∷ [] }
    → KeepsEach [] (record old { due = due.Answer question ∷ old.due }) new
keeps_held old new question is =
    keeps_by [] (record old { due = due.Answer question ∷ old.due }) new
    (λ c stays. omega (
      arith,
      ap (owed_to c) is,
      count_push (is_asked_by c) old.questions question,
      count_cons (is_told_to c) (due.Answer question) old.due,
    ))

pub keeps_ripe : (old new : WaitingState) (position : ℕ) (question : Question)
    → IsFirstRipe position old.questions new.questions question → new ≡ record old { questions = new.questions }
    → KeepsEach [] old (record new { due = due.Answer question ∷ new.due })
keeps_ripe old new position question ripe is =
    keeps_by [] old (record new { due = due.Answer question ∷ new.due })
    (λ c stays.
    let P = is_asked_by c in
    let all = ap (λ (qs : List Question). count_by P qs) ripe.split in
    let others = ap (λ (qs : List Question). count_by P qs) ripe.rest in
    omega (
      arith,
      ap (owed_to c) is,
      all,
      others,
      count_append P ripe.before (question ∷ ripe.after),
      count_cons P question ripe.after,
      count_append P ripe.before ripe.after,
      count_cons (is_told_to c) (due.Answer question) new.due,
    ))

-- ---- replies
-- the reply was told to all who waited for it, and nobody waits for it any more
pub keeps_settled : (old new : WaitingState) (replied : Replied) (client number : ℕ) → client ≡ replied.client
    → number ≡ replied.number
    → new ≡ record old { claims = filter (λ claim. not (is_of client number claim)) old.claims }
    → KeepsEach (reply_told replied old.claims) old new
keeps_settled old new replied client number of numbered is =
    let test : Claim → Bool = is_of replied.client replied.number in
    let rest : new ≡ record old { claims = filter (λ claim. not (test claim)) old.claims } =
    is ∙ ap (λ (k : ℕ). record old { claims = filter (λ claim. not (is_of k number claim)) old.claims }) of
    ∙ ap (λ (k : ℕ). record old { claims = filter (λ claim. not (is_of replied.client k claim)) old.claims }) numbered in
    let tells : Claim → Talk = λ claim. Told claim.connection (reply_line replied) in
    let settled = filter test old.claims in
    keeps_by (reply_told replied old.claims) old new
    (λ c stays.
    omega (
      arith,
      ap (owed_to c) rest,
      count_parts (is_for c) test old.claims,
      count_map (is_text_to c) tells settled,
      count_map (is_line_of c) tells settled,
      count_none (λ (claim : Claim). is_line_of c (tells claim)) settled (λ claim. refl),
    ))

-- the reply is told to one more who waits for it
pub reply_more : (replied : Replied) (claims : List Claim) (i : ℕ) (d : Claim) → i < length claims
    → is_of replied.client replied.number (get_or claims i d) ≡ true
    → reply_told replied (take (i + 1) claims)
    ≡ reply_told replied (take i claims) ++ Told (get_or claims i d).connection (reply_line replied) ∷ []
reply_more replied claims i d lt waits =
    let test : Claim → Bool = is_of replied.client replied.number in
    let tells : Claim → Talk = λ claim. Told claim.connection (reply_line replied) in
    let one = get_or claims i d in
    ap (map tells) (filter_more test claims i d lt ∙ ap (λ b. filter test (take i claims) ++ cond b (one ∷ []) []) waits)
    ∙ map_push tells (filter test (take i claims)) one
