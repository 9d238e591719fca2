-- Moves in which a process lets out what it holds, answers what is due, and hands on requests.
use Rattle.std.proofs.Common.{◌≡◌, ◌≤◌, ◌<◌, ◌+◌, ◌∙◌, ℕ, nat_lt, Bool, false, All, List, [], ◌∷◌, ◌++◌, not, length, take, get_or, Option, Some, None, Result, Ok, Err, MatchOption, inl, inr, true, refl, sym, ap, subst, append-nil, arith}
use Rattle.std.specs.Global.{Vec}
use Rattle.std.specs.List.{filter, HoldsAt}
use Rattle.std.proofs.Math.Seq.{get_or-append_seam}
use Rattle.std.proofs.lemmas.Bool.{cases_lt, le-ltb, lt-ltb}
use Rattle.std.proofs.lemmas.List.Filters.{length-filter_both}
use Rattle.std.proofs.lemmas.List.{length-append, length-map, take_more}
use Rattle.stable.specs.declared.stable.Stable.{Ghosts}
use Rattle.wire.specs.declared.frames.envelope.Envelope.{Envelope}
use Rattle.node_model.specs.Faults.{node_code}
use Rattle.node_model.specs.Nodes.{NodeState}
use Rattle.node_model.specs.Replicas.{ReplicaState, position}
use Rattle.node_model.specs.declared.fault.NodeFault.TheVariants as node_fault
use Rattle.world_model.specs.Lives.{Asked}
use Rattle.world_model.specs.declared.lists.Answered.{Answered}
use Rattle.world_model.specs.declared.lists.Replied.{Replied}
use Rattle.life.specs.Lives.{Does, LifeState}
use Rattle.life.specs.Telling.{nothing}
use Rattle.life.specs.declared.fault.LifeFault.{LifeFault}
use Rattle.clients.specs.AnswerLines.{answer_line, text_line}
use Rattle.clients.specs.declared.answer.ClientAnswer.TheVariants as answer
use Rattle.serving.specs.Claiming.{is_of}
use Rattle.serving.specs.Knowing.{IsPosition}
use Rattle.serving.specs.Moves.{AreRepliesTold, IsAnswered, IsNextAnswered, Moves, Telling, owing}
use Rattle.serving.specs.Moves.AreRepliesTold.{none as none_told, next as next_told}
use Rattle.serving.specs.Moves.IsNextAnswered.{was_held_back, is_due}
use Rattle.serving.specs.Moves.Move.{answers as answering, clears as clearing, hands_on as handing_on, holds_back as holding_back, lets_out as letting_out, tells as telling, turns_away as turning_away}
use Rattle.serving.specs.Outgoing.{AreFramesOf, ArePacketsOf}
use Rattle.serving.specs.Owing.{reply_line, reply_told}
use Rattle.serving.specs.Processes.{ProcessState}
use Rattle.serving.specs.Refusals.{IsRefusal}
use Rattle.serving.specs.Requesting.{HandsOnFirst, RequestState, is_marked, unreplied}
use Rattle.serving.specs.Resting.{IsFull, NoneIsRipe}
use Rattle.serving.specs.Serving.{Passes}
use Rattle.serving.specs.Tapes.{Carried, Talk, Told, HasPassed}
use Rattle.serving.specs.Timings.{all_own_seen, leader_in}
use Rattle.serving.specs.Waitings.{IsFirstRipe, IsHeldBack, WaitingState, has_any}
use Rattle.serving.specs.declared.claims.Claim.{Claim}
use Rattle.serving.specs.declared.waiting.Due.{Due}
use Rattle.serving.specs.declared.waiting.Due.TheVariants as due
use Rattle.serving.specs.declared.waiting.Question.{Question}
use Rattle.serving.proofs.Moving.{BothTold, ClientsTold, clients_told_quiet, moves_one, moves_same, moves_to}
use Rattle.serving.proofs.Passing.{passes_none, passes_then}
use Rattle.serving.proofs.Ripening.{position_once}

-- ---- positions
position_where : (up : Option ReplicaState) → (p : ℕ) × MatchOption up (p ≡ 0) (λ m. p ≡ position m)
position_where None = (0, refl)
position_where (Some m) = (position m, refl)

-- a node is somewhere
pub position_of : {S : Type 0} (n : NodeState S) → (p : ℕ) × IsPosition n p
position_of n = position_where n.up

pub same_position : {S : Type 0} (n : NodeState S) (a b : ℕ) → IsPosition n a → IsPosition n b → a ≡ b
same_position n a b here there = position_once n.up a b here there

-- so it isn't before and behind
pub never_before : {S : Type 0} (n : NodeState S) (a b from : ℕ) → IsPosition n a → IsPosition n b → a < from → from ≤ b → ⊥
never_before n a b from here there before behind = omega (arith, same_position n a b here there, before, behind)

-- ---- processes, field by field
pub process_same : {S : Type 0} (p q : ProcessState S) → p.own ≡ q.own → p.nodes ≡ q.nodes → p.life ≡ q.life → p.waiting ≡ q.waiting
    → p.requests ≡ q.requests → p.timing ≡ q.timing → p ≡ q
process_same p q own nodes life waiting requests timing = λ i. record {
  own = own i;
  nodes = nodes i;
  life = life i;
  waiting = waiting i;
  requests = requests i;
  timing = timing i;
}

-- ---- replies
pub replies_none : {D : Type 0} (tape : D → List Talk) (Talks : D → Type 0) (claims : List Claim) (d : D)
    → Passes tape Talks (λ said. AreRepliesTold claims [] said claims) d d
replies_none tape Talks claims d = record { passed = []; are = none_told; passes = passes_none tape Talks d }

pub replies_more : {D : Type 0} (tape : D → List Talk) (Talks : D → Type 0) (claims : List Claim) (replies : List Replied) (i : ℕ)
    (replied : Replied) → i < length replies → replied ≡ get_or replies i replied → (left news : List Claim) (number : ℕ)
    → number ≡ replied.number → news ≡ filter (λ claim. not (is_of replied.client number claim)) left → (a b c : D)
    → Passes tape Talks (λ said. AreRepliesTold claims (take i replies) said left) a b
    → HasPassed tape Talks b (reply_told replied left) c
    → Passes tape Talks (λ said. AreRepliesTold claims (take (i + 1) replies) said news) a c
replies_more tape Talks claims replies i replied lt at left news number numbered is a b c h passed =
    let more : take i replies ++ replied ∷ [] ≡ take (i + 1) replies =
    sym (take_more replies i replied lt ∙ ap (λ (r : Replied). take i replies ++ r ∷ []) (sym at)) in
    let gone : filter (λ claim. not (is_of replied.client replied.number claim)) left ≡ news =
    sym (is ∙ ap (λ (n : ℕ). filter (λ claim. not (is_of replied.client n claim)) left) numbered) in
    record {
      passed = h.passed ++ reply_told replied left;
      are = subst (λ (rs : List Replied). AreRepliesTold claims rs (h.passed ++ reply_told replied left) news) more
          (subst (λ (cs : List Claim). AreRepliesTold claims (take i replies ++ replied ∷ []) (h.passed ++ reply_told replied left) cs)
          gone (next_told (take i replies) h.passed left replied h.are));
      passes = passes_then tape Talks a b c h.passed (reply_told replied left) h.passes passed;
    }

-- who was told one waits no more
pub replies_counted : (claims : List Claim) (replies : List Replied) (said : List Talk) (left : List Claim)
    → AreRepliesTold claims replies said left → length said + length left ≡ length claims
replies_counted claims _ _ _ none_told = omega arith
replies_counted claims _ _ _ (next_told replies said left replied before) =
    let P = is_of replied.client replied.number in
    omega (
      arith,
      replies_counted claims replies said left before,
      length-append said (reply_told replied left),
      length-map (filter P left) (λ (claim : Claim). Told claim.connection (reply_line replied)),
      length-filter_both P (λ (claim : Claim). not (P claim)) (λ claim. refl) left,
    )

-- so one was told where fewer wait
pub fewer_wait : (said : List Talk) (left waited : ℕ) → length said + left ≡ waited → nat_lt left waited ≡ has_any said
fewer_wait [] left waited is = le-ltb left waited (omega (arith, is))
fewer_wait (x ∷ said) left waited is = lt-ltb left waited (omega (arith, is))

-- nothing else changes
pub others_settled : {S : Type 0} (p mid : ProcessState S) (waiting : WaitingState) (requests : List RequestState) (claims : List Claim)
    → mid ≡ record p { waiting = record p.waiting { claims = mid.waiting.claims }; requests = mid.requests }
    → waiting ≡ record mid.waiting { claims = claims }
    → record mid { waiting = waiting; requests = requests }
    ≡ record p { waiting = record p.waiting { claims = waiting.claims }; requests = requests }
others_settled {S} p mid waiting requests claims is settled =
    let waits : mid.waiting ≡ record p.waiting { claims = mid.waiting.claims } = ap (λ (q : ProcessState S). q.waiting) is in
    let now : waiting ≡ record p.waiting { claims = claims } = settled ∙ ap (λ (w : WaitingState). record w { claims = claims }) waits in
    let there : waiting ≡ record p.waiting { claims = waiting.claims } =
    now ∙ ap (λ (cs : List Claim). record p.waiting { claims = cs }) (sym (ap (λ (w : WaitingState). w.claims) now)) in
    process_same (record mid { waiting = waiting; requests = requests })
    (record p { waiting = record p.waiting { claims = waiting.claims }; requests = requests }) (ap (λ (q : ProcessState S). q.own) is)
    (ap (λ (q : ProcessState S). q.nodes) is) (ap (λ (q : ProcessState S). q.life) is) there refl
    (ap (λ (q : ProcessState S). q.timing) is)

-- ---- answers
pub never_empty : {A : Type 0} (before : List A) (x : A) (after : List A) → before ++ x ∷ after ≡ [] → ⊥
never_empty [] x after is = absurd (cc)
never_empty (y ∷ before) x after is = absurd (cc)

module _ {S D : Type 0} (storages : Ghosts S) (tape : D → List Talk) (Talks : D → Type 0) where
  abbrev pub PassesAnswer : LifeState S → Question → LifeState S → D → D → Type 0
  PassesAnswer old question new d e = Passes tape Talks (λ said. IsAnswered storages old question said new) d e

  pub passes_answer : (old life after : LifeState S) (question : Question) (result : Result (Unit {0}) LifeFault)
      (answers : List Answered) (answered : Answered) (d e : D) → Does storages old (Asked question.query) result life
      → IsRefusal result (Ok None) → after ≡ record life { held = nothing } → answers ≡ life.held.answers
      → ((front : List Answered) (x : Answered) → answers ≡ front ++ x ∷ [] → answered ≡ x)
      → HasPassed tape Talks d (Told question.connection (text_line answered.position answered.text) ∷ []) e
      → PassesAnswer old question after d e
  passes_answer old life after question (Ok done) answers answered d e does refusal is listed last passed =
      let text : ℕ × List ℕ = does.0 in
      let mine : Answered = record { node = old.id; position = text.0; query = question.query; text = text.1 } in
      let held : life.held.answers ≡ old.held.answers ++ mine ∷ [] = ap (λ t. t.answers) does.1.held in
      let here : answered ≡ mine = last old.held.answers mine (listed ∙ held) in
      record {
        passed = Told question.connection (text_line answered.position answered.text) ∷ [];
        are = record {
          told = text;
          asked = life;
          asks = does.1;
          says = ap (λ (x : Answered). Told question.connection (text_line x.position x.text) ∷ []) here;
          leaves = is;
        };
        passes = passed;
      }
  passes_answer old life after question (Err fault) answers answered d e does refusal is listed last passed = absurd (cc)

  pub answer_keeps_own : (old new : LifeState S) (question : Question) (d e : D) → PassesAnswer old question new d e → new.own ≡ old.own
  answer_keeps_own old new question d e h = ap (λ (l : LifeState S). l.own) h.are.leaves ∙ h.are.asks.own ∙ append-nil old.own

  pub answer_holds_nothing : (old new : LifeState S) (question : Question) (d e : D) → PassesAnswer old question new d e
      → new.held ≡ nothing
  answer_holds_nothing old new question d e h = ap (λ (l : LifeState S). l.held) h.are.leaves

  -- what is asked leaves the life so, whether it is answered or held back
  pub asked_keeps_own : (old new : LifeState S) (question : Question) (has_told : Bool) (d e : D)
      → ((p : ℕ) → IsPosition old.node p → question.from ≤ p → (has_told ≡ true) × PassesAnswer old question new d e)
      → ((p : ℕ) → IsPosition old.node p → p < question.from → new ≡ old) → new.own ≡ old.own
  asked_keeps_own old new question has_told d e answers holds_back =
      let at = position_of old.node in
      elim (cases_lt at.0 question.from) [
        | inl before ↦ ap (λ (l : LifeState S). l.own) (holds_back at.0 at.1 before)
        | inr behind ↦ answer_keeps_own old new question d e (answers at.0 at.1 behind).1
      ]

  pub asked_holds_nothing : (old new : LifeState S) (question : Question) (has_told : Bool) (d e : D)
      → ((p : ℕ) → IsPosition old.node p → question.from ≤ p → (has_told ≡ true) × PassesAnswer old question new d e)
      → ((p : ℕ) → IsPosition old.node p → p < question.from → new ≡ old) → old.held ≡ nothing → new.held ≡ nothing
  asked_holds_nothing old new question has_told d e answers holds_back held =
      let at = position_of old.node in
      elim (cases_lt at.0 question.from) [
        | inl before ↦ ap (λ (l : LifeState S). l.held) (holds_back at.0 at.1 before) ∙ held
        | inr behind ↦ answer_holds_nothing old new question d e (answers at.0 at.1 behind).1
      ]

  -- ---- as moves
  module _ (now : ℕ) where
    abbrev pub PassesMoves : ProcessState S → D → ProcessState S → D → Bool → Type 0
    PassesMoves p d q e has_told = ClientsTold storages now tape Talks p d q e has_told

    passes_moves_to : (p q r : ProcessState S) (d e : D) (has_told : Bool) → PassesMoves p d q e has_told → r ≡ q
        → PassesMoves p d r e has_told
    passes_moves_to p q r d e has_told h same = subst (λ (x : ProcessState S). PassesMoves p d x e has_told) (sym same) h

    -- nothing waits otherwise
    pub passes_still : (p q : ProcessState S) (d : D) → q ≡ p → PassesMoves p d q d false
    passes_still p q d same = clients_told_quiet storages now tape Talks p q d (moves_same storages now p q same)

    passes_answering : (p q : ProcessState S) (at : ℕ) (question : Question) (waiting : WaitingState) (d e : D) → p.life.held ≡ nothing
        → IsPosition p.life.node at → IsNextAnswered at p.waiting waiting question → PassesAnswer p.life question q.life d e
        → q ≡ record p { life = q.life; waiting = waiting } → PassesMoves p d q e true
    passes_answering p q at question waiting d e held here next h is =
        let after : ProcessState S = record p { life = q.life; waiting = waiting } in
        passes_moves_to p after q d e true
        (record {
          passed = h.passed;
          are = (
            moves_one storages now p after [] h.passed (answering p at question waiting h.passed q.life held here next h.are),
            sym (ap (λ (xs : List Talk). has_any xs) h.are.says),
          );
          passes = h.passes;
        }) is

    -- the first query that is held back no more
    pub passes_ripe : (p q : ProcessState S) (at : ℕ) (question : Question) (waiting : WaitingState) (d e : D) → p.life.held ≡ nothing
        → IsPosition p.life.node at → IsFirstRipe at p.waiting.questions waiting.questions question
        → waiting ≡ record p.waiting { questions = waiting.questions } → PassesAnswer p.life question q.life d e
        → q ≡ record p { life = q.life; waiting = q.waiting } → q.waiting ≡ waiting → PassesMoves p d q e true
    passes_ripe p q at question waiting d e held here ripe others h is waits =
        passes_answering p q at question waiting d e held here (was_held_back ripe others) h
        (is ∙ ap (λ (w : WaitingState). record p { life = q.life; waiting = w }) waits)

    -- the next query that is due
    passes_due : (p q : ProcessState S) (at : ℕ) (question : Question) (waiting : WaitingState) (d e : D) → p.life.held ≡ nothing
        → IsPosition p.life.node at → All (IsHeldBack at) p.waiting.questions → p.waiting.due ≡ due.Answer question ∷ waiting.due
        → waiting ≡ record p.waiting { due = waiting.due } → question.from ≤ at → PassesAnswer p.life question q.life d e
        → q ≡ record p { life = q.life; waiting = q.waiting } → q.waiting ≡ waiting → PassesMoves p d q e true
    passes_due p q at question waiting d e held here earlier next others behind h is waits =
        passes_answering p q at question waiting d e held here (is_due earlier next others behind) h
        (is ∙ ap (λ (w : WaitingState). record p { life = q.life; waiting = w }) waits)

    -- it is held back
    passes_holding_back : (p q : ProcessState S) (at : ℕ) (question : Question) (waiting : WaitingState) (d e : D)
        → p.life.held ≡ nothing → IsPosition p.life.node at → p.waiting.due ≡ due.Answer question ∷ waiting.due
        → waiting ≡ record p.waiting { due = waiting.due } → at < question.from → e ≡ d → q.life ≡ p.life
        → q ≡ record p { life = q.life; waiting = q.waiting }
        → q.waiting ≡ record waiting { questions = waiting.questions ++ question ∷ [] } → PassesMoves p d q e false
    passes_holding_back p q at question waiting d e silent here next others before still life is waits =
        let held : WaitingState = record p.waiting { questions = p.waiting.questions ++ question ∷ []; due = waiting.due } in
        let after : ProcessState S = record p { waiting = held } in
        let now_held : q.waiting ≡ held = waits ∙ ap (λ (w : WaitingState). record w { questions = w.questions ++ question ∷ [] }) others in
        let both : record p { life = q.life; waiting = q.waiting } ≡ after = λ i. record p { life = life i; waiting = now_held i } in
        let same : q ≡ after = is ∙ both in
        let quiet : PassesMoves p d after d false =
        clients_told_quiet storages now tape Talks p after d
        (moves_one storages now p after [] [] (holding_back p at question waiting.due silent next here before)) in
        subst (λ (x : D). PassesMoves p d q x false) (sym still) (passes_moves_to p after q d d false quiet same)

    -- either
    pub passes_asked : (p q : ProcessState S) (question : Question) (waiting : WaitingState) (d e : D) (has_told : Bool)
        → p.life.held ≡ nothing
        → NoneIsRipe p.life.node p.waiting.questions
        → p.waiting.due ≡ due.Answer question ∷ waiting.due → waiting ≡ record p.waiting { due = waiting.due }
        → ((at : ℕ) → IsPosition p.life.node at → question.from ≤ at → (has_told ≡ true) × PassesAnswer p.life question q.life d e)
        → ((at : ℕ) → IsPosition p.life.node at → question.from ≤ at → q.waiting ≡ waiting)
        → ((at : ℕ) → IsPosition p.life.node at → at < question.from → (e ≡ d) × (q.life ≡ p.life) × ((has_told ≡ false)
        × (q.waiting ≡ record waiting { questions = waiting.questions ++ question ∷ [] })))
        → q ≡ record p { life = q.life; waiting = q.waiting } → PassesMoves p d q e has_told
    passes_asked p q question waiting d e has_told held ripe next others answers waits holds_back is =
        let at = position_of p.life.node in
        elim (cases_lt at.0 question.from) [
          | inl before ↦ let back = holds_back at.0 at.1 before in
              subst (λ (b : Bool). PassesMoves p d q e b) (sym back.2.0)
              (passes_holding_back p q at.0 question waiting d e held at.1 next others before back.0 back.1 is back.2.1)
          | inr behind ↦ let told = answers at.0 at.1 behind in
              subst (λ (b : Bool). PassesMoves p d q e b) (sym told.0)
              (passes_due p q at.0 question waiting d e held at.1 (ripe.held_back at.0 at.1) next others behind told.1 is
              (waits at.0 at.1 behind))
        ]

    -- a line that is due
    pub passes_line : (p : ProcessState S) (waiting : WaitingState) (what : Due) (connection : ℕ) (text : Vec ℕ) (shown : List ℕ)
        (d e : D) → p.life.held ≡ nothing → p.waiting.due ≡ what ∷ waiting.due → waiting ≡ record p.waiting { due = waiting.due }
        → what ≡ due.Line connection text → shown ≡ text.items → HasPassed tape Talks d (Told connection shown ∷ []) e
        → PassesMoves p d (record p { waiting = waiting }) e true
    passes_line p waiting what connection text shown d e silent next others is spelled passed =
        let after : ProcessState S = record p { waiting = record p.waiting { due = waiting.due } } in
        let line : p.waiting.due ≡ due.Line connection text ∷ waiting.due = next ∙ ap (λ (x : Due). x ∷ waiting.due) is in
        let moves : PassesMoves p d after e true = record {
          passed = Told connection text.items ∷ [];
          are = (
            moves_one storages now p after [] (Told connection text.items ∷ []) (telling p connection text waiting.due silent line),
            refl,
          );
          passes = subst (λ (b : List ℕ). HasPassed tape Talks d (Told connection b ∷ []) e) spelled passed;
        } in
        passes_moves_to p after (record p { waiting = waiting }) d e true moves
        (ap (λ (w : WaitingState). record p { waiting = w }) others)

-- ---- requests: the packet at the place of the one that is handed on is its packet
pub packet_of_first : (now place : ℕ) (old requests : List RequestState) (packet : List ℕ) → (h : HandsOnFirst now place old requests)
    → HoldsAt (λ (r : RequestState). packet ≡ r.packet) requests place → packet ≡ h.request.packet
packet_of_first now place old requests packet h at =
    let again = record h.request { handed_on = Some now } in
    let here : get_or requests place again ≡ again =
    subst (λ (xs : List RequestState). get_or xs place again ≡ again) (sym h.is)
    (subst (λ (k : ℕ). get_or (h.before ++ again ∷ h.after) k again ≡ again) h.at_place (get_or-append_seam h.before again h.after again)) in
    subst (λ (r : RequestState). packet ≡ r.packet) here (at again)

-- ---- where the log is full
module _ {S : Type 0} (storages : Ghosts S) (now : ℕ) where
  pub moves_turning_away : (p : ProcessState S) (waiting : WaitingState) (claim : Claim) (rest : List Claim) (refusal : Vec ℕ)
      → p.life.held ≡ nothing → IsFull p.life.node → p.waiting.claims ≡ claim ∷ rest
      → refusal.items ≡ answer_line (answer.Refused claim.client claim.number (node_code node_fault.LogFull))
      → waiting ≡ owing claim.connection refusal (record p.waiting { claims = rest })
      → Moves storages now Telling p [] [] (record p { waiting = waiting })
  moves_turning_away p waiting claim rest refusal silent full next spelled is =
      let after : ProcessState S = record p { waiting = owing claim.connection refusal (record p.waiting { claims = rest }) } in
      moves_to storages now p after (record p { waiting = waiting }) [] []
      (moves_one storages now p after [] [] (turning_away p claim rest refusal silent full next spelled))
      (ap (λ (w : WaitingState). record p { waiting = w }) is)

  pub moves_clearing : (p : ProcessState S) (requests : List RequestState) → p.life.held ≡ nothing → IsFull p.life.node → requests ≡ []
      → Moves storages now Telling p [] [] (record p { requests = requests })
  moves_clearing p requests silent full none =
      moves_to storages now p (record p { requests = [] }) (record p { requests = requests }) [] []
      (moves_one storages now p (record p { requests = [] }) [] [] (clearing p silent full))
      (ap (λ (rs : List RequestState). record p { requests = rs }) none)

  -- ---- what is held
  pub moves_letting_out : {N D : Type 0} (carried : N → List Carried) (Carries : N → Type 0) (talk : D → List Talk) (Talks : D → Type 0)
      (p q : ProcessState S) (frames : List Envelope) (replies : List Replied) (n m : N) (d e : D) → frames ≡ p.life.held.frames
      → replies ≡ p.life.held.replies → Passes carried Carries (AreFramesOf frames) n m
      → Passes talk Talks (λ said. AreRepliesTold p.waiting.claims replies said q.waiting.claims) d e
      → (waited left : ℕ) → waited ≡ length p.waiting.claims → left ≡ length q.waiting.claims
      → q ≡ record p {
        life = record p.life { held = nothing };
        waiting = record p.waiting { claims = q.waiting.claims };
        requests = unreplied p.life.held.replies p.requests;
        timing = all_own_seen p.life.held.frames now p.timing;
      }
      → BothTold storages now carried Carries talk Talks p n d q m e (nat_lt left waited)
  moves_letting_out carried Carries talk Talks p q frames replies n m d e held_frames held_replies sends tells waited left before behind is =
      let sent : AreFramesOf p.life.held.frames sends.passed =
      subst (λ (fs : List Envelope). AreFramesOf fs sends.passed) held_frames sends.are in
      let said : AreRepliesTold p.waiting.claims p.life.held.replies tells.passed q.waiting.claims =
      subst (λ (rs : List Replied). AreRepliesTold p.waiting.claims rs tells.passed q.waiting.claims) held_replies tells.are in
      let after : ProcessState S = record p {
        life = record p.life { held = nothing };
        waiting = record p.waiting { claims = q.waiting.claims };
        requests = unreplied p.life.held.replies p.requests;
        timing = all_own_seen p.life.held.frames now p.timing;
      } in
      record {
        sent = sends.passed;
        said = tells.passed;
        are = (
          moves_to storages now p after q sends.passed tells.passed
              (moves_one storages now p after sends.passed tells.passed (letting_out p sends.passed tells.passed q.waiting.claims sent said)) is,
          fewer_wait tells.passed left waited
              (omega (arith, before, behind, replies_counted p.waiting.claims p.life.held.replies tells.passed q.waiting.claims said)),
        );
        carries = sends.passes;
        talks = tells.passes;
      }

  -- ---- requests that are handed on
  pub moves_handing_on : {N : Type 0} (carried : N → List Carried) (Carries : N → Type 0) (p : ProcessState S)
      (requests : List RequestState) (place : ℕ) (packet : List ℕ) (n m : N) → HandsOnFirst now place p.requests requests
      → HoldsAt (λ (r : RequestState). packet ≡ r.packet) requests place → is_marked packet ≡ true → p.life.held ≡ nothing
      → (IsFull p.life.node → p.requests ≡ [])
      → Passes carried Carries (ArePacketsOf (leader_in p.timing) p.own packet p.nodes) n m
      → Passes carried Carries (λ sent. Moves storages now Telling p sent [] (record p { requests = requests })) n m
  moves_handing_on carried Carries p requests place packet n m h at marked silent none_at_full sends =
      let is : packet ≡ h.request.packet = packet_of_first now place p.requests requests packet h at in
      let are : ArePacketsOf (leader_in p.timing) p.own h.request.packet p.nodes sends.passed =
      subst (λ (b : List ℕ). ArePacketsOf (leader_in p.timing) p.own b p.nodes sends.passed) is sends.are in
      record {
        passed = sends.passed;
        are = moves_one storages now p (record p { requests = requests }) sends.passed []
            (handing_on p place requests sends.passed silent
            (λ full. never_empty h.before h.request h.after (sym h.was ∙ none_at_full full)) h (ap is_marked (sym is) ∙ marked) are);
        passes = sends.passes;
      }
