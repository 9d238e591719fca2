-- What every move of a process keeps: its node stays up, each line is answered or waits, and it knows what has passed.
use Rattle.std.proofs.Common.{◌≡◌, ◌⊎◌, ℕ, nat_eq, Bool, true, false, not, List, [], ◌∷◌, ◌++◌, All, Option, Some, None, IsSome, Result, Ok, Err, inl, inr, fold, get_or}
use Rattle.std.specs.List.{filter}
use Rattle.std.proofs.Common.{refl, sym, ap, subst, ◌∙◌, append-nil, append_assoc}
use Rattle.std.proofs.lemmas.Bool.{eqb-true}
use Rattle.std.proofs.lemmas.List.Sums.{fold-append}
use Rattle.std.proofs.lemmas.List.Elements.{All-append, All-cons, All-nil}
use Rattle.stable.specs.declared.stable.Stable.{Ghosts}
use Rattle.sessions.specs.declared.submission.Submission.{Submission}
use Rattle.wire.specs.FrameReading.{frame_in}
use Rattle.wire.specs.declared.frames.envelope.Envelope.{Envelope}
use Rattle.wire.specs.declared.frames.fault.WireFault.{WireFault}
use Rattle.node_model.specs.Outputs.{Response}
use Rattle.node_model.specs.Replicas.{ReplicaState}
use Rattle.node_model.specs.declared.fault.NodeFault.{NodeFault}
use Rattle.node_model.specs.declared.input.Input.{Input}
use Rattle.node_model.specs.declared.input.Input.TheVariants as input
use Rattle.world_model.specs.Lives.{Took}
use Rattle.world_model.specs.declared.lists.Replied.{Replied}
use Rattle.life.specs.Lives.{GoesOn, LifeState}
use Rattle.clients.specs.AnswerLines.{text_line}
use Rattle.serving.specs.Claiming.{is_of}
use Rattle.serving.specs.Learning.{Follows, Known, Learns, known_in, learn}
use Rattle.serving.specs.Moves.{AreRepliesTold, IsGivenWhere, IsLineTaken, IsNextAnswered, IsPacketTaken, IsTurn, KeepsRecords, KeepsTime, Move, Moves, Part, Taking, TakesAll, TakesOwn, Telling, claim_of, forgetting, input_of, owing}
use Rattle.serving.specs.Moves.AreRepliesTold.{none as no_reply, next as next_reply}
use Rattle.serving.specs.Moves.IsLineTaken.{submits, refuses, asks, owes}
use Rattle.serving.specs.Moves.IsNextAnswered.{was_held_back, is_due}
use Rattle.serving.specs.Moves.Move.{takes_packet, takes_own, finds_nothing, hears_nothing, hears, forgets, keeps_records}
use Rattle.serving.specs.Moves.Move.{lets_out, answers, holds_back, tells, turns_away, clears, hands_on, looks}
use Rattle.serving.specs.Moves.Moves.{none, next}
use Rattle.serving.specs.Outgoing.{ArePacketsOf, IsPacketOf}
use Rattle.serving.specs.Outgoing.ArePacketsOf.{none as no_packet, sends_to, passes_by}
use Rattle.serving.specs.Owing.{AnswersEach, KeepsEach, KeepsEachOver, reply_told}
use Rattle.serving.specs.Packets.{IsMessageTaken, IsTakenOnce, IsTakenOver, SubmitsNothing}
use Rattle.serving.specs.Processes.{ProcessState, is_asked_in}
use Rattle.serving.specs.Refusals.{IsRefused}
use Rattle.serving.specs.Seen.{process_of}
use Rattle.serving.specs.Serving.{PassesBoth}
use Rattle.serving.specs.Staying.{StaysUp, WasGiven}
use Rattle.serving.specs.Tapes.{Arrived, Carried, HasPassed, Heard, Sent, Talk, Told}
use Rattle.serving.specs.Timings.{TimingState, campaigned, leader_in}
use Rattle.serving.specs.Turns.{first_position, handed_on}
use Rattle.serving.specs.Waitings.{WaitingState, lines_of}
use Rattle.serving.specs.declared.claims.Claim.{Claim}
use Rattle.serving.specs.declared.requests.TheConstants.{HANDED_ON}
use Rattle.serving.specs.declared.server.Server.{Server}
use Rattle.serving.specs.declared.waiting.Due.{Due}
use Rattle.serving.specs.declared.waiting.Due.TheVariants as due
use Rattle.serving.specs.declared.waiting.Question.{Question}
use Rattle.serving.proofs.KeepingEach.{keeps_answer_told, keeps_claim, keeps_gone, keeps_held, keeps_line_due, keeps_line_told, keeps_none}
use Rattle.serving.proofs.KeepingEach.{keeps_nothing_heard, keeps_question_due, keeps_ripe, keeps_settled}
use Rattle.serving.proofs.Learning.{learns_all_sent, learns_line, learns_message, learns_packets, not_marked, position_known}
use Rattle.serving.proofs.Ripening.{keeps_turned_away}
use Rattle.serving.proofs.Staying.{stays_itself, stays_refused, stays_said, stays_same, stays_then}

some_is_not_none : (up : Option ReplicaState) → IsSome up → up ≡ None → ⊥
some_is_not_none (Some m) h is = absurd (cc)
some_is_not_none None h is = absurd (cc)

marked_by : (byte : ℕ) (line : List ℕ) (b : Bool) → nat_eq byte HANDED_ON ≡ b
    → ((rest : List ℕ) × (byte ∷ line ≡ handed_on rest)) ⊎ ((rest : List ℕ) → byte ∷ line ≡ handed_on rest → ⊥)
marked_by byte line true is = inl (line, ap (λ (b : ℕ). b ∷ line) (eqb-true byte HANDED_ON is))
marked_by byte line false is = inr (λ rest same. marked_is byte (ap (λ (bytes : List ℕ). get_or bytes 0 0) same) is)
  where
    marked_is : (byte : ℕ) → byte ≡ HANDED_ON → nat_eq byte HANDED_ON ≡ false → ⊥
    marked_is byte same is =
        let never : nat_eq HANDED_ON HANDED_ON ≡ false = subst (λ (b : ℕ). nat_eq b HANDED_ON ≡ false) same is in
        absurd (cc)

marked_or_not : (bytes : List ℕ) → ((line : List ℕ) × (bytes ≡ handed_on line)) ⊎ ((line : List ℕ) → bytes ≡ handed_on line → ⊥)
marked_or_not [] = inr (λ line is. absurd (cc))
marked_or_not (byte ∷ line) = marked_by byte line (nat_eq byte HANDED_ON) refl

-- an input that is given where it is due tells nothing
where_knows : {S : Type 0} {storages : Ghosts S} (Due : Type 0) (given : Input) (noted knew knows : TimingState) (old new : LifeState S)
    → known_in noted ≡ known_in knew → IsGivenWhere storages Due given noted old knew new knows → known_in knows ≡ known_in knew
where_knows Due given noted knew knows old new same (inl h) = ap known_in h.2 ∙ same
where_knows Due given noted knew knows old new same (inr h) = ap known_in h.2

-- what is known follows from what passed first, and then from what passed next
follows_then : (nodes others : ℕ) (a b c : TimingState) (sent more : List Carried) → others ≡ nodes → Follows nodes a b sent
    → Follows others b c more → Follows nodes a c (sent ++ more)
follows_then nodes others a b c sent more same one two =
    subst (λ (n : ℕ). known_in c ≡ fold (learn n) (known_in b) more) same two
    ∙ ap (λ (k : Known). fold (learn nodes) k more) one ∙ sym (fold-append (learn nodes) (known_in a) sent more)

all_packets : (leader : Option ℕ) (own : ℕ) (packet : List ℕ) (count : ℕ) (sent : List Carried)
    → ArePacketsOf leader own packet count sent → All (IsPacketOf leader own packet) sent
all_packets leader own packet _ _ no_packet = All-nil (IsPacketOf leader own packet)
all_packets leader own packet _ _ (sends_to node sent before handed) =
    let P = IsPacketOf leader own packet in
    All-append P sent (Sent node packet ∷ []) (all_packets leader own packet node sent before)
    (All-cons P (Sent node packet) [] (refl, handed) (All-nil P))
all_packets leader own packet _ _ (passes_by node sent before not_to) = all_packets leader own packet node sent before

-- ---- each line is answered by one text, or waits for it
pub keeps_then : (said told : List Talk) (a b c : WaitingState) → KeepsEach said a b → KeepsEach told b c → KeepsEach (said ++ told) a c
keeps_then said told a b c h k = record {
  keeps = λ talk is. subst (λ (t : List Talk). AnswersEach t c) (append_assoc talk said told) (k.keeps (talk ++ said) (h.keeps talk is));
}

-- over a desk, where this was said
each_said : {D : Type 0} (tape : D → List Talk) (Tells : D → Type 0) (said : List Talk) (old new : WaitingState) (d e : D)
    → HasPassed tape Tells d said e → KeepsEach said old new → KeepsEachOver tape Tells old d new e
each_said tape Tells said old new d e passed h = record {
  keeps = λ tells is. subst (λ (t : List Talk). AnswersEach t new) (sym (passed.passed_ tells)) (h.keeps (tape d) is);
}

pub each_reply : (claims : List Claim) (replies : List Replied) (said : List Talk) (left : List Claim) (w : WaitingState)
    → AreRepliesTold claims replies said left → w.claims ≡ claims → KeepsEach said w (record w { claims = left })
each_reply claims _ _ _ w no_reply is = keeps_none w (record w { claims = claims }) (ap (λ (cs : List Claim). record w { claims = cs }) (sym is))
each_reply claims _ _ _ w (next_reply replies said left replied before) is =
    let rest = filter (λ claim. not (is_of replied.client replied.number claim)) left in
    keeps_then said (reply_told replied left) w (record w { claims = left }) (record w { claims = rest })
    (each_reply claims replies said left w before is)
    (keeps_settled (record w { claims = left }) (record w { claims = rest }) replied replied.client replied.number refl refl refl)

each_answer : (position : ℕ) (old new : WaitingState) (question : Question) (text : List ℕ) → IsNextAnswered position old new question
    → KeepsEach (Told question.connection text ∷ []) old new
each_answer position old new question text (was_held_back ripe same) =
    keeps_then [] (Told question.connection text ∷ []) old (record new { due = due.Answer question ∷ new.due }) new
    (keeps_ripe old new position question ripe same) (keeps_answer_told new question text)
each_answer position old new question text (is_due earlier first same from) =
    let one : record new { due = due.Answer question ∷ new.due } ≡ record old { due = due.Answer question ∷ new.due } =
    ap (λ (w : WaitingState). record w { due = due.Answer question ∷ new.due }) same in
    let two : record old { due = due.Answer question ∷ new.due } ≡ old = ap (λ (ds : List Due). record old { due = ds }) (sym first) in
    subst (λ (w : WaitingState). KeepsEach (Told question.connection text ∷ []) w new) (one ∙ two) (keeps_answer_told new question text)

each_line : {S : Type 0} (storages : Ghosts S) (p q : ProcessState S) (connection : ℕ) (text : List ℕ)
    → IsLineTaken storages p connection text q → KeepsEach (Heard connection text ∷ []) p.waiting q.waiting
each_line storages p _ connection text (submits submission said life is goes) =
    keeps_claim p.waiting (record p.waiting { claims = p.waiting.claims ++ claim_of connection submission ∷ [] }) connection text
    (claim_of connection submission) refl refl
each_line storages p _ connection text (refuses submission fault life refusal is goes refused spelled) =
    keeps_line_due p.waiting (owing connection refusal p.waiting) connection text refusal refl
each_line storages p _ connection text (asks query position is) =
    let question : Question = record { connection = connection; query = query; from = first_position position } in
    keeps_question_due p.waiting (record p.waiting { due = p.waiting.due ++ due.Answer question ∷ [] }) connection text question refl refl
each_line storages p _ connection text (owes answered own) =
    keeps_line_due p.waiting (owing connection answered p.waiting) connection text answered refl

module _ {S : Type 0} (storages : Ghosts S) (now : ℕ) where
  each_move : (part : Part) (p q : ProcessState S) (sent : List Carried) (said : List Talk) → Move storages now part p sent said q
      → KeepsEach said p.waiting q.waiting
  each_move _ _ _ _ _ (takes_packet p bytes life knows h) = keeps_none p.waiting p.waiting refl
  each_move _ _ _ _ _ (takes_own p life h) = keeps_none p.waiting p.waiting refl
  each_move _ _ _ _ _ (finds_nothing p) = keeps_none p.waiting p.waiting refl
  each_move _ _ _ _ _ (hears_nothing p) = keeps_nothing_heard p.waiting (lines_of p.waiting)
  each_move _ _ _ _ _ (hears p q connection text room h) = each_line storages p q connection text h
  each_move _ _ _ _ _ (forgets p connection) = keeps_gone p.waiting (forgetting connection p.waiting) connection refl
  each_move _ _ _ _ _ (keeps_records p life h) = keeps_none p.waiting p.waiting refl
  each_move _ _ _ _ _ (lets_out p sent said claims frames replies) =
      each_reply p.waiting.claims p.life.held.replies said claims p.waiting replies refl
  each_move _ _ _ _ _ (answers p position question waiting said life silent at which h) =
      subst (λ (t : List Talk). KeepsEach t p.waiting waiting) (sym h.says)
      (each_answer position p.waiting waiting question (text_line h.told.0 h.told.1) which)
  each_move _ _ _ _ _ (holds_back p position question rest silent first at before) =
      let old = record p.waiting { due = rest } in
      let new = record p.waiting { questions = p.waiting.questions ++ question ∷ []; due = rest } in
      subst (λ (ds : List Due). KeepsEach [] (record p.waiting { due = ds }) new) (sym first) (keeps_held old new question refl)
  each_move _ _ _ _ _ (tells p connection answered rest silent first) =
      keeps_line_told p.waiting (record p.waiting { due = rest }) connection answered answered.items first refl
  each_move _ _ _ _ _ (turns_away p claim rest refusal silent full first spelled) =
      keeps_turned_away p.waiting (owing claim.connection refusal (record p.waiting { claims = rest })) claim rest refusal first refl
  each_move _ _ _ _ _ (clears p silent full) = keeps_none p.waiting p.waiting refl
  each_move _ _ _ _ _ (hands_on p place requests sent silent goes_on first marked packets) = keeps_none p.waiting p.waiting refl
  each_move _ _ _ _ _ (looks p position at) = keeps_none p.waiting p.waiting refl

  pub moves_keep_each : (part : Part) (p q : ProcessState S) (sent : List Carried) (said : List Talk) → Moves storages now part p sent said q
      → KeepsEach said p.waiting q.waiting
  moves_keep_each part _ _ _ _ (none p) = keeps_none p.waiting p.waiting refl
  moves_keep_each part _ _ _ _ (next p q r sent more said told before move) =
      keeps_then said told p.waiting q.waiting r.waiting (moves_keep_each part p q sent said before) (each_move part q r more told move)

  -- ---- the node stays up
  given_stays : (old new : LifeState S) (given : Input) (result : Result Response NodeFault) → GoesOn storages old (Took given result) new
      → ((fault : NodeFault) → result ≡ Err fault → IsRefused fault) → StaysUp old.node new.node
  given_stays old new given (Ok said) goes goes_on = stays_said storages old.node new.node given said goes.happens
  given_stays old new given (Err fault) goes goes_on =
      stays_refused storages old.node new.node given fault (goes_on fault refl).0 goes.happens

  was_given_stays : (old new : LifeState S) (given : Input) → WasGiven storages old given new → StaysUp old.node new.node
  was_given_stays old new given h = given_stays old new given h.result h.takes h.goes_on

  -- what can't be told apart from staying up is that
  not_down_up : (up : Option ReplicaState) → ((up ≡ None) → ⊥) → IsSome up
  not_down_up (Some m) h = refl
  not_down_up None h = absurd (h refl)

  once_stays : (submission : Submission) (old new : LifeState S) → IsTakenOnce storages submission old new → StaysUp old.node new.node
  once_stays submission old new (inl counted) = stays_same storages old.node new.node (ap (λ (l : LifeState S). l.node) counted.3)
  once_stays submission old new (inr given) = was_given_stays old new _ given.3

  over_stays : (text : List ℕ) (old new : LifeState S) → IsTakenOver storages text old new → StaysUp old.node new.node
  over_stays text old new h = record {
    stays = λ up. not_down_up new.node.up (λ down.
        let nothing_submitted : SubmitsNothing text =
        λ submission is. some_is_not_none new.node.up ((once_stays submission old new (h.submits submission is)).stays up) down in
        some_is_not_none new.node.up
        (subst (λ (l : LifeState S). IsSome l.node.up) (sym (h.submits_nothing nothing_submitted)) up) down);
  }

  own_stays : (old new : LifeState S) → TakesOwn storages old new → StaysUp old.node new.node
  own_stays old new h =
      given_stays (record old { own = h.takes.rest }) new (input.Message h.takes.first) h.result h.takes.goes_on h.goes_on

  where_stays : (Due : Type 0) (given : Input) (noted knew knows : TimingState) (old new : LifeState S)
      → IsGivenWhere storages Due given noted old knew new knows → StaysUp old.node new.node
  where_stays Due given noted knew knows old new (inl h) = was_given_stays old new given h.1
  where_stays Due given noted knew knows old new (inr h) =
      stays_same storages old.node new.node (ap (λ (l : LifeState S). l.node) h.1)

  time_stays : (p : ProcessState S) (life : LifeState S) (knows : TimingState) → KeepsTime storages now p life knows
      → StaysUp p.life.node life.node
  time_stays p life knows h =
      stays_then storages p.life.node h.between.node life.node (where_stays _ _ _ _ _ p.life h.between h.campaigns)
      (where_stays _ _ _ _ _ h.between life h.ticks)

  records_stay : (old new : LifeState S) → KeepsRecords storages old new → StaysUp old.node new.node
  records_stay old new h =
      stays_then storages old.node h.between.node new.node (was_given_stays old h.between input.Checkpoint h.checkpoints)
      (was_given_stays h.between new input.Trim h.trims)

  message_stays : (read : Result Envelope WireFault) (old new : LifeState S) (knew knows : TimingState)
      → IsMessageTaken storages now read old knew new knows → StaysUp old.node new.node
  message_stays (Ok e) old new knew knows h = was_given_stays old new (input.Message e) h.0
  message_stays (Err fault) old new knew knows h = stays_same storages old.node new.node (ap (λ (l : LifeState S). l.node) h.0)

  packet_stays : (nodes : ℕ) (bytes : List ℕ) (old new : LifeState S) (knew knows : TimingState)
      → IsPacketTaken storages nodes now bytes old knew new knows
      → ((line : List ℕ) × (bytes ≡ handed_on line)) ⊎ ((line : List ℕ) → bytes ≡ handed_on line → ⊥) → StaysUp old.node new.node
  packet_stays nodes bytes old new knew knows h (inl marked) = over_stays marked.0 old new (h.request marked.0 marked.1).0
  packet_stays nodes bytes old new knew knows h (inr never) = message_stays (frame_in nodes bytes) old new knew knows (h.message never)

  line_stays : (p q : ProcessState S) (connection : ℕ) (text : List ℕ) → IsLineTaken storages p connection text q
      → StaysUp p.life.node q.life.node
  line_stays p _ connection text (submits submission said life is goes) =
      stays_said storages p.life.node life.node (input_of submission) said goes.happens
  line_stays p _ connection text (refuses submission fault life refusal is goes refused spelled) =
      stays_refused storages p.life.node life.node (input_of submission) fault refused.0 goes.happens
  line_stays p _ connection text (asks query position is) = stays_itself storages p.life.node
  line_stays p _ connection text (owes answered own) = stays_itself storages p.life.node

  move_stays : (part : Part) (p q : ProcessState S) (sent : List Carried) (said : List Talk) → Move storages now part p sent said q
      → StaysUp p.life.node q.life.node
  move_stays _ _ _ _ _ (takes_packet p bytes life knows h) =
      packet_stays p.nodes bytes p.life life p.timing knows h (marked_or_not bytes)
  move_stays _ _ _ _ _ (takes_own p life h) = own_stays p.life life h
  move_stays _ _ _ _ _ (finds_nothing p) = stays_itself storages p.life.node
  move_stays _ _ _ _ _ (hears_nothing p) = stays_itself storages p.life.node
  move_stays _ _ _ _ _ (hears p q connection text room h) = line_stays p q connection text h
  move_stays _ _ _ _ _ (forgets p connection) = stays_itself storages p.life.node
  move_stays _ _ _ _ _ (keeps_records p life h) = records_stay p.life life h
  move_stays _ _ _ _ _ (lets_out p sent said claims frames replies) = stays_itself storages p.life.node
  move_stays _ _ _ _ _ (answers p position question waiting said life silent at which h) =
      stays_same storages p.life.node life.node (ap (λ (l : LifeState S). l.node) h.leaves ∙ h.asks.happens.2)
  move_stays _ _ _ _ _ (holds_back p position question rest silent first at before) = stays_itself storages p.life.node
  move_stays _ _ _ _ _ (tells p connection answered rest silent first) = stays_itself storages p.life.node
  move_stays _ _ _ _ _ (turns_away p claim rest refusal silent full first spelled) = stays_itself storages p.life.node
  move_stays _ _ _ _ _ (clears p silent full) = stays_itself storages p.life.node
  move_stays _ _ _ _ _ (hands_on p place requests sent silent goes_on first marked packets) = stays_itself storages p.life.node
  move_stays _ _ _ _ _ (looks p position at) = stays_itself storages p.life.node

  pub moves_stay : (part : Part) (p q : ProcessState S) (sent : List Carried) (said : List Talk) → Moves storages now part p sent said q
      → StaysUp p.life.node q.life.node
  moves_stay part _ _ _ _ (none p) = stays_itself storages p.life.node
  moves_stay part _ _ _ _ (next p q r sent more said told before move) =
      stays_then storages p.life.node q.life.node r.life.node (moves_stay part p q sent said before) (move_stays part q r more told move)

  -- ---- what is known follows from what has passed
  time_knows : (p : ProcessState S) (life : LifeState S) (knows : TimingState) → KeepsTime storages now p life knows
      → known_in knows ≡ known_in p.timing
  time_knows p life knows h =
      where_knows _ input.Tick (record h.knew { ticked = now }) h.knew knows h.between life refl h.ticks
      ∙ where_knows _ input.Timeout (campaigned now h.looked) h.looked h.knew p.life h.between refl h.campaigns
      ∙ ap known_in h.looks ∙ position_known h.position (is_asked_in p) now p.timing

  packet_known : (nodes : ℕ) (bytes : List ℕ) (old new : LifeState S) (knew knows : TimingState)
      → IsPacketTaken storages nodes now bytes old knew new knows
      → ((line : List ℕ) × (bytes ≡ handed_on line)) ⊎ ((line : List ℕ) → bytes ≡ handed_on line → ⊥)
      → Follows nodes knew knows (Arrived bytes ∷ [])
  packet_known nodes bytes old new knew knows h (inl marked) =
      learns_line nodes marked.0 bytes knew knows marked.1 (ap known_in (h.request marked.0 marked.1).1)
  packet_known nodes bytes old new knew knows h (inr never) =
      learns_message storages nodes now bytes old new knew knows (not_marked bytes never) (frame_in nodes bytes) refl (h.message never)

  line_knows : (p q : ProcessState S) (connection : ℕ) (text : List ℕ) → IsLineTaken storages p connection text q
      → (q.own ≡ p.own) × (q.nodes ≡ p.nodes) × Follows p.nodes p.timing q.timing []
  line_knows p _ connection text (submits submission said life is goes) = (refl, refl, refl)
  line_knows p _ connection text (refuses submission fault life refusal is goes refused spelled) = (refl, refl, refl)
  line_knows p _ connection text (asks query position is) = (refl, refl, refl)
  line_knows p _ connection text (owes answered own) = (refl, refl, refl)

  move_knows : (part : Part) (p q : ProcessState S) (sent : List Carried) (said : List Talk) → Move storages now part p sent said q
      → (q.own ≡ p.own) × (q.nodes ≡ p.nodes) × Follows p.nodes p.timing q.timing sent
  move_knows _ _ _ _ _ (takes_packet p bytes life knows h) =
      (refl, refl, packet_known p.nodes bytes p.life life p.timing knows h (marked_or_not bytes))
  move_knows _ _ _ _ _ (takes_own p life h) = (refl, refl, refl)
  move_knows _ _ _ _ _ (finds_nothing p) = (refl, refl, refl)
  move_knows _ _ _ _ _ (hears_nothing p) = (refl, refl, refl)
  move_knows _ _ _ _ _ (hears p q connection text room h) = line_knows p q connection text h
  move_knows _ _ _ _ _ (forgets p connection) = (refl, refl, refl)
  move_knows _ _ _ _ _ (keeps_records p life h) = (refl, refl, refl)
  move_knows _ _ _ _ _ (lets_out p sent said claims frames replies) =
      (refl, refl, learns_all_sent p.nodes now p.life.held.frames sent p.timing frames)
  move_knows _ _ _ _ _ (answers p position question waiting said life silent at which h) = (refl, refl, refl)
  move_knows _ _ _ _ _ (holds_back p position question rest silent first at before) = (refl, refl, refl)
  move_knows _ _ _ _ _ (tells p connection answered rest silent first) = (refl, refl, refl)
  move_knows _ _ _ _ _ (turns_away p claim rest refusal silent full first spelled) = (refl, refl, refl)
  move_knows _ _ _ _ _ (clears p silent full) = (refl, refl, refl)
  move_knows _ _ _ _ _ (hands_on p place requests sent silent goes_on first marked packets) = (
    refl,
    refl,
    sym (learns_packets p.nodes (leader_in p.timing) p.own first.request.packet (known_in p.timing) marked sent
        (all_packets (leader_in p.timing) p.own first.request.packet p.nodes sent packets)),
  )
  move_knows _ _ _ _ _ (looks p position at) = (refl, refl, position_known position (is_asked_in p) now p.timing)

  pub moves_know : (part : Part) (p q : ProcessState S) (sent : List Carried) (said : List Talk) → Moves storages now part p sent said q
      → (q.own ≡ p.own) × (q.nodes ≡ p.nodes) × Follows p.nodes p.timing q.timing sent
  moves_know part _ _ _ _ (none p) = (refl, refl, refl)
  moves_know part _ _ _ _ (next p q r sent more said told before move) =
      let one = moves_know part p q sent said before in
      let two = move_knows part q r more told move in
      (two.0 ∙ one.0, two.1 ∙ one.1, follows_then p.nodes q.nodes p.timing q.timing r.timing sent more one.1 one.2 two.2)

  -- ---- all of it, of a turn
  abbrev pub Kept : ProcessState S → List Carried → List Talk → ProcessState S → Type 0
  Kept p sent said r =
      KeepsEach said p.waiting r.waiting × StaysUp p.life.node r.life.node × (r.own ≡ p.own) × (r.nodes ≡ p.nodes)
      × Follows p.nodes p.timing r.timing sent

  kept_then : (p q r : ProcessState S) (sent more : List Carried) (said told : List Talk) → Kept p sent said q → Kept q more told r
      → Kept p (sent ++ more) (said ++ told) r
  kept_then p q r sent more said told h k = (
    keeps_then said told p.waiting q.waiting r.waiting h.0 k.0,
    stays_then storages p.life.node q.life.node r.life.node h.1 k.1,
    k.2 ∙ h.2,
    k.3 ∙ h.3,
    follows_then p.nodes q.nodes p.timing q.timing r.timing sent more h.3 h.4 k.4,
  )

  kept_moves : (part : Part) (p q : ProcessState S) (sent : List Carried) (said : List Talk) → Moves storages now part p sent said q
      → Kept p sent said q
  kept_moves part p q sent said moves =
      let known = moves_know part p q sent said moves in
      (moves_keep_each part p q sent said moves, moves_stay part p q sent said moves, known.0, known.1, known.2)

  kept_time : (p : ProcessState S) (life : LifeState S) (knows : TimingState) → KeepsTime storages now p life knows
      → Kept p [] [] (record p { life = life; timing = knows })
  kept_time p life knows h =
      (keeps_none p.waiting p.waiting refl, time_stays p life knows h, refl, refl, time_knows p life knows h)

  pub kept_taking : (p q : ProcessState S) (came : List Carried) (heard : List Talk) (more : Bool) → TakesAll storages now p came heard q more
      → Kept p came heard q
  kept_taking p q came heard more h =
      let timed : ProcessState S = record h.after_lines { life = h.life; timing = h.knows } in
      subst (λ (xs : List Carried). Kept p xs heard q) (append-nil came)
      (subst (λ (xs : List Talk). Kept p (came ++ []) xs q) (append-nil heard)
      (kept_then p h.after_packets q came [] [] (heard ++ []) (kept_moves Taking p h.after_packets came [] h.packets)
      (kept_then h.after_packets h.after_lines q [] [] heard [] (kept_moves Taking h.after_packets h.after_lines [] heard h.lines)
      (kept_then h.after_lines timed q [] [] [] [] (kept_time h.after_lines h.life h.knows h.keeps_time)
      (kept_moves Taking timed q [] [] h.goes_on)))))

  kept_turn : (p r : ProcessState S) (sent : List Carried) (said : List Talk) (more : Bool) → IsTurn storages now p sent said r more
      → Kept p sent said r
  kept_turn p r sent said more h =
      subst (λ (xs : List Carried). Kept p xs said r) (sym h.all_sent)
      (subst (λ (xs : List Talk). Kept p (h.came ++ h.out) xs r) (sym h.all_said)
      (kept_then p h.between r h.came h.out h.heard h.told (kept_taking p h.between h.came h.heard h.more_came h.takes)
      (kept_moves Telling h.between r h.out h.told h.tells.0)))

  -- over a network and a desk
  module _ {N D : Type 0} (carried : N → List Carried) (Carries : N → Type 0) (talk : D → List Talk) (Talks : D → Type 0) where
    abbrev pub PassesTurn : ProcessState S → N → D → ProcessState S → N → D → Bool → Type 0
    PassesTurn p n d q m e more =
        PassesBoth carried Carries talk Talks (λ sent said. IsTurn storages now p sent said q more) n d m e

    pub turn_keeps_each : (p q : ProcessState S) (n m : N) (d e : D) (more : Bool) → PassesTurn p n d q m e more
        → KeepsEachOver talk Talks p.waiting d q.waiting e
    turn_keeps_each p q n m d e more h =
        each_said talk Talks h.said p.waiting q.waiting d e h.talks (kept_turn p q h.sent h.said more h.are).0

    pub turn_stays : (p q : ProcessState S) (n m : N) (d e : D) (more : Bool) → PassesTurn p n d q m e more
        → StaysUp p.life.node q.life.node
    turn_stays p q n m d e more h = (kept_turn p q h.sent h.said more h.are).1

    pub turn_learns : (a b : Server S) (n m : N) (d e : D) (more : Bool) → PassesTurn (process_of a) n d (process_of b) m e more
        → Learns carried Carries a n b m
    turn_learns a b n m d e more h =
        let known = kept_turn (process_of a) (process_of b) h.sent h.said more h.are in
        record { own = known.2; nodes = known.3; follows = record { passed = h.sent; are = known.4; passes = h.carries } }
