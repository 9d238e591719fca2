-- What a process does in a turn, move by move.
use Rattle.std.specs.Prelude.{◌≡◌, ◌≢◌, ◌<◌, ◌≤◌, ◌⊎◌, ◌||◌, ◌+◌, ℕ, Bool, All, List, [], ◌∷◌, ◌++◌, length, min, Option, Some, None, IsSome, Result, Ok, Err, not, slice_get, take, true}
use Rattle.std.specs.List.{filter}
use Rattle.std.specs.Global.{Vec}
use Rattle.sessions.specs.declared.submission.Submission.{Submission}
use Rattle.stable.specs.declared.stable.Stable.{Ghosts}
use Rattle.wire.specs.FrameReading.{frame_in}
use Rattle.wire.specs.declared.frames.envelope.Envelope.{Envelope}
use Rattle.node_model.specs.Faults.{node_code}
use Rattle.node_model.specs.Nodes.{NodeState}
use Rattle.node_model.specs.Outputs.{Response}
use Rattle.node_model.specs.declared.fault.NodeFault.{NodeFault}
use Rattle.node_model.specs.declared.fault.NodeFault.TheVariants as node_fault
use Rattle.node_model.specs.declared.input.Input.{Input}
use Rattle.node_model.specs.declared.input.Input.TheVariants as input
use Rattle.world_model.specs.Lives.{Asked, Took}
use Rattle.world_model.specs.declared.lists.Replied.{Replied}
use Rattle.life.specs.Lives.{GoesOn, LifeState, TakesFirst}
use Rattle.life.specs.Telling.{nothing}
use Rattle.schedule.specs.Causes.{cause_code}
use Rattle.schedule.specs.declared.fault.ScheduleFault.{ScheduleFault}
use Rattle.schedule.specs.declared.replay_fault.ReplayCause.TheVariants.{Schedule}
use Rattle.store.specs.declared.query.Query.{Query}
use Rattle.clients.specs.AnswerLines.{answer_line, status_line, text_line}
use Rattle.clients.specs.ClientLines.{IsClientFault, IsClientLine}
use Rattle.clients.specs.declared.answer.ClientAnswer.TheVariants as answer
use Rattle.clients.specs.declared.answer.Status.{Status}
use Rattle.clients.specs.declared.line.ClientLine.TheVariants as line
use Rattle.serving.specs.Claiming.{is_for, is_of}
use Rattle.serving.specs.Ending.{EndsAt, IsAsked, IsGiven, IsOfOthers}
use Rattle.serving.specs.Knowing.{IsLastNumber, IsPosition}
use Rattle.serving.specs.Outgoing.{AreFramesOf, ArePacketsOf, IsArrival}
use Rattle.serving.specs.Owing.{HasRoom, reply_told}
use Rattle.serving.specs.Packets.{IsMessageTaken, IsTakenOver}
use Rattle.serving.specs.Processes.{ProcessState, is_asked_in}
use Rattle.serving.specs.Refusals.{IsRefused}
use Rattle.serving.specs.Requesting.{HandsOnFirst, RequestState, is_marked, unreplied, with_request}
use Rattle.serving.specs.Resting.{HasRead, IsCheckpointed, IsFull}
use Rattle.serving.specs.Staying.{WasGiven}
use Rattle.serving.specs.Tapes.{Arrived, Carried, Heard, IsHeard, NothingCame, NothingHeard, Talk, Told, Went, polled, read}
use Rattle.serving.specs.Timings.{IsCampaignDue, IsTickDue, TimingState, all_own_seen, campaigned, leader_in, position_seen}
use Rattle.serving.specs.Turns.{first_position, handed_on}
use Rattle.serving.specs.Waitings.{IsFirstRipe, IsHeldBack, WaitingState, has_any, is_asked_by, is_told_to, lines_of}
use Rattle.serving.specs.declared.claims.Claim.{Claim}
use Rattle.serving.specs.declared.fault.TurnFault.{TurnFault}
use Rattle.serving.specs.declared.fault.TurnFault.TheVariants as turn_fault
use Rattle.serving.specs.declared.waiting.Due.{Due}
use Rattle.serving.specs.declared.waiting.Due.TheVariants as due
use Rattle.serving.specs.declared.waiting.Question.{Question}

-- ---- what comes from other nodes
-- a request that another process hands on, or a message
pub record IsPacketTaken {S : Type 0} (storages : Ghosts S) (nodes now : ℕ) (bytes : List ℕ) (old : LifeState S) (knew : TimingState)
    (new : LifeState S) (knows : TimingState) : Type 0 where
  pub request : (line : List ℕ) → bytes ≡ handed_on line → IsTakenOver storages line old new × (knows ≡ knew)
  pub message : ((line : List ℕ) → bytes ≢ handed_on line)
      → IsMessageTaken storages now (frame_in nodes bytes) old knew new knows

-- the node takes the frame to itself that has waited longest, or refuses it and is up
pub record TakesOwn {S : Type 0} (storages : Ghosts S) (old new : LifeState S) : Type 0 where
  pub result : Result Response NodeFault
  pub takes : TakesFirst storages old result new
  pub goes_on : (fault : NodeFault) → result ≡ Err fault → IsRefused fault

-- ---- what comes from clients
-- the connection is to be told this line
abbrev pub owing : ℕ → Vec ℕ → WaitingState → WaitingState
owing connection line waiting = record waiting { due = waiting.due ++ due.Line connection line ∷ [] }

-- it is gone, and waits for nothing
abbrev pub forgetting : ℕ → WaitingState → WaitingState
forgetting connection waiting = record waiting {
  claims = filter (λ claim. not (is_for connection claim)) waiting.claims;
  questions = filter (λ question. not (is_asked_by connection question)) waiting.questions;
  due = filter (λ what. not (is_told_to connection what)) waiting.due;
}

-- the status of a process
pub record IsStatus {S : Type 0} (p : ProcessState S) (status : Status) : Type 0 where
  pub node : status.node ≡ p.own
  pub position : IsPosition p.life.node status.position
  pub horizon : status.horizon ≡ p.timing.horizon
  pub leader : status.leader ≡ leader_in p.timing
  pub waiting : status.waiting ≡ min 255 (length p.requests)

-- what the process answers to a line by itself
pub data IsOwnAnswer {S : Type 0} (p : ProcessState S) (text answered : List ℕ) : Type 0 where
  fault : (found : ScheduleFault) → IsClientFault text (Schedule found)
      → answered ≡ answer_line (answer.Fault (cause_code (Schedule found))) → IsOwnAnswer p text answered
  status : (known : Status) → IsClientLine text line.Status → IsStatus p known → answered ≡ status_line known → IsOwnAnswer p text answered
  last : (client number : ℕ) → IsClientLine text (line.Last client) → IsLastNumber p.life.node client number
      → answered ≡ answer_line (answer.Last client number) → IsOwnAnswer p text answered

abbrev pub claim_of : ℕ → Submission → Claim
claim_of connection submission =
    record { connection = connection; client = submission.client; number = submission.number }

abbrev pub input_of : Submission → Input
input_of submission = input.Submit submission.client submission.number submission.op

-- by what it asks for
pub data IsLineTaken {S : Type 0} (storages : Ghosts S) (p : ProcessState S) (connection : ℕ) (text : List ℕ) : ProcessState S → Type 0
  where
    -- the node takes the request: the connection waits for the reply, and the request waits to be handed on
    submits : (submission : Submission) (said : Response) (life : LifeState S) → IsClientLine text (line.Submit submission)
        → GoesOn storages p.life (Took (input_of submission) (Ok said)) life
        → IsLineTaken storages p connection text (record p {
          life = life;
          waiting = record p.waiting { claims = p.waiting.claims ++ claim_of connection submission ∷ [] };
          requests = with_request submission.client submission.number text p.requests;
        })
    -- it refuses it
    refuses : (submission : Submission) (fault : NodeFault) (life : LifeState S) (refusal : Vec ℕ)
        → IsClientLine text (line.Submit submission) → GoesOn storages p.life (Took (input_of submission) (Err fault)) life
        → IsRefused fault → refusal.items ≡ answer_line (answer.Refused submission.client submission.number (node_code fault))
        → IsLineTaken storages p connection text (record p { life = life; waiting = owing connection refusal p.waiting })
    -- the query is due at the end of the turn
    asks : (query : Query) (position : Option ℕ) → IsClientLine text (line.Query query position)
        → IsLineTaken storages p connection text (record p {
          waiting = record p.waiting {
            due = p.waiting.due
                ++ due.Answer (record { connection = connection; query = query; from = first_position position }) ∷ [];
          };
        })
    -- an answer of the process is
    owes : (answered : Vec ℕ) → IsOwnAnswer p text answered.items
        → IsLineTaken storages p connection text (record p { waiting = owing connection answered p.waiting })

-- ---- what is due by the clock
-- the node is given an input where that is due, and that is noted; elsewhere nothing happens
abbrev pub IsGivenWhere : {S : Type 0} → Ghosts S → Type 0 → Input → TimingState → LifeState S → TimingState → LifeState S → TimingState
    → Type 0
IsGivenWhere storages Due given noted old knew new knows =
    (Due × WasGiven storages old given new × (knows ≡ noted)) ⊎ ((¬ Due) × (new ≡ old) × (knows ≡ knew))

-- the node campaigns where that is due, and then ticks where that is due
pub record KeepsTime {S : Type 0} (storages : Ghosts S) (now : ℕ) (p : ProcessState S) (life : LifeState S) (knows : TimingState)
    : Type 0 where
  pub position : ℕ
  pub at : IsPosition p.life.node position
  pub looked : TimingState
  pub looks : looked ≡ position_seen position (is_asked_in p) now p.timing
  pub between : LifeState S
  pub knew : TimingState
  pub campaigns : IsGivenWhere storages (IsCampaignDue position (is_asked_in p) now looked) input.Timeout (campaigned now looked)
      p.life looked between knew
  pub ticks : IsGivenWhere storages (IsTickDue position (is_asked_in p) now knew) input.Tick (record knew { ticked = now })
      between knew life knows

-- or it ends so: at a campaign that is due, or behind that at a tick that is due
pub data StopsKeepingTime {S : Type 0} (storages : Ghosts S) (now : ℕ) (p : ProcessState S) (fault : TurnFault) (n : NodeState S)
    : Type 0 where
  at_campaign : (position : ℕ) → IsPosition p.life.node position
      → IsCampaignDue position (is_asked_in p) now (position_seen position (is_asked_in p) now p.timing)
      → EndsAt storages (IsGiven input.Timeout) p.life.node fault n → StopsKeepingTime storages now p fault n
  at_tick : (position : ℕ) (looked knew : TimingState) (between : LifeState S) → IsPosition p.life.node position
      → looked ≡ position_seen position (is_asked_in p) now p.timing
      → IsGivenWhere storages (IsCampaignDue position (is_asked_in p) now looked) input.Timeout (campaigned now looked)
      p.life looked between knew → IsTickDue position (is_asked_in p) now knew
      → EndsAt storages (IsGiven input.Tick) between.node fault n → StopsKeepingTime storages now p fault n

-- a checkpoint, and what it stands for is taken out
pub record KeepsRecords {S : Type 0} (storages : Ghosts S) (old new : LifeState S) : Type 0 where
  pub due : ¬ IsCheckpointed old.node
  pub between : LifeState S
  pub checkpoints : WasGiven storages old input.Checkpoint between
  pub trims : WasGiven storages between input.Trim new

-- or it ends so: at the checkpoint, or behind that at the trim
pub data StopsKeepingRecords {S : Type 0} (storages : Ghosts S) (old : LifeState S) (fault : TurnFault) (n : NodeState S) : Type 0 where
  at_checkpoint : ¬ IsCheckpointed old.node → EndsAt storages (IsGiven input.Checkpoint) old.node fault n
      → StopsKeepingRecords storages old fault n
  at_trim : (between : LifeState S) → ¬ IsCheckpointed old.node → WasGiven storages old input.Checkpoint between
      → EndsAt storages (IsGiven input.Trim) between.node fault n → StopsKeepingRecords storages old fault n

-- ---- what goes out
-- each of these replies is told once to each who waits for it, and nobody waits for it any more
pub data AreRepliesTold (claims : List Claim) : List Replied → List Talk → List Claim → Type 0 where
  none : AreRepliesTold claims [] [] claims
  next : (replies : List Replied) (said : List Talk) (left : List Claim) (replied : Replied) → AreRepliesTold claims replies said left
      → AreRepliesTold claims (replies ++ replied ∷ []) (said ++ reply_told replied left)
      (filter (λ claim. not (is_of replied.client replied.number claim)) left)

-- the query is the first that is held back no more, or where there is none such, the next that is due and isn't to be held back
pub data IsNextAnswered (position : ℕ) (old new : WaitingState) (question : Question) : Type 0 where
  was_held_back : IsFirstRipe position old.questions new.questions question → new ≡ record old { questions = new.questions }
      → IsNextAnswered position old new question
  is_due : All (IsHeldBack position) old.questions → old.due ≡ due.Answer question ∷ new.due → new ≡ record old { due = new.due }
      → question.from ≤ position
      → IsNextAnswered position old new question

-- the node is asked, and its answer is told
pub record IsAnswered {S : Type 0} (storages : Ghosts S) (old : LifeState S) (question : Question) (said : List Talk) (new : LifeState S)
    : Type 0 where
  pub told : ℕ × List ℕ
  pub asked : LifeState S
  pub asks : GoesOn storages old (Asked question.query (Ok told)) asked
  pub says : said ≡ Told question.connection (text_line told.0 told.1) ∷ []
  pub leaves : new ≡ record asked { held = nothing }

-- some of what is let out went out: frames; or all frames, and of the replies some, the last one maybe not to all who wait for it
pub data LetsOutSome (frames : List Envelope) (replies : List Replied) (claims : List Claim) : List Carried → List Talk → Type 0 where
  some_frames : (count : ℕ) (sent : List Carried) → AreFramesOf (take count frames) sent → LetsOutSome frames replies claims sent []
  some_replies : (sent : List Carried) (count some : ℕ) (before : List Talk) (left : List Claim) (reply : Replied) → AreFramesOf frames sent
      → AreRepliesTold claims (take count replies) before left → slice_get replies count ≡ Some reply
      → LetsOutSome frames replies claims sent (before ++ reply_told reply (take some left))

-- ---- one move: what it sends, hears and tells
-- a turn takes what comes, and then tells what came of it
pub data Part : Type 0 where
  Taking : Part
  Telling : Part

module _ {S : Type 0} (storages : Ghosts S) (now : ℕ) where
  pub data Move : Part → ProcessState S → List Carried → List Talk → ProcessState S → Type 0 where
    takes_packet : (p : ProcessState S) (bytes : List ℕ) (life : LifeState S) (knows : TimingState)
        → IsPacketTaken storages p.nodes now bytes p.life p.timing life knows
        → Move Taking p (Arrived bytes ∷ []) [] (record p { life = life; timing = knows })
    takes_own : (p : ProcessState S) (life : LifeState S) → TakesOwn storages p.life life
        → Move Taking p [] [] (record p { life = life })
    -- nothing has come; no client has done anything that may be read, where so many lines wait
    finds_nothing : (p : ProcessState S) → Move Taking p (NothingCame ∷ []) [] p
    hears_nothing : (p : ProcessState S) → Move Taking p [] (NothingHeard (lines_of p.waiting) ∷ []) p
    -- fewer lines of the connection wait than may
    hears : (p q : ProcessState S) (connection : ℕ) (text : List ℕ) → HasRoom p.waiting (Heard connection text)
        → IsLineTaken storages p connection text q → Move Taking p [] (Heard connection text ∷ []) q
    forgets : (p : ProcessState S) (connection : ℕ)
        → Move Taking p [] (Went connection ∷ []) (record p { waiting = forgetting connection p.waiting })
    keeps_records : (p : ProcessState S) (life : LifeState S) → KeepsRecords storages p.life life
        → Move Taking p [] [] (record p { life = life })
    -- all that it holds; what its node learnt is told to nobody. Whatever else it tells or sends is behind this: then it holds nothing
    lets_out : (p : ProcessState S) (sent : List Carried) (said : List Talk) (claims : List Claim)
        → AreFramesOf p.life.held.frames sent → AreRepliesTold p.waiting.claims p.life.held.replies said claims
        → Move Telling p sent said (record p {
          life = record p.life { held = nothing };
          waiting = record p.waiting { claims = claims };
          requests = unreplied p.life.held.replies p.requests;
          timing = all_own_seen p.life.held.frames now p.timing;
        })
    answers : (p : ProcessState S) (position : ℕ) (question : Question) (waiting : WaitingState) (said : List Talk) (life : LifeState S)
        → p.life.held ≡ nothing → IsPosition p.life.node position → IsNextAnswered position p.waiting waiting question
        → IsAnswered storages p.life question said life → Move Telling p [] said (record p { life = life; waiting = waiting })
    holds_back : (p : ProcessState S) (position : ℕ) (question : Question) (rest : List Due) → p.life.held ≡ nothing
        → p.waiting.due ≡ due.Answer question ∷ rest → IsPosition p.life.node position → position < question.from
        → Move Telling p [] [] (record p {
          waiting = record p.waiting { questions = p.waiting.questions ++ question ∷ []; due = rest };
        })
    tells : (p : ProcessState S) (connection : ℕ) (line : Vec ℕ) (rest : List Due) → p.life.held ≡ nothing
        → p.waiting.due ≡ due.Line connection line ∷ rest
        → Move Telling p [] (Told connection line.items ∷ []) (record p { waiting = record p.waiting { due = rest } })
    -- every reply was told and the log is full: the request is executed never, and handed on to nobody
    turns_away : (p : ProcessState S) (claim : Claim) (rest : List Claim) (refusal : Vec ℕ) → p.life.held ≡ nothing
        → IsFull p.life.node → p.waiting.claims ≡ claim ∷ rest
        → refusal.items ≡ answer_line (answer.Refused claim.client claim.number (node_code node_fault.LogFull))
        → Move Telling p [] [] (record p { waiting = owing claim.connection refusal (record p.waiting { claims = rest }) })
    clears : (p : ProcessState S) → p.life.held ≡ nothing → IsFull p.life.node → Move Telling p [] [] (record p { requests = [] })
    hands_on : (p : ProcessState S) (place : ℕ) (requests : List RequestState) (sent : List Carried)
        → p.life.held ≡ nothing → ¬ IsFull p.life.node
        → (first : HandsOnFirst now place p.requests requests) → is_marked first.request.packet ≡ true
        → ArePacketsOf (leader_in p.timing) p.own first.request.packet p.nodes sent
        → Move Telling p sent [] (record p { requests = requests })
    -- at its node's position
    looks : (p : ProcessState S) (position : ℕ) → IsPosition p.life.node position
        → Move Telling p [] [] (record p { timing = position_seen position (is_asked_in p) now p.timing })

  -- one move after the other
  pub data Moves (part : Part) : ProcessState S → List Carried → List Talk → ProcessState S → Type 0 where
    none : (p : ProcessState S) → Moves part p [] [] p
    next : (p q r : ProcessState S) (sent more : List Carried) (said told : List Talk) → Moves part p sent said q
        → Move part q more told r → Moves part p (sent ++ more) (said ++ told) r

  -- and whether a connection was told anything
  abbrev pub TellsOrNot : ProcessState S → List Carried → List Talk → ProcessState S → Bool → Type 0
  TellsOrNot p sent said q has_told = Moves Telling p sent said q × (has_told ≡ has_any said)

  -- it takes what has come, hears what clients did, keeps the time, and goes on until no frame of its own waits: whether more may have come
  pub record TakesAll (p : ProcessState S) (came : List Carried) (heard : List Talk) (q : ProcessState S) (more : Bool) : Type 0 where
    pub more_came : Bool
    pub after_packets : ProcessState S
    pub packets : Moves Taking p came [] after_packets
    pub all_packets : HasRead polled came more_came
    pub own_packets : p.life.own ≡ [] → after_packets.life.own ≡ []
    pub more_heard : Bool
    pub after_lines : ProcessState S
    pub lines : Moves Taking after_packets [] heard after_lines
    pub all_lines : HasRead read heard more_heard
    pub life : LifeState S
    pub knows : TimingState
    pub keeps_time : KeepsTime storages now after_lines life knows
    pub goes_on : Moves Taking (record after_lines { life = life; timing = knows }) [] [] q
    pub own : q.life.own ≡ []
    pub is_more : more ≡ more_came || more_heard

  -- then it tells what came of it. A connection that was told something may have lines that wait unread, too
  pub record IsTurn (p : ProcessState S) (sent : List Carried) (said : List Talk) (r : ProcessState S) (more : Bool) : Type 0 where
    pub came : List Carried
    pub heard : List Talk
    pub more_came : Bool
    pub between : ProcessState S
    pub takes : TakesAll p came heard between more_came
    pub out : List Carried
    pub told : List Talk
    pub has_told : Bool
    pub tells : TellsOrNot between out told r has_told
    pub all_sent : sent ≡ came ++ out
    pub all_said : said ≡ heard ++ told
    pub is_more : more ≡ more_came || has_told

  -- ---- a turn that breaks off, at an error
  -- while it takes: behind these moves at most one thing more came or was heard, and at most one message or request came to its node
  pub record StopsTaking (p : ProcessState S) (came : List Carried) (heard : List Talk) (fault : TurnFault) (n : NodeState S) : Type 0 where
    pub between : ProcessState S
    pub came_before : List Carried
    pub heard_before : List Talk
    pub takes : Moves Taking p came_before heard_before between
    pub last_came : List Carried
    pub last_heard : List Talk
    pub one : length last_came + length last_heard ≤ 1
    pub came_so : All IsArrival last_came
    pub heard_so : All IsHeard last_heard
    pub all_came : came ≡ came_before ++ last_came
    pub all_heard : heard ≡ heard_before ++ last_heard
    -- nothing came while a frame to itself waited
    pub own : p.life.own ≡ [] → (last_came ≡ []) ⊎ (between.life.own ≡ [])
    pub ends : EndsAt storages IsOfOthers between.life.node fault n

  -- it has taken what has come and heard what clients did, or as much as a turn may
  pub record HasTaken (p : ProcessState S) (came : List Carried) (heard : List Talk) (q : ProcessState S) : Type 0 where
    pub after_packets : ProcessState S
    pub packets : Moves Taking p came [] after_packets
    pub more_came : Bool
    pub all_packets : HasRead polled came more_came
    pub own_packets : p.life.own ≡ [] → after_packets.life.own ≡ []
    pub lines : Moves Taking after_packets [] heard q
    pub more_heard : Bool
    pub all_lines : HasRead read heard more_heard

  -- behind that and the time: at a frame of its own, or at its records, when none of those waits any more
  pub record StopsGoingOn (p : ProcessState S) (fault : TurnFault) (n : NodeState S) : Type 0 where
    pub life : LifeState S
    pub knows : TimingState
    pub keeps_time : KeepsTime storages now p life knows
    pub between : ProcessState S
    pub goes_on : Moves Taking (record p { life = life; timing = knows }) [] [] between
    pub ends : EndsAt storages IsOfOthers between.life.node fault n
        ⊎ ((between.life.own ≡ []) × StopsKeepingRecords storages between.life fault n)

  -- while it tells: behind these moves its node was at most asked once more
  pub record StopsBehind (p : ProcessState S) (sent : List Carried) (said : List Talk) (fault : TurnFault) (n : NodeState S) : Type 0 where
    pub between : ProcessState S
    pub tells : Moves Telling p sent said between
    pub ends : EndsAt storages IsAsked between.life.node fault n

  -- or the next request was handed on to the first nodes of all that there are
  pub record HandsOnSome (p : ProcessState S) (sent : List Carried) : Type 0 where
    pub place : ℕ
    pub requests : List RequestState
    pub upto : ℕ
    pub among : upto ≤ p.nodes
    pub silent : p.life.held ≡ nothing
    pub goes_on : ¬ IsFull p.life.node
    pub first : HandsOnFirst now place p.requests requests
    pub some : ArePacketsOf (leader_in p.timing) p.own first.request.packet upto sent

  pub record StopsHandingOn (p : ProcessState S) (sent : List Carried) (said : List Talk) (n : NodeState S) : Type 0 where
    pub between : ProcessState S
    pub sent_before : List Carried
    pub last : List Carried
    pub tells : Moves Telling p sent_before said between
    pub hands_on : HandsOnSome between last
    pub all_sent : sent ≡ sent_before ++ last
    pub same : n ≡ between.life.node

  -- or some went out of what is let out. Where it lets out or hands on only memory can be wanting
  pub data StopsTelling (p : ProcessState S) : List Carried → List Talk → TurnFault → NodeState S → Type 0 where
    letting_out : (sent : List Carried) (said : List Talk) → LetsOutSome p.life.held.frames p.life.held.replies p.waiting.claims sent said
        → StopsTelling p sent said turn_fault.Memory p.life.node
    behind : (sent : List Carried) (said : List Talk) (fault : TurnFault) (n : NodeState S) → StopsBehind p sent said fault n
        → StopsTelling p sent said fault n
    handing_on : (sent : List Carried) (said : List Talk) (n : NodeState S) → StopsHandingOn p sent said n
        → StopsTelling p sent said turn_fault.Memory n

  pub data IsBrokenOff (p : ProcessState S) : List Carried → List Talk → TurnFault → NodeState S → Type 0 where
    while_taking : (came : List Carried) (heard : List Talk) (fault : TurnFault) (n : NodeState S) → StopsTaking p came heard fault n
        → IsBrokenOff p came heard fault n
    at_the_time : (q : ProcessState S) (came : List Carried) (heard : List Talk) (fault : TurnFault) (n : NodeState S)
        → HasTaken p came heard q → StopsKeepingTime storages now q fault n → IsBrokenOff p came heard fault n
    behind_the_time : (q : ProcessState S) (came : List Carried) (heard : List Talk) (fault : TurnFault) (n : NodeState S)
        → HasTaken p came heard q → StopsGoingOn q fault n → IsBrokenOff p came heard fault n
    while_telling : (q : ProcessState S) (came sent : List Carried) (heard said : List Talk) (more : Bool) (fault : TurnFault)
        (n : NodeState S) → TakesAll p came heard q more → StopsTelling q sent said fault n
        → IsBrokenOff p (came ++ sent) (heard ++ said) fault n

  -- a turn that ends with a fault: at once, where its node is down already; or it breaks off on its way, where that was up as it began, as
  -- each move leaves it
  pub data IsEnded (p : ProcessState S) : List Carried → List Talk → TurnFault → NodeState S → Type 0 where
    at_once : p.life.node.up ≡ None → IsEnded p [] [] (turn_fault.Node node_fault.Down) p.life.node
    on_its_way : (sent : List Carried) (said : List Talk) (fault : TurnFault) (n : NodeState S) → IsSome p.life.node.up
        → IsBrokenOff p sent said fault n → IsEnded p sent said fault n
