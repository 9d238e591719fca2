-- What an input makes of a node that takes it: the one write, what it holds then, and what it says.
use Rattle.std.specs.Prelude.{◌≡◌, ℕ, ◌<◌, ◌≤◌, ◌-◌, ◌&&◌, nat_lt, List, [], ◌++◌, ◌∷◌, Bool, true, false, Option, Some, None, not, if◌then◌else◌}
use Rattle.byteorder.specs.Endian.{big_bytes}
use Rattle.synod.specs.declared.slot.TheConstants.{SLOTS}
use Rattle.synod.specs.declared.vote.Vote.{Vote}
use Rattle.stable.specs.declared.key.Key.TheVariants as key
use Rattle.stable.specs.Records.{Sets}
use Rattle.sessions.specs.declared.submission.Submission.{Submission}
use Rattle.sessions.specs.Machines.{MachineState}
use Rattle.sessions.specs.Snapshots.{MachineFits, snapshot_bytes}
use Rattle.sessions.specs.declared.command.Command.{Command}
use Rattle.acceptor.specs.declared.answer.Answer.{Answer}
use Rattle.acceptor.specs.Accepting.{checkpoint_change, after_checkpoint, IsTrimWrite, after_trim}
use Rattle.acceptor.specs.Accepting.{OptionalWrite, AnswersPrepare, prepare_write, after_prepare, accept_answer, after_accept, IsAcceptWrite}
use Rattle.learner.specs.Learning.{Learning, prefix, learnt_at, HearsVote, HearsDecided, skipped}
use Rattle.learner.specs.declared.learned.Learned.{Learned}
use Rattle.proposer.specs.Proposing.{Proposing, next_round, StartsCampaign, with_promised, after_nack, after_learned, is_led, proposes}
use Rattle.proposer.specs.Proposing.{sends_again, skipped_to}
use Rattle.proposer.specs.declared.sends.Outgoing.{Outgoing}
use Rattle.wire.specs.Parts.{Piece, joined}
use Rattle.wire.specs.Promises.{Promised}
use Rattle.wire.specs.declared.frames.envelope.Envelope.{Envelope}
use Rattle.wire.specs.declared.frames.message.Message.{Message}
use Rattle.wire.specs.declared.frames.message.Message.TheVariants.{Prepare, Promise, Nack, Accept, Accepted, Ask, Decided, SnapAsk, SnapPart, Behind}
use Rattle.node_model.specs.declared.input.Input.{Input}
use Rattle.node_model.specs.declared.input.Input.TheVariants as input
use Rattle.node_model.specs.declared.outputs.ReplyOut.{ReplyOut}
use Rattle.node_model.specs.Composition.{StandsForMore, RepliesToMore}
use Rattle.node_model.specs.Executing.{Executing, executed, commands}
use Rattle.node_model.specs.Fetching.{Fetching, nothing_of, is_above_target, still_fetched, wants, with_part, missing, next_part}
use Rattle.node_model.specs.Inputs.{is_for_this_run}
use Rattle.node_model.specs.Replicas.{ReplicaState, position, submission_of, waits}
use Rattle.node_model.specs.Outputs.{Response, sent, silence}
use Rattle.node_model.specs.Sending.{envelopes_of, envelopes, answer_sends, decided_sends, ask_sends, ask_others}
use Rattle.node_model.specs.Sending.{to_one, to_others, snapshot_sends}

-- ---- the one write that an input makes, if it makes one
-- on a message only an acceptor writes
abbrev pub WritesOnMessage : ReplicaState → Message → OptionalWrite → Type 0
WritesOnMessage m (Prepare ballot first) write = write ≡ prepare_write m.acceptor ballot first
WritesOnMessage m (Accept v) write = IsAcceptWrite m.acceptor v write
WritesOnMessage m other write = write ≡ None

abbrev pub WritesOnEnvelope : ReplicaState → Envelope → Bool → OptionalWrite → Type 0
WritesOnEnvelope m e false write = write ≡ None
WritesOnEnvelope m e true write = WritesOnMessage m e.message write

-- a checkpoint is written: the snapshot text of what is executed, at a position above the floor
pub record WritesCheckpoint (m : ReplicaState) (write : OptionalWrite) : Type 0 where
  pub above : m.acceptor.floor < position m
  pub in_log : position m ≤ SLOTS
  pub fits : MachineFits m.machine
  pub is : write ≡ Some (checkpoint_change m.acceptor (position m) (snapshot_bytes m.machine))

abbrev pub Writes : ReplicaState → Input → OptionalWrite → Type 0
Writes m (input.Message e) write = WritesOnEnvelope m e (is_for_this_run m.id m.nodes e) write
Writes m input.Timeout write = write ≡ Some (Sets key.Round (big_bytes 8 (next_round m.proposer)))
Writes m input.Checkpoint write = WritesCheckpoint m write
Writes m input.Trim write = IsTrimWrite m.acceptor write
Writes m other write = write ≡ None

-- ---- a proposer's part
-- what a node holds and says where its proposer comes to this, and sends this
abbrev pub with_proposer : ReplicaState → Proposing × List Outgoing → ReplicaState
with_proposer m p = record m { proposer = p.0 }

abbrev pub proposer_sends : ReplicaState → Proposing × List Outgoing → List Envelope
proposer_sends m p = envelopes m.id m.nodes p.1

-- the proposer proposes what it may
abbrev pub proposed : Proposing → Learning → Proposing × List Outgoing
proposed p l = proposes p p.campaign l

-- a campaign begins to lead
abbrev pub begins_to_lead : Proposing → Proposing → Bool
begins_to_lead old new = not (is_led old.campaign) && is_led new.campaign

-- a promise is counted; where its campaign begins to lead by it, the proposer proposes
abbrev pub after_counting : Proposing → Proposing → Learning → Proposing × List Outgoing
after_counting old new l = if begins_to_lead old new then proposed new l else (new, [])

abbrev pub after_promise : ReplicaState → ℕ → Promised → Proposing × List Outgoing
after_promise m from p = after_counting m.proposer (with_promised m.proposer from p) m.learner

-- a request waits from now on, and the proposer proposes
abbrev pub with_request : Proposing → Submission → Proposing
with_request p r = record p { waiting = p.waiting ++ r ∷ [] }

abbrev pub after_submit : ReplicaState → Submission → Proposing × List Outgoing
after_submit m r = if waits m r.client r.number then (m.proposer, []) else proposed (with_request m.proposer r) m.learner

-- ---- a command is newly learnt
-- the machine and the requests that wait, where these replies are there
abbrev pub executing_of : ReplicaState → List ReplyOut → Executing
executing_of m replies = record { machine = m.machine; waiting = m.proposer.waiting; replies = replies }

abbrev pub with_executing : ReplicaState → Executing → ReplicaState
with_executing m e = record m { machine = e.machine; proposer = record m.proposer { waiting = e.waiting } }

-- what is learnt, from a slot to the position
abbrev pub learnt_from : ReplicaState → ℕ → List Command
learnt_from m slot = commands m.learner.learnt slot (position m - slot)

-- what is learnt by now is executed, from the position before on
abbrev pub news : ReplicaState → Learning → List Command
news m l = commands l.learnt (position m) (prefix l - position m)

abbrev pub execution : ReplicaState → Learning → Executing
execution m l = executed (executing_of m []) (position m) (news m l)

-- no proposal for the slot is open any more, and no request that was executed waits
abbrev pub proposer_of : ReplicaState → ℕ → Executing → Proposing
proposer_of m slot e = record (after_learned m.proposer slot) { waiting = e.waiting }

-- the proposer proposes then
abbrev pub after_news : ReplicaState → ℕ → Learning → Proposing × List Outgoing
after_news m slot l = proposed (proposer_of m slot (execution m l)) l

-- what a node makes of it: `asks` is what it sends last
pub record Learns (old : ReplicaState) (slot : ℕ) (c : Command) (l : Learning) (asks : List Envelope) (new : ReplicaState) (said : Response) : Type 0
  where
    pub leaves : new ≡ record old {
      learner = l;
      proposer = (after_news old slot l).0;
      machine = (execution old l).machine;
      fetching = still_fetched (prefix l) old.fetching;
    }
    pub says : said ≡ record {
      restored = None;
      learnt = Some (record { slot = slot; command = c });
      replies = (execution old l).replies;
      sends = proposer_sends old (after_news old slot l) ++ asks;
    }
    -- what that is to each list of commands that its machine stands for
    pub stands : StandsForMore old.machine new.machine (news old l)
    pub replies : RepliesToMore old.machine (position old) (news old l) said.replies

-- a learner has heard some news, by which a slot is newly learnt or none is
abbrev pub Hears : ReplicaState → Command → Option Learned → Learning → List Envelope → ReplicaState → Response → Type 0
Hears old c None l asks new said = (new ≡ record old { learner = l }) × (said ≡ silence)
Hears old c (Some learned) l asks new said = Learns old learned.slot c l asks new said

-- a node that has learnt a slot from another asks that one for the next, last
abbrev pub HearsOfDecided : ReplicaState → ℕ → ℕ → Command → ReplicaState → Response → Type 0
HearsOfDecided old from slot c new said =
    (learned : Option Learned) × (l : Learning) × HearsDecided old.learner slot c learned l
    × Hears old c learned l (ask_sends old.id from (prefix l)) new said

abbrev pub HearsOfVote : ReplicaState → ℕ → Vote Command → ReplicaState → Response → Type 0
HearsOfVote old from v new said =
    (learned : Option Learned) × (l : Learning) × HearsVote old.learner from v learned l
    × Hears old v.command learned l [] new said

-- ---- a snapshot is fetched
-- a node is told of a floor above its position and above what it fetches: it asks every other node for the first part of that text
abbrev pub is_ahead : ReplicaState → ℕ → Bool
is_ahead m floor = nat_lt (position m) floor && is_above_target m.fetching floor

abbrev pub HearsOfFloor : ReplicaState → ℕ → Bool → ReplicaState → Response → Type 0
HearsOfFloor old floor false new said = (new ≡ old) × (said ≡ silence)
HearsOfFloor old floor true new said =
    (new ≡ record old { fetching = Some (nothing_of floor) })
    × (said ≡ sent (to_others old.id old.nodes (SnapAsk floor 0)))

-- a part counts, and this is fetched with it
pub record PartCounts (m : ReplicaState) (p : Piece) (f : Fetching) : Type 0 where
  pub before : Fetching
  pub fetching_ : m.fetching ≡ Some before
  pub wanted : wants m.fetching (position m) p ≡ true
  pub is : f ≡ with_part before p

-- the machine of a restored text takes the place of the node's: what it has learnt below the target is passed over
abbrev pub restored : ReplicaState → ℕ → MachineState → ReplicaState
restored m target machine = record m {
  learner = skipped m.learner target;
  proposer = skipped_to m.proposer target;
  machine = machine;
  fetching = None;
}

-- what is learnt from a slot on is executed
abbrev pub execution_from : ReplicaState → ℕ → Executing
execution_from m slot = executed (executing_of m []) slot (learnt_from m slot)

abbrev pub executed_to_the_end : ReplicaState → ℕ → ReplicaState
executed_to_the_end m slot = with_executing m (execution_from m slot)

-- what a node makes of the machine of a whole text: `m` is what it holds then
pub record Restores (old : ReplicaState) (from target : ℕ) (machine : MachineState) (new : ReplicaState) (said : Response) : Type 0 where
  pub in_log : target ≤ SLOTS
  pub m : ReplicaState
  pub begins : m ≡ restored old target machine
  pub leaves : new ≡ with_proposer (executed_to_the_end m target) (proposed (executed_to_the_end m target).proposer m.learner)
  pub says : said ≡ record {
    restored = Some target;
    learnt = None;
    replies = (execution_from m target).replies;
    sends = proposer_sends old (proposed (executed_to_the_end m target).proposer m.learner) ++ ask_sends old.id from (position m);
  }
  -- what that is to each list of commands that the machine stands for
  pub stands : StandsForMore machine new.machine (learnt_from m target)
  pub replies : RepliesToMore machine target (learnt_from m target) said.replies

-- the machine has this text
pub record IsMachineOfText (text : List ℕ) (machine : MachineState) : Type 0 where
  pub fits : MachineFits machine
  pub is : snapshot_bytes machine ≡ text

-- a whole text is there, which is a machine's, or none's and then given up
pub data RestoresText (old : ReplicaState) (from target : ℕ) (text : List ℕ) (new : ReplicaState) (said : Response) : Type 0 where
  restores : (machine : MachineState) → IsMachineOfText text machine → Restores old from target machine new said
      → RestoresText old from target text new said
  gives_up : ((machine : MachineState) → ¬ IsMachineOfText text machine) → new ≡ record old { fetching = None } → said ≡ silence
      → RestoresText old from target text new said

-- a part has come from a node
pub data TakesPart (old : ReplicaState) (from : ℕ) (p : Piece) (new : ReplicaState) (said : Response) : Type 0 where
  -- it doesn't count
  passes : wants old.fetching (position old) p ≡ false → new ≡ old → said ≡ silence → TakesPart old from p new said
  -- it counts, and the lowest part that is missing is asked for next
  keeps : (f : Fetching) → PartCounts old p f → (number : ℕ) → missing f ≡ Some number → new ≡ record old { fetching = Some f }
      → said ≡ sent (to_one old.id from (SnapAsk f.target number)) → TakesPart old from p new said
  -- none is missing
  completes : (f : Fetching) → PartCounts old p f → missing f ≡ None → RestoresText old from f.target (joined f.held) new said
      → TakesPart old from p new said

-- ---- what an input makes of a node, and what the node says
abbrev pub TakesMessage : ReplicaState → ℕ → Message → ReplicaState → Response → Type 0
TakesMessage old from (Prepare ballot first) new said =
    (answer : Answer) × AnswersPrepare old.acceptor ballot first answer
    × (new ≡ record old { acceptor = after_prepare old.acceptor ballot first })
    × (said ≡ sent (answer_sends old.id old.nodes from answer))
TakesMessage old from (Promise p) new said =
    (new ≡ with_proposer old (after_promise old from p)) × (said ≡ sent (proposer_sends old (after_promise old from p)))
TakesMessage old from (Nack n) new said =
    (new ≡ record old { proposer = after_nack old.proposer n }) × (said ≡ silence)
TakesMessage old from (Accept v) new said =
    (new ≡ record old { acceptor = after_accept old.acceptor v })
    × (said ≡ sent (answer_sends old.id old.nodes from (accept_answer old.acceptor v)))
TakesMessage old from (Accepted v) new said = HearsOfVote old from v new said
TakesMessage old from (Ask slot) new said =
    (new ≡ old) × (said ≡ sent (decided_sends old.id from slot old.acceptor.floor (learnt_at old.learner slot)))
TakesMessage old from (Decided slot command) new said = HearsOfDecided old from slot command new said
TakesMessage old from (SnapAsk position number) new said =
    (new ≡ old) × (said ≡ sent (snapshot_sends old.acceptor old.id from position number))
TakesMessage old from (SnapPart p) new said = TakesPart old from p new said
TakesMessage old from (Behind floor) new said = HearsOfFloor old floor (is_ahead old floor) new said

-- an envelope that doesn't concern the node is ignored
abbrev pub TakesEnvelope : ReplicaState → Envelope → Bool → ReplicaState → Response → Type 0
TakesEnvelope old e false new said = (new ≡ old) × (said ≡ silence)
TakesEnvelope old e true new said = TakesMessage old e.from e.message new said

-- the others are asked for what is learnt at the position, or for the lowest part that is missing of what is fetched
abbrev pub asks_for : ℕ → ℕ → ℕ → Option Fetching → List Envelope
asks_for id nodes position None = ask_others id nodes position
asks_for id nodes position (Some f) = to_others id nodes (SnapAsk f.target (next_part f))

abbrev pub asks_again : ReplicaState → List Envelope
asks_again m = asks_for m.id m.nodes (position m) m.fetching

-- a campaign begins, and its prepares are sent
abbrev pub TakesTimeout : ReplicaState → ReplicaState → Response → Type 0
TakesTimeout old new said =
    (prepare : Outgoing) × StartsCampaign old.proposer (position old) new.proposer prepare
    × (new ≡ record old { proposer = new.proposer }) × (said ≡ sent (envelopes_of old.id old.nodes prepare))

abbrev pub Takes : ReplicaState → Input → ReplicaState → Response → Type 0
Takes old (input.Submit client number op) new said =
    (new ≡ with_proposer old (after_submit old (submission_of client number op)))
    × (said ≡ sent (proposer_sends old (after_submit old (submission_of client number op))))
Takes old (input.Message e) new said = TakesEnvelope old e (is_for_this_run old.id old.nodes e) new said
Takes old input.Timeout new said = TakesTimeout old new said
Takes old input.Tick new said =
    (new ≡ old)
    × (said ≡ sent (envelopes old.id old.nodes (sends_again old.proposer.campaign) ++ asks_again old))
Takes old input.Checkpoint new said =
    (new ≡ record old { acceptor = after_checkpoint old.acceptor (position old) (snapshot_bytes old.machine) })
    × (said ≡ silence)
Takes old input.Trim new said = (new ≡ record old { acceptor = after_trim old.acceptor }) × (said ≡ silence)
