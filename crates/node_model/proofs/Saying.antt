-- What a node says on an input has few shapes, and this is the one file with a case for each input and each kind of message. What
-- concerns none of them in particular goes by the shapes.
use Rattle.std.proofs.Common.{◌≡◌, ◌==◌, ◌&&◌, ℕ, ◌<◌, nat_lt, Bool, true, false, List, [], ◌∷◌, ◌++◌}
use Rattle.std.proofs.Common.{Option, Some, None, if◌then◌else◌, refl, sym, ap, ◌∙◌, append-nil}
use Rattle.std.proofs.lemmas.Bool.{and_parts, cond_both, ltb-true, eqb-true}
use Rattle.synod.specs.Acts as act
use Rattle.synod.specs.Messages as synod
use Rattle.synod.specs.declared.ballot.Ballot.{Ballot}
use Rattle.synod.specs.declared.slot.TheConstants.{SLOTS}
use Rattle.synod.specs.declared.vote.Vote.{Vote}
use Rattle.sessions.specs.declared.submission.Submission.{Submission}
use Rattle.sessions.specs.Machines.{MachineState}
use Rattle.sessions.specs.Snapshots.{snapshot_bytes}
use Rattle.sessions.specs.declared.command.Command.{Command}
use Rattle.sessions.specs.declared.command.Command.TheVariants.{Request}
use Rattle.acceptor.specs.Accepting.{Accepting, AnswersPrepare, after_prepare, accept_answer, after_accept, after_checkpoint, after_trim}
use Rattle.acceptor.specs.declared.answer.Answer.{Answer}
use Rattle.learner.specs.Learning.{learnt_at}
use Rattle.proposer.specs.Proposing.{Proposing, StartsCampaign, next_round, after_nack, sends_again}
use Rattle.proposer.specs.declared.sends.Outgoing.{Outgoing}
use Rattle.wire.specs.Parts.{Piece, piece, has_part, piece_of, joined}
use Rattle.wire.specs.Promises.{Promised, Refused}
use Rattle.wire.specs.declared.frames.envelope.Envelope.{Envelope}
use Rattle.wire.specs.declared.frames.message.Message.{Message}
use Rattle.wire.specs.declared.frames.message.Message.TheVariants.{Prepare, Promise, Nack, Accept, Accepted, Ask, Decided, SnapAsk, SnapPart, Behind}
use Rattle.node_model.specs.declared.input.Input.{Input}
use Rattle.node_model.specs.declared.input.Input.TheVariants as input
use Rattle.node_model.specs.Fetching.{Fetching, nothing_of, missing, next_part}
use Rattle.node_model.specs.Inputs.{names_run, is_for_this_run}
use Rattle.node_model.specs.Outputs.{Response, sent, silence}
use Rattle.node_model.specs.Protocol.{message_of, coming, input_of, submissions, accepting_on, accepting_if, accepting_after, round_after}
use Rattle.node_model.specs.Replicas.{ReplicaState, position, submission_of}
use Rattle.node_model.specs.Sending.{to_one, to_others, envelopes_of, answer_sends, decided_sends, ask_sends, part_sends, snapshot_sends}
use Rattle.node_model.specs.Taking.{Takes, TakesEnvelope, TakesMessage, HearsOfVote, HearsOfDecided, HearsOfFloor, TakesPart, PartCounts}
use Rattle.node_model.specs.Taking.{RestoresText, Restores, IsMachineOfText, with_proposer, proposer_sends, after_promise, after_submit, is_ahead}
use Rattle.node_model.specs.Taking.{asks_for, asks_again}
use Rattle.node_model.specs.Taking.TakesPart.{passes, keeps, completes}
use Rattle.node_model.specs.Taking.RestoresText.{restores, gives_up}

-- ---- what an input is besides
-- to the protocol it is this, and it submits these commands; the acceptor, and the round that the proposer has begun last, are
-- these once its write is made
pub record IsInput (old : ReplicaState) (i : Input) (in' : act.Input Command) (submits : List Command) (a : Accepting) (round : ℕ) : Type 0
  where
    pub input_ : input_of old.id old.nodes i ≡ in'
    pub submits_ : submissions i ≡ submits
    pub acceptor_ : accepting_after old i ≡ a
    pub round_ : round_after old i ≡ round

-- ---- questions, and what answers them
-- it is the part of this number of the acceptor's text, which has it
pub record IsPartOf (a : Accepting) (p : Piece) : Type 0 where
  pub at : a.floor ≡ p.position
  pub has : has_part a.text p.number ≡ true
  pub is : p ≡ piece p.position a.text p.number

-- safety says nothing of the message, and it brings no part of a text
pub record IsPlain (m : Message) : Type 0 where
  pub plain : message_of m ≡ synod.Plain
  pub no_part : (p : Piece) → m ≡ SnapPart p → ⊥

-- a node of the run, or every other, is sent such a message, or a part of the acceptor's text
pub data PlainSends (old : ReplicaState) : List Envelope → Type 0 where
  to_nobody : PlainSends old []
  to_node : (to : ℕ) (m : Message) → to < old.nodes → IsPlain m → PlainSends old (to_one old.id to m)
  to_the_rest : (m : Message) → IsPlain m → PlainSends old (to_others old.id old.nodes m)
  brings_part : (to : ℕ) (p : Piece) → to < old.nodes → IsPartOf old.acceptor p → PlainSends old (to_one old.id to (SnapPart p))

-- ---- what each role makes of it
-- what the node fetches then, where it doesn't restore
pub data FetchesNext (old : ReplicaState) (i : Input) : Option Fetching → Type 0 where
  as_before : FetchesNext old i old.fetching
  aims : (floor : ℕ) → FetchesNext old i (Some (nothing_of floor))
  holds : (from to : ℕ) (p : Piece) (f : Fetching) → i ≡ input.Message (record { from = from; to = to; message = SnapPart p })
      → PartCounts old p f → FetchesNext old i (Some f)
  -- a text was none's
  ends : FetchesNext old i None

-- what its acceptor holds then, and answers
pub data Answers (old : ReplicaState) (from : ℕ) : act.Input Command → Accepting → Answer → Type 0 where
  to_prepare : (ballot : Ballot) (first : ℕ) (a : Answer) → AnswersPrepare old.acceptor ballot first a
      → Answers old from (act.Came from (message_of (Prepare ballot first))) (after_prepare old.acceptor ballot first) a
  to_accept : (v : Vote Command)
      → Answers old from (act.Came from (message_of (Accept v))) (after_accept old.acceptor v) (accept_answer old.acceptor v)

-- what its acceptor holds that writes on the node's own account
pub data WritesAlone (old : ReplicaState) : Accepting → Type 0 where
  checkpoint : WritesAlone old (after_checkpoint old.acceptor (position old) (snapshot_bytes old.machine))
  trim : WritesAlone old (after_trim old.acceptor)

-- what its proposer comes to, and sends; by now it has begun this round, and was submitted these commands
pub data Proposes (old : ReplicaState) : act.Input Command → List Command → ℕ → Proposing × List Outgoing → Type 0 where
  counts : (from : ℕ) (p : Promised) → from < old.nodes
      → Proposes old (act.Came from (message_of (Promise p))) [] old.proposer.round (after_promise old from p)
  gives_way : (from : ℕ) (n : Refused)
      → Proposes old (act.Came from (message_of (Nack n))) [] old.proposer.round (after_nack old.proposer n, [])
  is_asked : (r : Submission) → Proposes old act.Nothing (Request r ∷ []) old.proposer.round (after_submit old r)
  campaigns : (p : Proposing) (prepare : Outgoing) → StartsCampaign old.proposer (position old) p prepare
      → Proposes old act.Nothing [] (next_round old.proposer) (p, prepare ∷ [])
  repeats : Proposes old act.Nothing [] old.proposer.round (old.proposer, sends_again old.proposer.campaign)

-- the last part that was missing has come, and the text is this machine's
pub record MakesText (old : ReplicaState) (i : Input) (new : ReplicaState) (said : Response) : Type 0 where
  pub from : ℕ
  pub to : ℕ
  pub p : Piece
  pub is : i ≡ input.Message (record { from = from; to = to; message = SnapPart p })
  pub sender : from < old.nodes
  pub fetched : Fetching
  pub counts_ : PartCounts old p fetched
  pub whole : missing fetched ≡ None
  pub machine : MachineState
  pub text : IsMachineOfText (joined fetched.held) machine
  pub restored : Restores old from fetched.target machine new said

-- ---- what a node makes of an input, by what it says
pub data Says (old : ReplicaState) (i : Input) (new : ReplicaState) (said : Response) : Type 0 where
  -- it asks, or answers a question, and nothing changes but what it fetches
  tells : (in' : act.Input Command) (f : Option Fetching) (sends : List Envelope)
      → IsInput old i in' [] old.acceptor old.proposer.round → FetchesNext old i f → PlainSends old sends
      → new ≡ record old { fetching = f } → said ≡ sent sends → Says old i new said
  -- what is learnt at a slot is reported to one that asked
  reports : (in' : act.Input Command) (to slot : ℕ) (c : Command) → IsInput old i in' [] old.acceptor old.proposer.round
      → to < old.nodes → learnt_at old.learner slot ≡ Some c
      → new ≡ old → said ≡ sent (to_one old.id to (Decided slot c)) → Says old i new said
  -- its acceptor answers
  answers : (in' : act.Input Command) (to : ℕ) (a : Accepting) (answer : Answer) → IsInput old i in' [] a old.proposer.round
      → to < old.nodes → Answers old to in' a answer
      → new ≡ record old { acceptor = a } → said ≡ sent (answer_sends old.id old.nodes to answer) → Says old i new said
  -- its acceptor writes, and nothing is said
  writes : (a : Accepting) → IsInput old i act.Nothing [] a old.proposer.round → WritesAlone old a
      → new ≡ record old { acceptor = a } → said ≡ silence → Says old i new said
  -- its proposer goes on, and questions may follow
  proposes : (in' : act.Input Command) (submits : List Command) (round : ℕ) (p : Proposing × List Outgoing) (asks : List Envelope)
      → IsInput old i in' submits old.acceptor round → Proposes old in' submits round p → PlainSends old asks
      → new ≡ with_proposer old p → said ≡ sent (proposer_sends old p ++ asks) → Says old i new said
  -- its learner hears of a vote, or of what is decided at a slot
  hears_vote : (from to : ℕ) (v : Vote Command) → i ≡ input.Message (record { from = from; to = to; message = Accepted v })
      → IsInput old i (act.Came from (message_of (Accepted v))) [] old.acceptor old.proposer.round
      → HearsOfVote old from v new said → Says old i new said
  hears_decided : (from to slot : ℕ) (c : Command) → i ≡ input.Message (record { from = from; to = to; message = Decided slot c })
      → IsInput old i (act.Came from (message_of (Decided slot c))) [] old.acceptor old.proposer.round → from < old.nodes
      → HearsOfDecided old from slot c new said → Says old i new said
  -- it restores a text
  makes_text : (in' : act.Input Command) → IsInput old i in' [] old.acceptor old.proposer.round → MakesText old i new said
      → Says old i new said

-- ---- who asks and who is told
module _ (old : ReplicaState) where
  -- a message to one node where a test holds
  one_if : (b : Bool) (to : ℕ) (m : Message) → to < old.nodes → IsPlain m → PlainSends old (if b then to_one old.id to m else [])
  one_if b to m there plain = cond_both b (to_one old.id to m) [] (PlainSends old) (λ _. to_node to m there plain) (λ _. to_nobody)

  ask_is_plain : (slot : ℕ) → IsPlain (Ask slot)
  ask_is_plain slot = record { plain = refl; no_part = λ p e. cc }

  part_ask_is_plain : (target number : ℕ) → IsPlain (SnapAsk target number)
  part_ask_is_plain target number = record { plain = refl; no_part = λ p e. cc }

  floor_is_plain : (floor : ℕ) → IsPlain (Behind floor)
  floor_is_plain floor = record { plain = refl; no_part = λ p e. cc }

  -- the next slot is asked for
  pub asks_one : (to slot : ℕ) → to < old.nodes → PlainSends old (ask_sends old.id to slot)
  asks_one to slot there = one_if (nat_lt slot SLOTS) to (Ask slot) there (ask_is_plain slot)

  asks_others : (slot : ℕ) (o : Option Fetching) → PlainSends old (asks_for old.id old.nodes slot o)
  asks_others slot None =
      cond_both (nat_lt slot SLOTS) (to_others old.id old.nodes (Ask slot)) [] (PlainSends old)
      (λ _. to_the_rest (Ask slot) (ask_is_plain slot)) (λ _. to_nobody)
  asks_others slot (Some f) = to_the_rest (SnapAsk f.target (next_part f)) (part_ask_is_plain f.target (next_part f))

  -- a node that asks for a part has it, or is told where the floor is
  gives_part : (to target number : ℕ) → to < old.nodes → old.acceptor.floor ≡ target
      → PlainSends old (part_sends old.id to (piece_of target old.acceptor.text number))
  gives_part to target number there at =
      cond_both (has_part old.acceptor.text number) (Some (piece target old.acceptor.text number)) None
      (λ (o : Option Piece). PlainSends old (part_sends old.id to o))
      (λ has. brings_part to (piece target old.acceptor.text number) there (record { at = at; has = has; is = refl }))
      (λ _. to_nobody)

  answers_part : (to target number : ℕ) → to < old.nodes → PlainSends old (snapshot_sends old.acceptor old.id to target number)
  answers_part to target number there =
      let floor : ℕ = old.acceptor.floor in
      cond_both (floor == target) (part_sends old.id to (piece_of target old.acceptor.text number))
      (if nat_lt target floor then to_one old.id to (Behind floor) else []) (PlainSends old)
      (λ e. gives_part to target number there (eqb-true floor target e))
      (λ _. one_if (nat_lt target floor) to (Behind floor) there (floor_is_plain floor))

-- an envelope that concerns a node comes from one of the run
pub from_the_run : (id nodes : ℕ) (e : Envelope) → is_for_this_run id nodes e ≡ true → e.from < nodes
from_the_run id nodes e h =
    let of_run : (nat_lt e.from nodes && names_run nodes e.message) ≡ true =
    (and_parts (e.to == id) (nat_lt e.from nodes && names_run nodes e.message) h).1 in
    ltb-true e.from nodes (and_parts (nat_lt e.from nodes) (names_run nodes e.message) of_run).0

-- ---- each input
module _ (old new : ReplicaState) (said : Response) where
  -- no questions follow
  none_last : (p : Proposing × List Outgoing) → said ≡ sent (proposer_sends old p) → said ≡ sent (proposer_sends old p ++ [])
  none_last p e = e ∙ ap sent (sym (append-nil (proposer_sends old p)))

  -- ---- a message of the run
  module _ (from to : ℕ) (there : from < old.nodes) where
    abbrev came : Message → Envelope
    came m = record { from = from; to = to; message = m }

    abbrev Concerns : Message → Type 0
    Concerns m = is_for_this_run old.id old.nodes (came m) ≡ true

    as_message : (m : Message) → Concerns m
        → IsInput old (input.Message (came m)) (act.Came from (message_of m)) [] (accepting_on old m) old.proposer.round
    as_message m is = record {
      input_ = ap (coming (came m)) is;
      submits_ = refl;
      acceptor_ = ap (accepting_if old (came m)) is;
      round_ = refl;
    }

    slot_says : (slot : ℕ) (o : Option Command) → Concerns (Ask slot) → learnt_at old.learner slot ≡ o → new ≡ old
        → said ≡ sent (decided_sends old.id from slot old.acceptor.floor o) → Says old (input.Message (came (Ask slot))) new said
    slot_says slot None is at leaves says =
        let floor : ℕ = old.acceptor.floor in
        tells _ old.fetching _ (as_message (Ask slot) is) as_before (one_if old (nat_lt slot floor) from (Behind floor) there (floor_is_plain old floor))
        leaves says
    slot_says slot (Some c) is at leaves says = reports _ from slot c (as_message (Ask slot) is) there at leaves says

    floor_says : (floor : ℕ) (b : Bool) → Concerns (Behind floor) → HearsOfFloor old floor b new said
        → Says old (input.Message (came (Behind floor))) new said
    floor_says floor false is (leaves, says) = tells _ old.fetching [] (as_message (Behind floor) is) as_before to_nobody leaves says
    floor_says floor true is (leaves, says) =
        tells _ (Some (nothing_of floor)) _ (as_message (Behind floor) is) (aims floor)
        (to_the_rest (SnapAsk floor 0) (part_ask_is_plain old floor 0)) leaves says

    text_says : (p : Piece) (f : Fetching) → Concerns (SnapPart p) → PartCounts old p f → missing f ≡ None
        → RestoresText old from f.target (joined f.held) new said → Says old (input.Message (came (SnapPart p))) new said
    text_says p f is counts_ whole (restores machine has k) = makes_text _ (as_message (SnapPart p) is) (record {
      from = from;
      to = to;
      p = p;
      is = refl;
      sender = there;
      fetched = f;
      counts_ = counts_;
      whole = whole;
      machine = machine;
      text = has;
      restored = k;
    })
    text_says p f is counts_ whole (gives_up none leaves says) = tells _ None [] (as_message (SnapPart p) is) ends to_nobody leaves says

    part_says : (p : Piece) → Concerns (SnapPart p) → TakesPart old from p new said → Says old (input.Message (came (SnapPart p))) new said
    part_says p is (passes unwanted leaves says) = tells _ old.fetching [] (as_message (SnapPart p) is) as_before to_nobody leaves says
    part_says p is (keeps f counts_ number at leaves says) =
        tells _ (Some f) _ (as_message (SnapPart p) is) (holds from to p f refl counts_)
        (to_node from (SnapAsk f.target number) there (part_ask_is_plain old f.target number)) leaves says
    part_says p is (completes f counts_ none k) = text_says p f is counts_ none k

    message_says : (m : Message) → Concerns m → TakesMessage old from m new said → Says old (input.Message (came m)) new said
    message_says (Prepare ballot first) is (a, h, leaves, says) =
        answers _ from _ a (as_message (Prepare ballot first) is) there (to_prepare ballot first a h) leaves says
    message_says (Promise p) is (leaves, says) =
        proposes _ [] _ (after_promise old from p) [] (as_message (Promise p) is) (counts from p there) to_nobody leaves
        (none_last (after_promise old from p) says)
    message_says (Nack n) is (leaves, says) =
        proposes _ [] _ (after_nack old.proposer n, []) [] (as_message (Nack n) is) (gives_way from n) to_nobody leaves says
    message_says (Accept v) is (leaves, says) =
        answers _ from _ _ (as_message (Accept v) is) there (to_accept v) leaves says
    message_says (Accepted v) is k = hears_vote from to v refl (as_message (Accepted v) is) k
    message_says (Ask slot) is (leaves, says) = slot_says slot (learnt_at old.learner slot) is refl leaves says
    message_says (Decided slot c) is k = hears_decided from to slot c refl (as_message (Decided slot c) is) there k
    message_says (SnapAsk target number) is (leaves, says) =
        tells _ old.fetching _ (as_message (SnapAsk target number) is) as_before (answers_part old from target number there) leaves says
    message_says (SnapPart p) is k = part_says p is k
    message_says (Behind floor) is k = floor_says floor (is_ahead old floor) is k

  envelope_says : (e : Envelope) (b : Bool) → is_for_this_run old.id old.nodes e ≡ b → TakesEnvelope old e b new said
      → Says old (input.Message e) new said
  envelope_says e false is (leaves, says) =
      tells act.Nothing old.fetching []
      (record { input_ = ap (coming e) is; submits_ = refl; acceptor_ = ap (accepting_if old e) is; round_ = refl })
      as_before to_nobody leaves says
  envelope_says e true is k = message_says e.from e.to (from_the_run old.id old.nodes e is) e.message is k

  -- ---- any
  own_input : (i : Input) (round : ℕ) → input_of old.id old.nodes i ≡ act.Nothing → submissions i ≡ [] → round_after old i ≡ round
      → IsInput old i act.Nothing [] (accepting_after old i) round
  own_input i round protocol submits begun = record { input_ = protocol; submits_ = submits; acceptor_ = refl; round_ = begun }

  pub says_of : (i : Input) → Takes old i new said → Says old i new said
  says_of (input.Submit client number op) (leaves, says) =
      let r : Submission = submission_of client number op in
      proposes act.Nothing (Request r ∷ []) _ (after_submit old r) []
      (record { input_ = refl; submits_ = refl; acceptor_ = refl; round_ = refl }) (is_asked r) to_nobody leaves
      (none_last (after_submit old r) says)
  says_of (input.Message e) k = envelope_says e (is_for_this_run old.id old.nodes e) refl k
  says_of input.Timeout (prepare, starts, leaves, says) =
      proposes act.Nothing [] _ (new.proposer, prepare ∷ []) [] (own_input input.Timeout _ refl refl refl)
      (campaigns new.proposer prepare starts) to_nobody leaves
      (none_last (new.proposer, prepare ∷ []) (says ∙ ap sent (sym (append-nil (envelopes_of old.id old.nodes prepare)))))
  says_of input.Tick (leaves, says) =
      proposes act.Nothing [] _ (old.proposer, sends_again old.proposer.campaign) (asks_again old)
      (own_input input.Tick _ refl refl refl) repeats (asks_others old (position old) old.fetching) leaves says
  says_of input.Checkpoint (leaves, says) = writes _ (own_input input.Checkpoint _ refl refl refl) checkpoint leaves says
  says_of input.Trim (leaves, says) = writes _ (own_input input.Trim _ refl refl refl) trim leaves says
