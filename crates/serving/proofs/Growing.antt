-- What a process may let out and take, it may later as well.
use Rattle.std.proofs.Common.{◌≡◌, ◌∙◌, ℕ, List, ◌++◌, Contains, ap, append_assoc, inl, inr, refl, sym, subst}
use Rattle.std.specs.List.{flat_map}
use Rattle.std.proofs.lemmas.Grind.{flat_map-append}
use Rattle.std.proofs.lemmas.List.Elements.{Contains-append_left, Contains-append_right}
use Rattle.wire.specs.declared.frames.envelope.Envelope.{Envelope}
use Rattle.node_model.specs.declared.input.Input.{Input}
use Rattle.node_model.specs.declared.input.Input.TheVariants as input
use Rattle.node_model.specs.Nodes.{NodeState}
use Rattle.node_model.specs.Replicas.{submission_of}
use Rattle.world_model.specs.Lives.{Happening, Took, Killed, Asked, Opened, Loaded, IsLife, sent_at}
use Rattle.stable.specs.declared.stable.Stable.{Ghosts}
use Rattle.life.specs.Telling.{ToldLists}
use Rattle.clients.specs.declared.line.ClientLine.{ClientLine}
use Rattle.clients.specs.declared.line.ClientLine.TheVariants as line
use Rattle.sessions.specs.declared.submission.Submission.{Submission}
use Rattle.serving.specs.declared.claims.Claim.{Claim}
use Rattle.serving.specs.declared.waiting.Due.{Due}
use Rattle.serving.specs.declared.waiting.Due.TheVariants as due
use Rattle.serving.specs.declared.waiting.Question.{Question}
use Rattle.serving.specs.Knowing.{WasSo}
use Rattle.serving.specs.Requesting.{RequestState}
use Rattle.serving.specs.Tapes.{Carried, Sent, Arrived, NothingCame, NothingHeard, PollFailed, ReadingFailed, Talk, Heard, Went, Told}
use Rattle.serving.specs.Turns.{Past, later, HasWritten, HasAsked, HasQueried, IsHandedOnLine, IsPlain, refused, faulty, status, last}
use Rattle.serving.specs.Turns.{MayBeDue, MayBeHandedOn, MayBeSaid, MayCome, MayHappen, MayPass, IsOfClient}

-- ---- one list in another
pub record IsIn {A : Type 0} (xs ys : List A) : Type 0 where
  pub has : (x : A) → Contains xs x → Contains ys x

pub in_left : {A : Type 0} (xs ys : List A) → IsIn xs (xs ++ ys)
in_left xs ys = record { has = λ x h. Contains-append_left xs ys x h }

pub in_right : {A : Type 0} (xs ys : List A) → IsIn ys (xs ++ ys)
in_right xs ys = record { has = λ x h. Contains-append_right xs ys x h }

-- ---- what was written stays written
pub written_in : (t u : List Talk) → IsIn t u → (connection : ℕ) (asked : ClientLine) → HasWritten t connection asked
    → HasWritten u connection asked
written_in t u i connection asked h =
    record { text = h.text; heard = i.has (Heard connection h.text) h.heard; asks = h.asks }

pub asked_in : (t u : List Talk) → IsIn t u → (claim : Claim) → HasAsked t claim → HasAsked u claim
asked_in t u i claim h = record {
  submission = h.submission;
  written = written_in t u i claim.connection (line.Submit h.submission) h.written;
  client = h.client;
  number = h.number;
}

pub queried_in : (t u : List Talk) → IsIn t u → (question : Question) → HasQueried t question → HasQueried u question
queried_in t u i question h = record {
  position = h.position;
  written = written_in t u i question.connection (line.Query question.query h.position) h.written;
  from = h.from;
}

pub on_line_in : (t u : List Talk) → IsIn t u → (bytes : List ℕ) → IsHandedOnLine t bytes → IsHandedOnLine u bytes
unfolding written_in
on_line_in t u i bytes h = record {
  connection = h.connection;
  submission = h.submission;
  written = written_in t u i h.connection (line.Submit h.submission) h.written;
  spelled = h.spelled;
}

pub request_in : (t u : List Talk) → IsIn t u → (request : RequestState) → MayBeHandedOn t request → MayBeHandedOn u request
request_in t u i request h = on_line_in t u i request.packet h

-- so was each node that was so
abbrev pub IsAmong : {S : Type 0} → (NodeState S → Type 0) → (NodeState S → Type 0) → Type 0
IsAmong {S} Was Were = (n : NodeState S) → Was n → Were n

pub plain_in : {S : Type 0} (Was Were : NodeState S → Type 0) → IsAmong Was Were → (t u : List Talk) → IsIn t u → (connection : ℕ)
    (text : List ℕ) → IsPlain Was t connection text → IsPlain Were u connection text
plain_in Was Were among t u i connection text (refused n submission fault was is written spelled) =
    refused n submission fault (among n was) is (written_in t u i connection (line.Submit submission) written) spelled
plain_in Was Were among t u i connection text (faulty asked cause heard fault spelled) =
    faulty asked cause (i.has (Heard connection asked) heard) fault spelled
plain_in Was Were among t u i connection text (status n known was is written spelled) =
    status n known (among n was) is (written_in t u i connection line.Status written) spelled
plain_in Was Were among t u i connection text (last n client number was is written spelled) =
    last n client number (among n was) is (written_in t u i connection (line.Last client) written) spelled

pub due_in : {S : Type 0} (Was Were : NodeState S → Type 0) → IsAmong Was Were → (t u : List Talk) → IsIn t u → (what : Due)
    → MayBeDue Was t what → MayBeDue Were u what
due_in Was Were among t u i (due.Answer question) h = queried_in t u i question h
due_in Was Were among t u i (due.Line connection text) h = plain_in Was Were among t u i connection text.items h

-- what was so once, was so when more had happened
pub was_so_still : {S : Type 0} (storages : Ghosts S) (first : NodeState S) (history happened : List Happening)
    → IsAmong (WasSo storages first history) (WasSo storages first (history ++ happened))
was_so_still storages first history happened n h = record {
  before = h.before;
  after = h.after ++ happened;
  parts = ap (λ (xs : List Happening). xs ++ happened) h.parts ∙ append_assoc h.before h.after happened;
  leads = h.leads;
}

-- a node that all that happened led there was so
pub is_so : {S : Type 0} (storages : Ghosts S) (first : NodeState S) (history happened : List Happening) (now : NodeState S)
    → IsLife storages first history now → IsAmong (λ (n : NodeState S). n ≡ now) (WasSo storages first (history ++ happened))
is_so {S} storages first history happened now life n is = record {
  before = history;
  after = happened;
  parts = refl;
  leads = subst (λ (m : NodeState S). IsLife storages first history m) (sym is) life;
}

-- ---- one past in another
pub record Grows (old new : Past) : Type 0 where
  pub frames : IsIn old.handed.frames new.handed.frames
  pub replies : IsIn old.handed.replies new.handed.replies
  pub answers : IsIn old.handed.answers new.handed.answers
  pub carried : IsIn old.carried new.carried
  pub talk : IsIn old.talk new.talk
  pub sent : (id : ℕ) → IsIn (flat_map (sent_at id) old.history) (flat_map (sent_at id) new.history)

pub grows_later : (past : Past) (happened : List Happening) (handed : ToldLists) (carried : List Carried) (talk : List Talk)
    → Grows past (later past happened handed carried talk)
grows_later past happened handed carried talk = record {
  frames = in_left past.handed.frames handed.frames;
  replies = in_left past.handed.replies handed.replies;
  answers = in_left past.handed.answers handed.answers;
  carried = in_left past.carried carried;
  talk = in_left past.talk talk;
  sent = λ id. subst (λ (xs : List Envelope). IsIn (flat_map (sent_at id) past.history) xs)
      (sym (flat_map-append (sent_at id) past.history happened))
      (in_left (flat_map (sent_at id) past.history) (flat_map (sent_at id) happened));
}

pub passes_still : (p q : Past) → Grows p q → (x : Carried) → MayPass p x → MayPass q x
passes_still p q g (Sent to bytes) (inl h) = inl (record {
  envelope = h.envelope;
  handed_out = g.frames.has h.envelope h.handed_out;
  receiver = h.receiver;
  spelled = h.spelled;
})
passes_still p q g (Sent to bytes) (inr h) = inr (on_line_in p.talk q.talk g.talk bytes h)
passes_still p q g (Arrived bytes) h = h
passes_still p q g NothingCame h = h
passes_still p q g PollFailed h = h

pub said_still : {S : Type 0} (storages : Ghosts S) (first : NodeState S) (p q : Past)
    → IsAmong (WasSo storages first p.history) (WasSo storages first q.history) → Grows p q → (x : Talk)
    → MayBeSaid storages first p x → MayBeSaid storages first q x
said_still storages first p q among g (Told connection text) (inl h) = inl (record {
  replied = h.replied;
  handed_out = g.replies.has h.replied h.handed_out;
  spelled = h.spelled;
  submission = h.submission;
  written = written_in p.talk q.talk g.talk connection (line.Submit h.submission) h.written;
  client = h.client;
  number = h.number;
})
said_still storages first p q among g (Told connection text) (inr (inl h)) = inr (inl (record {
  answered = h.answered;
  handed_out = g.answers.has h.answered h.handed_out;
  spelled = h.spelled;
  position = h.position;
  written = written_in p.talk q.talk g.talk connection (line.Query h.answered.query h.position) h.written;
  from = h.from;
}))
said_still storages first p q among g (Told connection text) (inr (inr h)) =
    inr (inr (plain_in (WasSo storages first p.history) (WasSo storages first q.history) among p.talk q.talk g.talk connection text h))
said_still storages first p q among g (Heard connection text) h = h
said_still storages first p q among g (Went connection) h = h
said_still storages first p q among g (NothingHeard lines) h = h
said_still storages first p q among g ReadingFailed h = h

of_client_still : (p q : Past) → Grows p q → (submission : Submission) → IsOfClient p.talk submission → IsOfClient q.talk submission
of_client_still p q g submission h = record {
  connection = h.connection;
  written = written_in p.talk q.talk g.talk h.connection (line.Submit submission) h.written;
}

pub comes_still : (id : ℕ) (p q : Past) → Grows p q → (x : Input) → MayCome id p x → MayCome id q x
comes_still id p q g (input.Message e) (inl h) = inl ((g.sent id).has e h)
comes_still id p q g (input.Message e) (inr h) = inr (record {
  bytes = h.bytes;
  arrived = g.carried.has (Arrived h.bytes) h.arrived;
  nodes = h.nodes;
  frame = h.frame;
})
comes_still id p q g (input.Submit client number op) (inl h) = inl (of_client_still p q g (submission_of client number op) h)
comes_still id p q g (input.Submit client number op) (inr h) = inr (record {
  text = h.text;
  arrived = g.carried.has (Arrived _) h.arrived;
  asks = h.asks;
})
comes_still id p q g input.Timeout h = h
comes_still id p q g input.Tick h = h
comes_still id p q g input.Checkpoint h = h
comes_still id p q g input.Trim h = h

pub happens_still : (id : ℕ) (p q : Past) → Grows p q → (x : Happening) → MayHappen id p x → MayHappen id q x
happens_still id p q g (Took given result) h = comes_still id p q g given h
happens_still id p q g (Killed given) h = comes_still id p q g given h
happens_still id p q g (Asked query result) h = h
happens_still id p q g Opened h = h
happens_still id p q g (Loaded result) h = h
