-- What comes to a process, and what it makes of it.
use Rattle.std.proofs.Common.{◌≡◌, ℕ, List, [], ◌∷◌, ◌++◌, Option, if◌then◌else◌, OnOk, OnErr, Result, Ok, Err, Bool, true, false, All}
use Rattle.std.proofs.Common.{refl, sym, ap, subst, inl, inr}
use Rattle.std.proofs.lemmas.List.Elements.{All-cons, All-nil, Contains-append_right, Contains-push}
use Rattle.sessions.specs.declared.submission.Submission.{Submission}
use Rattle.store.specs.declared.query.Query.{Query}
use Rattle.stable.specs.declared.stable.Stable.{Ghosts}
use Rattle.wire.specs.FrameSpelling.{IsFrame}
use Rattle.wire.specs.declared.frames.envelope.Envelope.{Envelope}
use Rattle.node_model.specs.Nodes.{NodeState}
use Rattle.node_model.specs.declared.input.Input.{Input}
use Rattle.node_model.specs.declared.input.Input.TheVariants as input
use Rattle.world_model.specs.Lives.{Took}
use Rattle.life.specs.Lives.{Does}
use Rattle.life.specs.Telling.{nothing}
use Rattle.life.specs.declared.fault.LifeFault.{LifeFault}
use Rattle.clients.specs.ClientLines.{IsClientLine}
use Rattle.clients.specs.declared.line.ClientLine.{ClientLine}
use Rattle.clients.specs.declared.line.ClientLine.TheVariants as line
use Rattle.serving.specs.declared.claims.Claim.{Claim}
use Rattle.serving.specs.declared.waiting.Due.{Due}
use Rattle.serving.specs.declared.waiting.Question.{Question}
use Rattle.serving.specs.Requesting.{RequestState, fresh_request, is_known, with_request}
use Rattle.serving.specs.Serving.{ServerState, Serves}
use Rattle.serving.specs.Tapes.{Arrived, Heard, NothingCame, NothingHeard, PollFailed, ReadingFailed, Went}
use Rattle.serving.specs.Turns.{Past, first_position, later, handed_on, HasAsked, HasQueried, HasWritten, IsOfProcess, MayBeDue, MayBeHandedOn, MayBeSaid, MayCome, MayPass}
use Rattle.serving.proofs.Holding.{EachOld, Holds, IsNow, each_pushed, each_same, holds_same}
use Rattle.serving.proofs.Leading.{serves_doing, serves_quiet}

-- ---- anything may come, and be heard
pub none_passes : (past : Past) → All (MayPass past) []
none_passes past = All-nil (MayPass past)

arrival_passes : (bytes : List ℕ) (past : Past) → All (MayPass past) (Arrived bytes ∷ [])
arrival_passes bytes past = All-cons (MayPass past) (Arrived bytes) [] tt (All-nil (MayPass past))

nothing_passes : (past : Past) → All (MayPass past) (NothingCame ∷ [])
nothing_passes past = All-cons (MayPass past) NothingCame [] tt (All-nil (MayPass past))

failure_passes : (past : Past) → All (MayPass past) (PollFailed ∷ [])
failure_passes past = All-cons (MayPass past) PollFailed [] tt (All-nil (MayPass past))

pub none_said : {S : Type 0} (storages : Ghosts S) (first : NodeState S) (past : Past) → All (MayBeSaid storages first past) []
none_said storages first past = All-nil (MayBeSaid storages first past)

line_said : {S : Type 0} (storages : Ghosts S) (connection : ℕ) (text : List ℕ) (first : NodeState S) (past : Past)
    → All (MayBeSaid storages first past) (Heard connection text ∷ [])
line_said storages connection text first past =
    let P = MayBeSaid storages first past in
    All-cons P (Heard connection text) [] tt (All-nil P)

going_said : {S : Type 0} (storages : Ghosts S) (connection : ℕ) (first : NodeState S) (past : Past)
    → All (MayBeSaid storages first past) (Went connection ∷ [])
going_said storages connection first past =
    let P = MayBeSaid storages first past in
    All-cons P (Went connection) [] tt (All-nil P)

nothing_said : {S : Type 0} (storages : Ghosts S) (lines : List ℕ) (first : NodeState S) (past : Past)
    → All (MayBeSaid storages first past) (NothingHeard lines ∷ [])
nothing_said storages lines first past =
    let P = MayBeSaid storages first past in
    All-cons P (NothingHeard lines) [] tt (All-nil P)

failure_said : {S : Type 0} (storages : Ghosts S) (first : NodeState S) (past : Past)
    → All (MayBeSaid storages first past) (ReadingFailed ∷ [])
failure_said storages first past =
    let P = MayBeSaid storages first past in
    All-cons P ReadingFailed [] tt (All-nil P)

-- ---- what was just written
pub just_written : (connection : ℕ) (text : List ℕ) (asked : ClientLine) → IsClientLine text asked
    → HasWritten (Heard connection text ∷ []) connection asked
just_written connection text asked asks =
    record { text = text; heard = Contains-push [] (Heard connection text); asks = asks }

pub just_asked : (connection : ℕ) (text : List ℕ) (submission : Submission) (claim : Claim) → IsClientLine text (line.Submit submission)
    → claim.connection ≡ connection → claim.client ≡ submission.client → claim.number ≡ submission.number
    → HasAsked (Heard connection text ∷ []) claim
just_asked connection text submission claim asks by client number = record {
  submission = submission;
  written = subst (λ (c : ℕ). HasWritten (Heard connection text ∷ []) c (line.Submit submission)) (sym by)
      (just_written connection text (line.Submit submission) asks);
  client = sym client;
  number = sym number;
}

pub just_queried : (connection : ℕ) (text : List ℕ) (query : Query) (position : Option ℕ) (question : Question)
    → IsClientLine text (line.Query query position) → question.connection ≡ connection → question.query ≡ query
    → question.from ≡ first_position position → HasQueried (Heard connection text ∷ []) question
just_queried connection text query position question asks by of from = record {
  position = position;
  written = subst (λ (c : ℕ). HasWritten (Heard connection text ∷ []) c (line.Query question.query position)) (sym by)
      (subst (λ (q : Query). HasWritten (Heard connection text ∷ []) connection (line.Query q position)) (sym of)
      (just_written connection text (line.Query query position) asks));
  from = from;
}

pub just_handed_on : (connection : ℕ) (text : List ℕ) (submission : Submission) (client number : ℕ)
    → IsClientLine text (line.Submit submission) → MayBeHandedOn (Heard connection text ∷ []) (fresh_request client number text)
unfolding just_written
just_handed_on connection text submission client number asks = record {
  connection = connection;
  submission = submission;
  written = just_written connection text (line.Submit submission) asks;
  spelled = refl;
}

-- the list of requests, once one was added that may be there already
added_where : (known : Bool) (IsSo : RequestState → Type 0) (olds news : List RequestState) (request : RequestState) → IsSo request
    → news ≡ (if known then olds else olds ++ request ∷ []) → EachOld olds IsSo news
added_where true IsSo olds news request so is = each_same IsSo olds news is
added_where false IsSo olds news request so is = each_pushed IsSo olds news request so is

pub requests_added : {E : Type 0} (result : Result (Unit {0}) E) (IsSo : RequestState → Type 0) (client number : ℕ) (text : List ℕ)
    (olds news : List RequestState) → IsSo (fresh_request client number text)
    → OnOk result (news ≡ with_request client number text olds) → OnErr result (news ≡ olds) → EachOld olds IsSo news
requests_added (Ok done) IsSo client number text olds news so added err =
    added_where (is_known client number olds) IsSo olds news (fresh_request client number text) so added
requests_added (Err fault) IsSo client number text olds news so added err = each_same IsSo olds news err

of_process_comes : (id : ℕ) (past : Past) (given : Input) → IsOfProcess given → MayCome id past given
of_process_comes id past (input.Message e) h = absurd h
of_process_comes id past (input.Submit client number op) h = absurd h
of_process_comes id past input.Timeout h = tt
of_process_comes id past input.Tick h = tt
of_process_comes id past input.Checkpoint h = tt
of_process_comes id past input.Trim h = tt

module _ {S : Type 0} (storages : Ghosts S) where
  -- ---- nothing
  pub serves_nothing_came : (s : ServerState S) → Serves storages s (NothingCame ∷ []) [] s
  serves_nothing_came s =
      serves_quiet storages s s (NothingCame ∷ []) [] refl nothing_passes (none_said storages) (holds_same [] s s refl refl)

  pub serves_failed_poll : (s : ServerState S) → Serves storages s (PollFailed ∷ []) [] s
  serves_failed_poll s =
      serves_quiet storages s s (PollFailed ∷ []) [] refl failure_passes (none_said storages) (holds_same [] s s refl refl)

  pub serves_nothing_heard : (s : ServerState S) (lines : List ℕ) → Serves storages s [] (NothingHeard lines ∷ []) s
  serves_nothing_heard s lines =
      serves_quiet storages s s [] (NothingHeard lines ∷ []) refl none_passes (nothing_said storages lines)
      (holds_same (NothingHeard lines ∷ []) s s refl refl)

  pub serves_failed_reading : (s : ServerState S) → Serves storages s [] (ReadingFailed ∷ []) s
  serves_failed_reading s =
      serves_quiet storages s s [] (ReadingFailed ∷ []) refl none_passes (failure_said storages)
      (holds_same (ReadingFailed ∷ []) s s refl refl)

  -- ---- from other nodes
  -- bytes that are passed over
  pub serves_passing_over : (old new : ServerState S) (bytes : List ℕ) → new.life ≡ old.life → new.waiting ≡ old.waiting
      → new.requests ≡ old.requests → Serves storages old (Arrived bytes ∷ []) [] new
  serves_passing_over old new bytes life waiting requests =
      serves_quiet storages old new (Arrived bytes ∷ []) [] life (arrival_passes bytes) (none_said storages)
      (holds_same [] old new waiting requests)

  -- a message
  pub serves_message : (old new : ServerState S) (bytes : List ℕ) (e : Envelope) (nodes : ℕ) (result : Result (Unit {0}) LifeFault)
      → IsFrame nodes bytes e → Does storages old.life (Took (input.Message e)) result new.life → new.waiting ≡ old.waiting
      → new.requests ≡ old.requests → Serves storages old (Arrived bytes ∷ []) [] new
  serves_message old new bytes e nodes result frame does waiting requests =
      serves_doing storages (Took (input.Message e)) result old new (Arrived bytes ∷ []) [] does
      (λ answer first past is. inr (record {
        bytes = bytes;
        arrived = Contains-append_right past.carried (Arrived bytes ∷ []) (Arrived bytes) (Contains-push [] (Arrived bytes));
        nodes = nodes;
        frame = frame;
      }))
      (arrival_passes bytes) (none_said storages) (holds_same [] old new waiting requests)

  -- a request that was handed on
  pub serves_handed_on : (old new : ServerState S) (text : List ℕ) (submission : Submission) (result : Result (Unit {0}) LifeFault)
      → IsClientLine text (line.Submit submission)
      → Does storages old.life (Took (input.Submit submission.client submission.number submission.op)) result new.life
      → new.waiting ≡ old.waiting → new.requests ≡ old.requests → Serves storages old (Arrived (handed_on text) ∷ []) [] new
  serves_handed_on old new text submission result asks does waiting requests =
      serves_doing storages (Took (input.Submit submission.client submission.number submission.op)) result old new
      (Arrived (handed_on text) ∷ []) [] does
      (λ answer first past is. inr (record {
        text = text;
        arrived = Contains-append_right past.carried (Arrived (handed_on text) ∷ []) (Arrived (handed_on text))
            (Contains-push [] (Arrived (handed_on text)));
        asks = asks;
      }))
      (arrival_passes (handed_on text)) (none_said storages) (holds_same [] old new waiting requests)

  -- ---- by itself
  pub serves_given : (old new : ServerState S) (given : Input) (result : Result (Unit {0}) LifeFault) → IsOfProcess given
      → Does storages old.life (Took given) result new.life → new.waiting ≡ old.waiting → new.requests ≡ old.requests
      → Serves storages old [] [] new
  serves_given old new given result of does waiting requests =
      serves_doing storages (Took given) result old new [] [] does
      (λ answer first past is. of_process_comes first.id (later past (Took given answer ∷ []) nothing [] []) given of)
      none_passes (none_said storages) (holds_same [] old new waiting requests)

  -- ---- from clients
  -- a line of which nothing comes at once
  pub serves_line_heard : (old new : ServerState S) (connection : ℕ) (text : List ℕ) → new.life ≡ old.life
      → Holds (Heard connection text ∷ []) old new → Serves storages old [] (Heard connection text ∷ []) new
  serves_line_heard old new connection text life holds =
      serves_quiet storages old new [] (Heard connection text ∷ []) life none_passes (line_said storages connection text) holds

  pub serves_gone : (old new : ServerState S) (connection : ℕ) → new.life ≡ old.life → Holds (Went connection ∷ []) old new
      → Serves storages old [] (Went connection ∷ []) new
  serves_gone old new connection life holds =
      serves_quiet storages old new [] (Went connection ∷ []) life none_passes (going_said storages connection) holds

  -- a line by which something more is due
  pub serves_owing : (old new : ServerState S) (connection : ℕ) (text : List ℕ) (what : Due) → new.life ≡ old.life
      → MayBeDue (IsNow old) (Heard connection text ∷ []) what
      → new.waiting ≡ record old.waiting { due = old.waiting.due ++ what ∷ [] } → new.requests ≡ old.requests
      → Serves storages old [] (Heard connection text ∷ []) new
  serves_owing old new connection text what life may waiting requests =
      let talk = Heard connection text ∷ [] in
      serves_line_heard old new connection text life (record {
        claims = each_same (HasAsked talk) old.waiting.claims new.waiting.claims (ap (λ w. w.claims) waiting);
        questions = each_same (HasQueried talk) old.waiting.questions new.waiting.questions (ap (λ w. w.questions) waiting);
        due = each_pushed (MayBeDue (IsNow old) talk) old.waiting.due new.waiting.due what may (ap (λ w. w.due) waiting);
        requests = each_same (MayBeHandedOn talk) old.requests new.requests requests;
      })

  -- a request
  pub serves_submitting : (old new : ServerState S) (connection : ℕ) (text : List ℕ) (submission : Submission)
      (result : Result (Unit {0}) LifeFault) → IsClientLine text (line.Submit submission)
      → Does storages old.life (Took (input.Submit submission.client submission.number submission.op)) result new.life
      → Holds (Heard connection text ∷ []) old new → Serves storages old [] (Heard connection text ∷ []) new
  serves_submitting old new connection text submission result asks does holds =
      serves_doing storages (Took (input.Submit submission.client submission.number submission.op)) result old new []
      (Heard connection text ∷ []) does
      (λ answer first past is. inl (record {
        connection = connection;
        written = record {
          text = text;
          heard = Contains-append_right past.talk (Heard connection text ∷ []) (Heard connection text)
              (Contains-push [] (Heard connection text));
          asks = asks;
        };
      }))
      none_passes (line_said storages connection text) holds
