-- The machine: a database, and what is kept of the clients.
use Rattle.std.specs.Prelude.{◌≡◌, ⊤, length, true, ℕ, ◌+◌, ◌==◌, List, Bool, Option, Some, None, nat_lt, if◌then◌else◌}
use Rattle.mfjson.specs.declared.feature.Feature.{Feature}
use Rattle.store.specs.Features.{IsDatabase}
use Rattle.store.specs.Operations.{reply, effect, TakesNoMemory as OpTakesNoMemory}
use Rattle.store.specs.declared.reply.Reply.{Reply}
use Rattle.store.specs.declared.reply.Reply.TheVariants.{Done}
use Rattle.sessions.specs.declared.submission.Submission.{Submission}
use Rattle.sessions.specs.Sessions.{session_of, with_session}
use Rattle.sessions.specs.declared.command.Command.{Command}
use Rattle.sessions.specs.declared.command.Command.TheVariants.{NoOp, Request}
use Rattle.sessions.specs.declared.session_reply.SessionReply.{SessionReply}
use Rattle.sessions.specs.declared.session_reply.SessionReply.TheVariants.{Applied, Past, Gap}
use Rattle.sessions.specs.declared.session.Session.{Session}
use Rattle.sessions.specs.declared.session.TheConstants.{CLIENTS}

pub record MachineState : Type 0 where
  pub features : List Feature
  -- what is kept of each client, from client 0 on
  pub sessions : List (Option Session)

-- its features are a database, and there is a place for each client, so that the clients of whom something is kept are
-- at most `CLIENTS`, and ascend
pub record IsMachine (m : MachineState) : Type 0 where
  pub database : IsDatabase m.features
  pub clients : length m.sessions ≡ CLIENTS

-- the client's last number that counted, or 0
abbrev pub last_number : Option Session → ℕ
last_number None = 0
last_number (Some session) = session.number

-- the number is one more than the last
abbrev pub is_next : Option Session → ℕ → Bool
is_next session number = number == last_number session + 1

-- what is told of a number that isn't the next: that it lies ahead, that it has gone by, or the reply that is kept
abbrev pub told_of : Option Session → ℕ → SessionReply
told_of None number = Gap
told_of (Some session) number =
    if nat_lt session.number number then Gap else (if nat_lt number session.number then Past else Applied session.reply)

-- ---- a command is executed
abbrev pub counts_next : MachineState → Submission → Bool
counts_next m r = is_next (session_of m.sessions r.client) r.number

-- the operation is applied, and its reply kept
abbrev pub counted : MachineState → Submission → MachineState
counted m r = record {
  features = effect m.features r.op;
  sessions = with_session m.sessions r.client (record { number = r.number; reply = reply m.features r.op });
}

abbrev pub after_request : MachineState → Submission → MachineState
after_request m r = if counts_next m r then counted m r else m

abbrev pub reply_to_request : MachineState → Submission → SessionReply
reply_to_request m r =
    if counts_next m r then Applied (reply m.features r.op) else told_of (session_of m.sessions r.client) r.number

abbrev pub after_command : MachineState → Command → MachineState
after_command m NoOp = m
after_command m (Request r) = after_request m r

abbrev pub reply_to_command : MachineState → Command → SessionReply
reply_to_command m NoOp = Applied Done
reply_to_command m (Request r) = reply_to_request m r

-- ---- what takes no memory: a no-op, a request that doesn't count, and one whose operation takes none
abbrev pub RequestTakesNoMemory : MachineState → Submission → Type 0
RequestTakesNoMemory m r = counts_next m r ≡ true → OpTakesNoMemory m.features r.op

abbrev pub TakesNoMemory : MachineState → Command → Type 0
TakesNoMemory m NoOp = ⊤
TakesNoMemory m (Request r) = RequestTakesNoMemory m r

-- ---- what is kept under a number of a client
abbrev pub kept_of : Option Session → ℕ → Option Reply
kept_of None number = None
kept_of (Some session) number = if session.number == number then Some session.reply else None
