-- What comes to a node, and which messages concern it.
use Rattle.std.specs.Prelude.{ℕ, ◌==◌, ◌&&◌, Bool, true, nat_lt, nat_le, length}
use Rattle.std.specs.List.{list_all}
use Rattle.synod.specs.declared.ballot.Ballot.{Ballot}
use Rattle.synod.specs.declared.vote.Vote.{Vote}
use Rattle.store.specs.declared.op.Op.{Op}
use Rattle.store.specs.declared.op.Op.TheVariants.{Put, Append, Remove}
use Rattle.sessions.specs.declared.command.Command.{Command}
use Rattle.sessions.specs.declared.request.TheConstants.{MOST_PUT_POINTS}
use Rattle.wire.specs.declared.frames.envelope.Envelope.{Envelope}
use Rattle.wire.specs.declared.frames.message.Message.{Message}
use Rattle.wire.specs.declared.frames.message.Message.TheVariants.{Prepare, Promise, Nack, Accept, Accepted, Ask, Decided, SnapAsk, SnapPart, Behind}

-- a request may ask for it: a sequence to be put is no longer than a request may bring
abbrev pub is_short : Op → Bool
is_short (Put id seq) = nat_le (length seq.points) MOST_PUT_POINTS
is_short (Append addition) = true
is_short (Remove id) = true

-- ---- each message is for one role of a node
-- an acceptor is asked for a promise or a vote, a proposer is answered, a learner hears what was voted or decided, the log is asked
-- what was decided or what a checkpoint stands for, and a node that is behind fetches that
pub data Role : Type 0 where
  Acceptor : Role
  Proposer : Role
  Learner : Role
  Log : Role
  Fetcher : Role

abbrev pub role_of : Message → Role
role_of (Prepare ballot first) = Acceptor
role_of (Promise p) = Proposer
role_of (Nack n) = Proposer
role_of (Accept v) = Acceptor
role_of (Accepted v) = Learner
role_of (Ask slot) = Log
role_of (Decided slot command) = Learner
role_of (SnapAsk position number) = Log
role_of (SnapPart p) = Fetcher
role_of (Behind floor) = Fetcher

-- ---- a message names a node by each of its ballots
-- the ballot is of a node of so many
abbrev pub is_of_run : ℕ → Ballot → Bool
is_of_run nodes b = nat_lt b.node nodes

abbrev pub is_vote_of_run : ℕ → Vote Command → Bool
is_vote_of_run nodes v = is_of_run nodes v.ballot

-- every node that the message names is of so many
abbrev pub names_run : ℕ → Message → Bool
names_run nodes (Prepare ballot first) = is_of_run nodes ballot
names_run nodes (Promise p) = is_of_run nodes p.ballot && list_all (is_vote_of_run nodes) p.entries
names_run nodes (Nack n) = is_of_run nodes n.ballot && is_of_run nodes n.promised
names_run nodes (Accept v) = is_vote_of_run nodes v
names_run nodes (Accepted v) = is_vote_of_run nodes v
names_run nodes (Ask slot) = true
names_run nodes (Decided slot command) = true
names_run nodes (SnapAsk position number) = true
names_run nodes (SnapPart p) = true
names_run nodes (Behind floor) = true

-- the envelope is addressed to the node, and every node that it names is of the run; any other is ignored
abbrev pub is_for_this_run : ℕ → ℕ → Envelope → Bool
is_for_this_run id nodes e = e.to == id && (nat_lt e.from nodes && names_run nodes e.message)
