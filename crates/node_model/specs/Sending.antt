-- To whom messages go.
use Rattle.std.specs.Prelude.{ℕ, zero, suc, ◌<◌, List, [], ◌∷◌, ◌++◌, Option, Some, None, filter, not}
use Rattle.synod.specs.declared.slot.TheConstants.{SLOTS}
use Rattle.std.specs.Prelude.{nat_lt, ◌==◌, if◌then◌else◌}
use Rattle.sessions.specs.declared.command.Command.{Command}
use Rattle.acceptor.specs.Accepting.{Accepting}
use Rattle.acceptor.specs.declared.answer.Answer.{Answer}
use Rattle.acceptor.specs.declared.answer.Answer.TheVariants as answer
use Rattle.proposer.specs.declared.sends.Outgoing.{Outgoing}
use Rattle.proposer.specs.declared.sends.Recipients.{Recipients}
use Rattle.proposer.specs.declared.sends.Recipients.TheVariants.{All, Others}
use Rattle.wire.specs.NodeSets.{has_node, no_nodes, with_node}
use Rattle.wire.specs.Parts.{Piece, piece_of}
use Rattle.wire.specs.declared.frames.envelope.Envelope.{Envelope}
use Rattle.wire.specs.declared.frames.message.Message.{Message}
use Rattle.wire.specs.declared.frames.message.Message.TheVariants.{Promise, Nack, Accepted, Ask, Decided, SnapPart, Behind}

-- the envelope goes from one node of so many to another, or to itself
pub record IsBetween (nodes : ℕ) (e : Envelope) : Type 0 where
  pub from : e.from < nodes
  pub to : e.to < nodes

-- the message from one node to another
abbrev pub to_one : ℕ → ℕ → Message → List Envelope
to_one from to message = record { from = from; to = to; message = message } ∷ []

-- the message from one node to each of so many, in order of their numbers
abbrev pub to_all : ℕ → ℕ → Message → List Envelope
to_all from zero message = []
to_all from (suc n) message = to_all from n message ++ to_one from n message

-- ---- what a proposer sends, message by message
abbrev pub to_recipients : Recipients → List Envelope → List Envelope
to_recipients All sends = sends
to_recipients (Others set) sends = filter (λ e. not (has_node set e.to)) sends

abbrev pub envelopes_of : ℕ → ℕ → Outgoing → List Envelope
envelopes_of from nodes o = to_recipients o.to (to_all from nodes o.message)

abbrev pub envelopes : ℕ → ℕ → List Outgoing → List Envelope
envelopes from nodes [] = []
envelopes from nodes (o ∷ os) = envelopes_of from nodes o ++ envelopes from nodes os

-- ---- what an acceptor answers: that it voted goes to every node, a promise, a refusal or its floor to whom it answers
abbrev pub answer_sends : ℕ → ℕ → ℕ → Answer → List Envelope
answer_sends from nodes to (answer.Promise p) = to_one from to (Promise p)
answer_sends from nodes to (answer.Accepted v) = to_all from nodes (Accepted v)
answer_sends from nodes to (answer.Nack n) = to_one from to (Nack n)
answer_sends from nodes to (answer.Behind floor) = to_one from to (Behind floor)

-- every node but itself is sent the message
abbrev pub to_others : ℕ → ℕ → Message → List Envelope
to_others from nodes message = to_recipients (Others (with_node no_nodes from)) (to_all from nodes message)

-- ---- what is learnt
-- a node that asks for a slot is told what is learnt there; or else, where a checkpoint stands for the slot, where that ends
abbrev pub decided_sends : ℕ → ℕ → ℕ → ℕ → Option Command → List Envelope
decided_sends from to slot floor None = if nat_lt slot floor then to_one from to (Behind floor) else []
decided_sends from to slot floor (Some c) = to_one from to (Decided slot c)

-- a node is asked for what is learnt at the position, where the log goes on there
abbrev pub ask_sends : ℕ → ℕ → ℕ → List Envelope
ask_sends from to position = if nat_lt position SLOTS then to_one from to (Ask position) else []

-- every node but itself is asked so
abbrev pub ask_others : ℕ → ℕ → ℕ → List Envelope
ask_others from nodes position =
    if nat_lt position SLOTS then to_others from nodes (Ask position) else []

-- ---- snapshots
abbrev pub part_sends : ℕ → ℕ → Option Piece → List Envelope
part_sends from to None = []
part_sends from to (Some p) = to_one from to (SnapPart p)

-- a node that asks for a part of a checkpoint's text has it, where that is the acceptor's checkpoint and its text has the part; of a lower
-- one it is told where the acceptor's ends
abbrev pub snapshot_sends : Accepting → ℕ → ℕ → ℕ → ℕ → List Envelope
snapshot_sends a from to position number =
    if a.floor == position then part_sends from to (piece_of position a.text number)
    else if nat_lt position a.floor then to_one from to (Behind a.floor) else []
