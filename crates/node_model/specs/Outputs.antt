-- What comes of an input.
use Rattle.std.specs.Prelude.{◌≤◌, ℕ, List, [], length, Option, None}
use Rattle.proposer.specs.declared.queue.TheConstants.{MOST_WAITING}
use Rattle.wire.specs.declared.frames.envelope.Envelope.{Envelope}
use Rattle.node_model.specs.declared.outputs.ReplyOut.{ReplyOut}
use Rattle.node_model.specs.declared.outputs.LearntCommand.{LearntCommand}
use Rattle.node_model.specs.declared.outputs.TheConstants.{MOST_SENDS}

-- what a node says, in this order
pub record Response : Type 0 where
  -- the position of the checkpoint whose text it restored
  pub restored : Option ℕ
  -- the slot that was newly learnt, and what it holds
  pub learnt : Option LearntCommand
  -- the replies to requests that waited, in the order in which they were executed
  pub replies : List ReplyOut
  pub sends : List Envelope

-- messages alone
abbrev pub sent : List Envelope → Response
sent sends = record { restored = None; learnt = None; replies = []; sends = sends }

abbrev pub silence : Response
silence = sent []

-- it is no more than a node may say on one input
pub record IsFew (said : Response) : Type 0 where
  pub sends : length said.sends ≤ MOST_SENDS
  pub replies : length said.replies ≤ MOST_WAITING
