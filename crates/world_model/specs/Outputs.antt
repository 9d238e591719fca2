-- What a node replies, as a world lists it.
use Rattle.std.specs.Prelude.{ℕ, List, map}
use Rattle.node_model.specs.declared.outputs.ReplyOut.{ReplyOut}
use Rattle.world_model.specs.declared.lists.Replied.{Replied}

-- the reply of a node
abbrev pub replied_at : ℕ → ReplyOut → Replied
replied_at node e =
    record { node = node; client = e.client; number = e.number; reply = e.reply; position = e.position }

-- its replies, in their order
abbrev pub replied_by : ℕ → List ReplyOut → List Replied
replied_by node replies = map (replied_at node) replies

-- what was executed, of which this is the reply
abbrev pub executed_of : Replied → ReplyOut
executed_of p = record { client = p.client; number = p.number; reply = p.reply; position = p.position }
