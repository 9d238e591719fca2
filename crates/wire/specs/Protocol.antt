-- What messages are to the protocol.
use Rattle.synod.specs.Messages as synod
use Rattle.sessions.specs.declared.command.Command.{Command}
use Rattle.wire.specs.declared.frames.envelope.Envelope.{Envelope}
use Rattle.wire.specs.declared.frames.message.Message.{Message}
use Rattle.wire.specs.declared.frames.message.Message.TheVariants.{Promise, Accept, Accepted, Decided}

-- safety says nothing of other messages
abbrev pub message_of : Message → synod.Message Command
message_of (Promise p) = synod.Promise p.ballot p.first p.last p.entries
message_of (Accept v) = synod.Accept v
message_of (Accepted v) = synod.Accepted v
message_of (Decided slot command) = synod.Decided slot command
message_of _ = synod.Plain

abbrev pub frame_of : Envelope → synod.Frame Command
frame_of e = record { sender = e.from; receiver = e.to; message = message_of e.message }
