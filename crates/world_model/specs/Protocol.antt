-- What a world lists, to the protocol.
use Rattle.synod.specs.History as history
use Rattle.sessions.specs.declared.command.Command.{Command}
use Rattle.world_model.specs.declared.lists.LearntEntry.{LearntEntry}
pub use Rattle.node_model.specs.Protocol.{membership, frame_of}
pub use Rattle.world_model.specs.Submissions.{command_of}

abbrev pub learnt_as : LearntEntry → history.Lesson Command
learnt_as l = record { node = l.node; slot = l.slot; command = l.command }
