-- How a record is spelled: by the fields of frames, and nothing after the last of them.
use Rattle.std.specs.Prelude.{ℕ, List, ◌++◌}
use Rattle.synod.specs.declared.vote.Vote.{Vote}
use Rattle.sessions.specs.declared.command.Command.{Command}
use Rattle.wire.specs.Spelling.{command_bytes}
pub use Rattle.wire.specs.Spelling.{ballot_bytes}

-- the record of a vote; its slot stands in the key
abbrev pub vote_bytes : Vote Command → List ℕ
vote_bytes v = ballot_bytes v.ballot ++ command_bytes v.command
