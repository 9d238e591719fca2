use Rattle.std.proofs.Common.{rules}
use Rattle.schedule.proofs.members.Members.as_slice.Goals as goal

pub returns : goal.returns
returns c = search rules
