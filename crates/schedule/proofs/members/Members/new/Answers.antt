use Rattle.std.proofs.Common.{rules}
use Rattle.schedule.proofs.members.Members.new.Goals as goal

pub returns : goal.returns
returns c = search rules
