use Rattle.std.proofs.Common.{rules}
use Rattle.fields.specs.Reading.{interp_at}
use Rattle.fields.proofs.reader.read_interp.Goals as goal

pub returns-in-3 : goal.returns-in-3
unfolding interp_at
returns-in-3 c = search rules
