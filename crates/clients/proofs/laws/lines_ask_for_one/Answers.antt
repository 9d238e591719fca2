use Rattle.clients.proofs.LineLaws.{one_asked}
use Rattle.clients.proofs.laws.lines_ask_for_one.Goals as goal

pub returns : goal.returns
returns c = one_asked
