use Rattle.clients.proofs.LineLaws.{faulty_asks}
use Rattle.clients.proofs.laws.faulty_ask_for_nothing.Goals as goal

pub returns : goal.returns
returns c = faulty_asks
