use Rattle.sessions.proofs.Keeping.{one_machine}
use Rattle.sessions.proofs.laws.one_machine_of_each_list.Goals as goal

pub returns : goal.returns
returns c = one_machine
