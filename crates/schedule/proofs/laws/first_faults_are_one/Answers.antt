use Rattle.schedule.proofs.OneFault.{one_first_fault}
use Rattle.schedule.proofs.laws.first_faults_are_one.Goals as goal

pub returns : goal.returns
returns c = one_first_fault
