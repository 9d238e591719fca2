use Rattle.clients.proofs.Cases.{last_fault}
use Rattle.clients.proofs.line.read_last.Goals as goal

pub returns-in-None-clause-fault : goal.returns-in-None-clause-fault
returns-in-None-clause-fault c = last_fault c.args.word.now c.in-None.ensures
