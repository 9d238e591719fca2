use Rattle.sessions.proofs.Keeping.{stands_for_nothing}
use Rattle.sessions.proofs.machine.Machine.new.Goals as goal

pub returns-clause-stands : goal.returns-clause-stands
returns-clause-stands c = stands_for_nothing _ c.new.ensures c.new-2.ensures.none
