use Rattle.stable.proofs.MemoryLemmas.{votes_trimmed}
use Rattle.stable.proofs.memory.MemStableStable.trim_below.Goals as goal

pub returns-clause-ok : goal.returns-clause-ok
returns-clause-ok c = votes_trimmed c.args.self.now c.remove_below.new.self c.args.below c.remove_below.ensures.gone
