use Rattle.std.proofs.Common.{refl}
use Rattle.verdicts.proofs.PossibleLemmas.{some_possible}
use Rattle.verdicts.proofs.SearchLemmas.{entering_first}
use Rattle.verdicts.proofs.TryingLemmas.{next_first}
use Rattle.verdicts.proofs.search.Search.new.Goals as goal

pub returns-clause-entering : goal.returns-clause-entering
returns-clause-entering c = λ requests names questions told submitted.
    entering_first requests names questions told _ c.new.ensures.items c.new-2.ensures.items refl refl (some_possible requests names submitted)

pub returns-clause-first : goal.returns-clause-first
returns-clause-first c = λ requests names questions told.
    next_first requests names questions told _ _ c.new.ensures.items c.new-2.ensures.items
