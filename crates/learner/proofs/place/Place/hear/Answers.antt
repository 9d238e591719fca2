use Rattle.std.proofs.Common.{rules}
use Rattle.learner.proofs.place.Place.hear.Goals as goal

pub count-requires : goal.count-requires
count-requires c = search rules

pub returns-in_err-decided-clause-once : goal.returns-in_err-decided-clause-once
returns-in_err-decided-clause-once c = search rules

pub returns-in_default-2-clause-hears : goal.returns-in_default-2-clause-hears
returns-in_default-2-clause-hears c = search rules

pub returns-clause-hears : goal.returns-clause-hears
returns-clause-hears c = search rules
