use Rattle.std.proofs.Common.{rules, arith}
use Rattle.std.proofs.lemmas.Grind.{elements}
use Rattle.predicates.proofs.runs.passed.Goals as goal

pub returns-then-ne-clause-each : goal.returns-then-ne-clause-each
returns-then-ne-clause-each c = search rules

pub first_met-requires-clause-begun : goal.first_met-requires-clause-begun
first_met-requires-clause-begun c = grind (arith, elements)

pub first_inside-requires-clause-begun : goal.first_inside-requires-clause-begun
first_inside-requires-clause-begun c = grind (arith, elements)

pub first_left-requires-clause-begun : goal.first_left-requires-clause-begun
first_left-requires-clause-begun c = grind (arith, elements)

pub returns-then-eq-clause-each : goal.returns-then-eq-clause-each
returns-then-eq-clause-each c = grind (arith, elements)

pub returns-else-eq-clause-each : goal.returns-else-eq-clause-each
returns-else-eq-clause-each c = grind (arith, elements)

pub returns-else-ne-clause-each : goal.returns-else-ne-clause-each
returns-else-ne-clause-each c = grind (arith, elements)
