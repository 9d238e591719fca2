use Rattle.std.proofs.Common.{rules}
use Rattle.wire.proofs.nodes.Nodes.new.Goals as goal

pub invariant_of-result : goal.invariant_of-result
invariant_of-result c = search rules

pub returns-in-3-clause-valid : goal.returns-in-3-clause-valid
returns-in-3-clause-valid c = search rules
