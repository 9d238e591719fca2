use Rattle.std.proofs.Common.{rules}
use Rattle.node_model.proofs.input.is_for_this_run.Goals as goal

pub returns-then-of_run : goal.returns-then-of_run
returns-then-of_run c = search rules
