use Rattle.std.proofs.Common.{rules}
use Rattle.commands.proofs.replays.settle_after.Goals as goal

pub returns-then-not-was_left_open : goal.returns-then-not-was_left_open
returns-then-not-was_left_open g c = search rules
