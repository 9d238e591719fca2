use Rattle.commands.proofs.Endings.{unread_ends}
use Rattle.commands.proofs.replays.read_schedule.Goals as goal

pub returns-in-Err-clause-ends : goal.returns-in-Err-clause-ends
returns-in-Err-clause-ends c =
    unread_ends _ c.in-Err.fault c.replay_failure.result c.in-Err.ensures.refused
    c.replay_failure.ensures.memory c.replay_failure.ensures.line
