use Rattle.std.proofs.Common.{rules}
use Rattle.schedule.proofs.Spelled.{line_result}
use Rattle.schedule.proofs.parse.line_action.Goals as goal

pub returns-in-Ok : goal.returns-in-Ok
returns-in-Ok c =
    line_result c.args.nodes c.args.text.now c.in-Ok.unread c.finish_line.result c.in-Ok.ensures c.finish_line.ensures

pub returns-in-Err : goal.returns-in-Err
returns-in-Err c = search rules
