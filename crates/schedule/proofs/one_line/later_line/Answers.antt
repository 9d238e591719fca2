use Rattle.schedule.proofs.Spelled.{line_read}
use Rattle.schedule.proofs.one_line.later_line.Goals as goal

pub returns : goal.returns
returns c =
    line_read c.args.nodes c.args.text.now c.of.result c.any_row.result c.if-not-prints.ensures c.of.ensures
    c.any_row.ensures
