use Rattle.schedule.proofs.Spelled.{given_first}
use Rattle.schedule.proofs.one_line.nodes_line.Goals as goal

pub returns-in_default-later_line : goal.returns-in_default-later_line
returns-in_default-later_line c =
    let at = c.in_default-later_line in given_first _ c.args.text.now at.field-0 c.in_default.ensures at.ensures
