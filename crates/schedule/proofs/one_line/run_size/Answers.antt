use Rattle.std.proofs.Common.{rules}
use Rattle.schedule.proofs.FirstLines.{nodes_of, of_three, of_five, of_seven, seven_bytes}
use Rattle.schedule.proofs.one_line.run_size.Goals as goal

-- the text is `nodes 3`
pub returns-in-110 : goal.returns-in-110
returns-in-110 c =
    let text = c.args.text.now in
    nodes_of text 3 c.new.result (of_three text (search (rules, seven_bytes))) c.new.ensures.valid c.new.ensures.value

-- `nodes 5`
pub returns-in-110-2 : goal.returns-in-110-2
returns-in-110-2 c =
    let text = c.args.text.now in
    let new = c.new-in-110-2 in
    nodes_of text 5 new.result (of_five text (search (rules, seven_bytes))) new.ensures.valid new.ensures.value

-- `nodes 7`
pub returns-in-110-3 : goal.returns-in-110-3
returns-in-110-3 c =
    let text = c.args.text.now in
    let new = c.new-in-110-3 in
    nodes_of text 7 new.result (of_seven text (search (rules, seven_bytes))) new.ensures.valid new.ensures.value
