use Rattle.schedule.proofs.Told.{err_told}
use Rattle.schedule.specs.declared.keyword.Operation.TheVariants.{Append}
use Rattle.schedule.proofs.RowLemmas.{asker_fault, operation_fault, submits}
use Rattle.schedule.proofs.submits.append_row.Goals as goal

pub returns-in_err-op : goal.returns-in_err-op
returns-in_err-op c =
    err_told _ _ _ _ c.from_residual.ensures.1
    (operation_fault c.args.nodes Append _ _ _ c.args.words _ (c.in_err-op.ensures c.args.nodes))

pub returns-in_default : goal.returns-in_default
returns-in_default c =
    asker_fault c.args.nodes Append c.args.asking.node.now c.args.asking.client.now c.args.asking.number.now c.args.words
    (c.in_ok-op.ensures c.args.nodes).1.0 c.in_default.ensures

pub returns : goal.returns
returns c =
    rw c.submitted.ensures
    (submits c.args.nodes Append c.args.asking c.in-Some.asker c.in_ok-op.op c.args.words (c.in_ok-op.ensures c.args.nodes)
    c.in-Some.ensures)
