use Rattle.schedule.specs.declared.keyword.Operation.TheVariants.{Put}
use Rattle.schedule.proofs.RowLemmas.{asker_fault, document_is_there, named}
use Rattle.schedule.proofs.submits.put_row.Goals as goal

pub returns-in_default : goal.returns-in_default
returns-in_default c =
    asker_fault c.args.nodes Put c.args.asking.node.now c.args.asking.client.now c.args.asking.number.now c.args.words
    (rw c.in_ok-document.ensures (document_is_there c.in_ok-document.document.now)) c.in_default.ensures

pub returns : goal.returns
returns c = (named c.args.nodes Put c.args.asking c.in-Some.asker c.args.words c.in-Some.ensures, c.in_ok-document.ensures)
