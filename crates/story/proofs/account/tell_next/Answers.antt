use Rattle.story.proofs.AccountLemmas.{not_told, step_not_told}
use Rattle.story.proofs.account.tell_next.Goals as goal

pub returns-else-manner-clause-lines : goal.returns-else-manner-clause-lines
returns-else-manner-clause-lines c =
    not_told c.args.manner c.args.ledger.now _ c.args.place c.args.entry c.in-Frame.number c.args.text.now.items c.in-Frame.is c.if-manner.false

pub returns-in-Step-clause-lines : goal.returns-in-Step-clause-lines
returns-in-Step-clause-lines c =
    step_not_told c.args.manner c.args.ledger.now _ c.args.place c.args.entry c.in-Step.step c.args.text.now.items c.in-Step.is
