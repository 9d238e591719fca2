use Rattle.verdicts.proofs.FindingLemmas.{answer_found}
use Rattle.verdicts.proofs.examination.examine.Goals as goal

pub returns-in-Reply-clause-found : goal.returns-in-Reply-clause-found
returns-in-Reply-clause-found c = rw c.in-Reply.is (c.examine_reply.ensures c.args.questions.now)

pub returns-in-Answer-clause-found : goal.returns-in-Answer-clause-found
returns-in-Answer-clause-found c =
    let found = rw c.deref.ensures.value at c.examine_answer.ensures.found in
    rw c.in-Answer.is (answer_found c.args.questions.now c.args.size c.args.commands.now c.in-Answer.node c.in-Answer.position c.in-Answer.text
    c.examine_answer.result found)
