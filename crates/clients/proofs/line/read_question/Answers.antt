use Rattle.clients.proofs.Cases.{question_read}
use Rattle.clients.proofs.line.read_question.Goals as goal

pub returns : goal.returns
returns c = question_read c.args.rest.now c.in_ok-action.action c.in-Some.query c.in_ok-action.ensures c.in-Some.ensures
