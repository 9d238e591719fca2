use Rattle.std.proofs.lemmas.Result.{err_from_is_err_and}
use Rattle.clients.proofs.Cases.{submit_fault, submit_read}
use Rattle.clients.proofs.line.read_submit.Goals as goal

pub returns-in_err-action-clause-fault : goal.returns-in_err-action-clause-fault
returns-in_err-action-clause-fault c =
    let p = err_from_is_err_and c.from_residual.result c.from_residual.ensures.1 in
    rw (p.1, p.2) (submit_fault c.args.rest.now _ c.in_err-action.ensures)

pub returns-clause-read : goal.returns-clause-read
returns-clause-read c =
    submit_read c.args.rest.now c.in_ok-action.action c.in-Some.submission c.in_ok-action.ensures c.in-Some.ensures
