use Rattle.std.proofs.lemmas.Result.{err_from_is_err_and}
use Rattle.clients.proofs.Cases.{query_fault, query_from_fault}
use Rattle.clients.proofs.line.read_query.Goals as goal

pub returns-in_err-query-in-Some-clause-fault : goal.returns-in_err-query-in-Some-clause-fault
returns-in_err-query-in-Some-clause-fault c =
    let p = err_from_is_err_and c.from_residual.result c.from_residual.ensures.1 in
    rw (p.1, p.2) (query_from_fault c.args.rest.now c.in-Some.front.now c.in-Some.position _ c.in-Some.ensures c.in_err-query-in-Some.ensures)

pub returns-in_err-query-in-None-clause-fault : goal.returns-in_err-query-in-None-clause-fault
returns-in_err-query-in-None-clause-fault c =
    let p = err_from_is_err_and c.from_residual-in_err-query-in-None.result c.from_residual-in_err-query-in-None.ensures.1 in
    rw (p.1, p.2) (query_fault c.args.rest.now _ c.in-None.ensures c.in_err-query-in-None.ensures)
