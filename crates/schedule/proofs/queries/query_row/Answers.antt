-- The words after `query`, of which the node is read last.
use Rattle.schedule.proofs.Told.{err_told}
use Rattle.schedule.proofs.RowLemmas.{asked_fault, asks, query_fault, short_query, unknown_question}
use Rattle.schedule.proofs.queries.query_row.Goals as goal

pub returns-in_err-target : goal.returns-in_err-target
returns-in_err-target c =
    err_told _ _ _ _ c.from_residual.ensures.1
    (rw c.in_err-target.ensures.0 (short_query c.args.nodes c.args.words c.in_err-target.ensures.1))

pub returns-in_err-query : goal.returns-in_err-query
returns-in_err-query c =
    err_told _ _ _ _ c.from_residual-in_err-query.ensures.1
    (rw (c.in_ok-target.ensures, c.in-Some.ensures)
    (query_fault c.args.nodes c.in-Some.question c.in_ok-target.target.now _ _ (c.in_err-query.ensures c.args.nodes)))

pub returns-in_default : goal.returns-in_default
returns-in_default c =
    rw c.in_ok-target.ensures (unknown_question c.in_ok-target.target.now c.in_ok-target.word.now _ c.in_default.ensures)

pub returns-in_default-node : goal.returns-in_default-node
returns-in_default-node c =
    rw (c.in_ok-target.ensures, c.in-Some.ensures)
    (asked_fault c.args.nodes c.in-Some.question c.in_ok-target.target.now _ (c.in_ok-query.ensures c.args.nodes).1.0
    c.in_default-node.ensures)

pub returns : goal.returns
returns c =
    rw (c.in_ok-target.ensures, c.in-Some.ensures)
    (asks c.args.nodes c.in-Some.question c.in_ok-query.query c.in_ok-target.target.now _ c.in-Some-node.node c.in-Some-node.ensures
    (c.in_ok-query.ensures c.args.nodes))
