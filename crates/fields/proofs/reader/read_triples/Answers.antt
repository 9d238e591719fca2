use Rattle.std.proofs.lemmas.Result.{err_from_is_err_and}
use Rattle.fields.specs.Reading.{triples_at}
use Rattle.fields.proofs.LoopLemmas.{triples_go_on, triples_end, triples_done}
use Rattle.fields.proofs.LoopLemmas.{fails_here}
use Rattle.fields.proofs.SequenceLemmas.{triples_fit}
use Rattle.fields.proofs.reader.read_triples.Goals as goal

-- a triple could not be read
pub returns-in_err-point-clause-read : goal.returns-in_err-point-clause-read
returns-in_err-point-clause-read c =
    let p = err_from_is_err_and c.from_residual-in_err-point.result c.from_residual-in_err-point.ensures.1 in
    rw (p.1, p.2) (triples_end c.in_err-point.field-0.0 c.loop.points.items c.args.count c.loop.counter c.loop.from c.loop.input
    (triples_at c.args.count 0 c.args.input.now) c.loop-test.true (fails_here _ _ c.in_err-point.ensures) c.loop.invariant)

-- one triple more
pub loop-preserved : goal.loop-preserved
loop-preserved c =
    let p = c.in_ok-point.point in
    rw (c.in_ok-push.ensures.items, c.after-from.ensures) (triples_go_on c.loop.points.items c.args.count c.loop.counter c.loop.from
    c.loop.input p c.read_triple_from.new.input (triples_at c.args.count 0 c.args.input.now) c.loop-test.true c.in_ok-point.ensures
    c.loop.invariant)

-- all of them
pub returns-clause-read : goal.returns-clause-read
returns-clause-read c = triples_done c.loop.points.items c.args.count c.loop.counter c.loop.from c.loop.input
    (triples_at c.args.count 0 c.args.input.now) c.loop-test.false c.loop.invariant

pub returns-clause-counted : goal.returns-clause-counted
returns-clause-counted c =
    (triples_fit c.args.count 0 c.args.input.now (c.loop.points.items, c.loop.input)
    (triples_done c.loop.points.items c.args.count c.loop.counter c.loop.from c.loop.input (triples_at c.args.count 0 c.args.input.now)
    c.loop-test.false c.loop.invariant)).1
