use Rattle.std.proofs.Common.{[], arith}
use Rattle.sqlite.specs.Held.{state}
use Rattle.sqlstable.proofs.Selects.{if_lists, if_unchanged}
use Rattle.sqlstable.proofs.Steps.{query_follows, query_same}
use Rattle.sqlstable.proofs.statements.run_listing.Goals as goal

pub returns-clause-follows : goal.returns-clause-follows
returns-clause-follows g c =
    query_follows (state g.S.Store c.args.connection.now) (state g.S.Store c.query_all.new.self)
    (λ rows. rows.items) c.args.sql.now [] c.requires.listing.bare c.query_all.result
    (λ clean. omega (arith, c.query_all.ensures.survives.clean, clean)) c.query_all.ensures.survives.counts
    c.query_all.ensures.survives.closes c.query_all.ensures.ok c.query_all.ensures.err

pub returns-clause-same : goal.returns-clause-same
returns-clause-same g c =
    query_same (state g.S.Store c.args.connection.now) (state g.S.Store c.query_all.new.self)
    (λ rows. rows.items) c.args.sql.now [] c.requires.listing.bare c.query_all.result c.query_all.ensures.ok c.query_all.ensures.err

pub returns-clause-listed : goal.returns-clause-listed
returns-clause-listed g c clean has =
    if_lists c.args.sql.now (state g.S.Store c.args.connection.now) (state g.S.Store c.query_all.new.self)
    (λ rows. rows.items) c.requires.listing c.query_all.result has (c.query_all.ensures.ok clean)

pub returns-clause-unchanged : goal.returns-clause-unchanged
returns-clause-unchanged g c clean has =
    if_unchanged c.args.sql.now (state g.S.Store c.args.connection.now) (state g.S.Store c.query_all.new.self)
    (λ rows. rows.items) c.requires.listing c.query_all.result has (c.query_all.ensures.ok clean)
