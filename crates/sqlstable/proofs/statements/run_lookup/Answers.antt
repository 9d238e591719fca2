use Rattle.std.proofs.Common.{[], ◌∷◌, arith}
use Rattle.sqlite_value.specs.declared.value.Value.TheVariants.{Blob}
use Rattle.sqlite.specs.Held.{state}
use Rattle.sqlstable.proofs.Selects.{if_tells}
use Rattle.sqlstable.proofs.Steps.{query_follows, query_same}
use Rattle.sqlstable.proofs.statements.run_lookup.Goals as goal

pub returns-clause-follows : goal.returns-clause-follows
returns-clause-follows g c =
    query_follows (state g.S.Store c.args.connection.now) (state g.S.Store c.query_all.new.self) (λ rows. rows.items) c.args.sql.now
    (Blob c.args.key.now ∷ []) c.requires.lookup.bare c.query_all.result
    (λ clean. omega (arith, c.query_all.ensures.survives.clean, clean)) c.query_all.ensures.survives.counts
    c.query_all.ensures.survives.closes (rw c.params-to_sql.ensures at c.query_all.ensures.ok)
    (rw c.params-to_sql.ensures at c.query_all.ensures.err)

pub returns-clause-same : goal.returns-clause-same
returns-clause-same g c =
    query_same (state g.S.Store c.args.connection.now) (state g.S.Store c.query_all.new.self) (λ rows. rows.items) c.args.sql.now
    (Blob c.args.key.now ∷ []) c.requires.lookup.bare c.query_all.result
    (rw c.params-to_sql.ensures at c.query_all.ensures.ok) (rw c.params-to_sql.ensures at c.query_all.ensures.err)

pub returns-clause-told : goal.returns-clause-told
returns-clause-told g c usable sound =
    if_tells c.args.sql.now (state g.S.Store c.args.connection.now) (state g.S.Store c.query_all.new.self)
    (λ rows. rows.items) c.requires.lookup c.args.key.now c.query_all.result sound
    (rw c.params-to_sql.ensures at (c.query_all.ensures.ok usable.0))
