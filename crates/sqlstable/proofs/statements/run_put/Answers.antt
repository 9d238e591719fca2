use Rattle.std.proofs.Common.{arith}
use Rattle.sqlite.specs.Held.{state}
use Rattle.sqlstable.proofs.Steps.{put_follows, step_made, step_refused}
use Rattle.sqlstable.proofs.statements.run_put.Goals as goal

pub returns-clause-follows : goal.returns-clause-follows
returns-clause-follows g c =
    put_follows (state g.S.Store c.args.connection.now) (state g.S.Store c.execute.new.self) c.args.sql.now c.requires.put c.args.key.now
    c.args.bytes.now c.execute.result
    (λ clean. omega (arith, c.execute.ensures.survives.clean, clean)) c.execute.ensures.survives.counts c.execute.ensures.survives.closes
    (λ clean. rw (c.params-to_sql.ensures, c.params-to_sql-2.ensures) at (c.execute.ensures.runs clean))

pub returns-clause-wrote : goal.returns-clause-wrote
returns-clause-wrote g c usable sound =
    step_made (state g.S.Store c.args.connection.now) (state g.S.Store c.execute.new.self) c.args.sql.now c.requires.put c.args.key.now
    c.args.bytes.now c.execute.result
    (rw (c.params-to_sql.ensures, c.params-to_sql-2.ensures) at (c.execute.ensures.runs usable.0)) sound

pub returns-clause-refused : goal.returns-clause-refused
returns-clause-refused g c usable sound =
    step_refused (state g.S.Store c.args.connection.now) (state g.S.Store c.execute.new.self) c.args.sql.now c.requires.put c.args.key.now
    c.args.bytes.now c.execute.result
    (rw (c.params-to_sql.ensures, c.params-to_sql-2.ensures) at (c.execute.ensures.runs usable.0)) usable.1 sound
