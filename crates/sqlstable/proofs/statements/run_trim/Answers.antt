use Rattle.std.proofs.Common.{arith}
use Rattle.sqlite.specs.Held.{state}
use Rattle.sqlstable.proofs.TrimSteps.{trim_follows, trim_shown, trim_refused}
use Rattle.sqlstable.proofs.statements.run_trim.Goals as goal

pub returns-clause-follows : goal.returns-clause-follows
returns-clause-follows g c =
    trim_follows (state g.S.Store c.args.connection.now) (state g.S.Store c.execute.new.self) c.args.sql.now c.requires.trim
    c.args.end.now c.execute.result
    (λ clean. omega (arith, c.execute.ensures.survives.clean, clean)) c.execute.ensures.survives.counts c.execute.ensures.survives.closes
    (λ clean. rw c.params-to_sql.ensures at (c.execute.ensures.runs clean))

pub returns-clause-trimmed : goal.returns-clause-trimmed
returns-clause-trimmed g c usable sound =
    trim_shown (state g.S.Store c.args.connection.now) (state g.S.Store c.execute.new.self) c.args.sql.now c.requires.trim
    c.args.end.now c.execute.result
    (rw c.params-to_sql.ensures at (c.execute.ensures.runs usable.0)) sound

pub returns-clause-refused : goal.returns-clause-refused
returns-clause-refused g c usable sound =
    trim_refused (state g.S.Store c.args.connection.now) (state g.S.Store c.execute.new.self) c.args.sql.now c.requires.trim
    c.args.end.now c.execute.result
    (rw c.params-to_sql.ensures at (c.execute.ensures.runs usable.0)) usable.1 sound
