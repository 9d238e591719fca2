use Rattle.std.proofs.Common.{[], arith}
use Rattle.sqlite.specs.State.{State}
use Rattle.sqlite.specs.Held.{state}
use Rattle.sqlstable.proofs.Kept.{executes_open}
use Rattle.sqlstable.proofs.Steps.{create_sound, create_open}
use Rattle.sqlstable.proofs.statements.run_making.Goals as goal

pub returns : goal.returns
returns g c =
    let old : State = state g.S.Store c.args.connection.now in
    let new : State = state g.S.Store c.execute.new.self in
    record {
      was_usable = λ usable. (
        omega (arith, c.execute.ensures.survives.clean, usable.0),
        executes_open old new c.args.sql.now [] c.execute.result (c.execute.ensures.runs usable.0) usable.1,
      );
      opened = λ clean. create_open old new c.args.sql.now c.requires.making c.execute.result c.requires.blank (c.execute.ensures.runs clean);
      made = λ clean. create_sound old new c.args.sql.now c.requires.making c.execute.result c.requires.blank c.requires.autocommit
          (c.execute.ensures.runs clean);
    }
