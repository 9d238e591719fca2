use Rattle.std.proofs.Common.{◌≡◌, Ok, Err, refl, rules, subst}
use Rattle.std.proofs.Math.Logic.{∥∥₁_map}
use Rattle.sqlite.specs.Held.{state}
use Rattle.sqlstable.specs.States.{table}
use Rattle.sqlstable.specs.Keys.{votes}
use Rattle.sqlstable.specs.Rows.{TrimsRows}
use Rattle.sqlstable.proofs.Calls.{trim_done, read_made, read_failed}
use Rattle.sqlstable.proofs.storage.SqlStable.trim.Goals as goal

pub invariant_of-self : goal.invariant_of-self
invariant_of-self g c = record { settled = ∥∥₁_map c.args.self.now.settled c.trim.ensures.follows.settled }

pub returns-in-Ok-clause-ok : goal.returns-in-Ok-clause-ok
returns-in-Ok-clause-ok g c =
    trim_done g.S.Store c.args.self.now c.trim.new.connection c.args.below c.min.result _ c.min.ensures
    c.trim.ensures.follows
    (λ usable sound. subst (λ k. TrimsRows votes k (table (state g.S.Store c.args.self.now.connection))
    (table (state g.S.Store c.trim.new.connection))) c.vote_key-end.ensures
    (c.in-Ok.ensures.trimmed usable sound)) refl refl

pub returns-in-Err-clause-device : goal.returns-in-Err-clause-device
returns-in-Err-clause-device g c is =
    read_failed g.S.Store c.args.self.now c.trim.new.connection c.blame.new.self c.trim.ensures.follows c.in-Err.ensures.refused
    c.blame.ensures.same (c.blame.ensures.device (search rules))

pub returns-in-Err-clause-memory : goal.returns-in-Err-clause-memory
returns-in-Err-clause-memory g c is =
    read_made g.S.Store c.args.self.now c.trim.new.connection c.blame.new.self c.trim.ensures.follows c.in-Err.ensures.refused
    c.blame.ensures.same (c.blame.ensures.memory (search rules))
