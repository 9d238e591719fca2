use Rattle.std.proofs.Common.{refl, rules, ap, ◌∙◌}
use Rattle.std.proofs.Math.Logic.{∥∥₁_map}
use Rattle.sqlite.specs.Held.{state}
use Rattle.sqlstable.specs.States.{table}
use Rattle.sqlstable.specs.Rows.{value_at}
use Rattle.sqlstable.proofs.Calls.{sound_before, read_made, read_failed, record_of}
use Rattle.sqlstable.proofs.storage.SqlStableStable.get.Goals as goal

pub invariant_of-self : goal.invariant_of-self
invariant_of-self g c = record { settled = ∥∥₁_map c.args.self.now.settled c.read.ensures.follows.settled }

pub returns-in-Ok-clause-told : goal.returns-in-Ok-clause-told
returns-in-Ok-clause-told g c h =
    let sound = sound_before g.S.Store c.args.self.now c.read.new.connection c.read.ensures.follows h.usable in
    record_of c.args.key (table (state g.S.Store c.args.self.now.connection)) _ c.spelling-length.ensures.valid
    (c.in-Ok.ensures.told h.usable sound ∙ ap (λ k. value_at k (table (state g.S.Store c.args.self.now.connection)))
    c.spelling-length.ensures.spelled)

pub returns-in-Ok-clause-ok : goal.returns-in-Ok-clause-ok
returns-in-Ok-clause-ok g c = read_made g.S.Store c.args.self.now c.read.new.connection _ c.read.ensures.follows c.read.ensures.same refl
    refl

pub returns-in-Err-clause-device : goal.returns-in-Err-clause-device
returns-in-Err-clause-device g c is =
    read_failed g.S.Store c.args.self.now c.read.new.connection c.blame.new.self c.read.ensures.follows c.read.ensures.same
    c.blame.ensures.same (c.blame.ensures.device (search rules))

pub returns-in-Err-clause-memory : goal.returns-in-Err-clause-memory
returns-in-Err-clause-memory g c is =
    read_made g.S.Store c.args.self.now c.read.new.connection c.blame.new.self c.read.ensures.follows c.read.ensures.same
    c.blame.ensures.same (c.blame.ensures.memory (search rules))
