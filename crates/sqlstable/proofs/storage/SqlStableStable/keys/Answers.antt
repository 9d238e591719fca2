use Rattle.std.proofs.Common.{refl, rules}
use Rattle.std.proofs.Math.Logic.{∥∥₁_map}
use Rattle.sqlite.specs.Held.{state}
use Rattle.sqlstable.specs.States.{table}
use Rattle.sqlstable.proofs.Calls.{sound_before, read_made, read_failed, on_ok, if_told, if_ascending, if_no_stray, stray_told}
use Rattle.sqlstable.proofs.storage.SqlStableStable.keys.Goals as goal

pub invariant_of-self : goal.invariant_of-self
invariant_of-self g c = record { settled = ∥∥₁_map c.args.self.now.settled c.list.ensures.follows.settled }

pub returns-in-Err-clause-device : goal.returns-in-Err-clause-device
returns-in-Err-clause-device g c is =
    read_failed g.S.Store c.args.self.now c.list.new.connection c.blame.new.self c.list.ensures.follows c.list.ensures.same
    c.blame.ensures.same (c.blame.ensures.device (search rules))

pub returns-in-Err-clause-memory : goal.returns-in-Err-clause-memory
returns-in-Err-clause-memory g c is =
    read_made g.S.Store c.args.self.now c.list.new.connection c.blame.new.self c.list.ensures.follows c.list.ensures.same
    c.blame.ensures.same (c.blame.ensures.memory (search rules))

pub returns-in-Ok-clause-told : goal.returns-in-Ok-clause-told
returns-in-Ok-clause-told g c h =
    let sound = sound_before g.S.Store c.args.self.now c.list.new.connection c.list.ensures.follows h.usable in
    if_told (λ keys. keys.items) (table (state g.S.Store c.args.self.now.connection)) c.in-Ok.rows.items c.as_slice.result.now
    c.as_slice.ensures.value sound.own_keys c.keys_in.result c.keys_in.ensures.told
    (c.in-Ok.ensures.listed h.usable.0 sound.schema)

pub returns-in-Ok-clause-ascending : goal.returns-in-Ok-clause-ascending
returns-in-Ok-clause-ascending g c h =
    let sound = sound_before g.S.Store c.args.self.now c.list.new.connection c.list.ensures.follows h.usable in
    if_ascending (λ keys. keys.items) (table (state g.S.Store c.args.self.now.connection)) c.in-Ok.rows.items c.as_slice.result.now
    c.as_slice.ensures.value sound.own_keys c.keys_in.result c.keys_in.ensures.told
    (c.in-Ok.ensures.listed h.usable.0 sound.schema)

pub returns-in-Ok-clause-ok : goal.returns-in-Ok-clause-ok
returns-in-Ok-clause-ok g c =
    on_ok c.keys_in.result (read_made g.S.Store c.args.self.now c.list.new.connection _ c.list.ensures.follows c.list.ensures.same refl
    refl)

pub returns-in-Ok-clause-memory : goal.returns-in-Ok-clause-memory
returns-in-Ok-clause-memory g c is = read_made g.S.Store c.args.self.now c.list.new.connection _ c.list.ensures.follows c.list.ensures.same
    refl refl

pub returns-in-Ok-clause-damaged : goal.returns-in-Ok-clause-damaged
returns-in-Ok-clause-damaged g c is = read_made g.S.Store c.args.self.now c.list.new.connection _ c.list.ensures.follows c.list.ensures.same
    refl refl

pub returns-in-Ok-clause-stray : goal.returns-in-Ok-clause-stray
returns-in-Ok-clause-stray g c h is =
    let sound = sound_before g.S.Store c.args.self.now c.list.new.connection c.list.ensures.follows h.usable in
    stray_told (table (state g.S.Store c.args.self.now.connection)) c.in-Ok.rows.items c.as_slice.result.now c.as_slice.ensures.value
    (c.in-Ok.ensures.listed h.usable.0 sound.schema) (c.keys_in.ensures.damaged is)

pub returns-in-Ok-clause-no_stray : goal.returns-in-Ok-clause-no_stray
returns-in-Ok-clause-no_stray g c h =
    let sound = sound_before g.S.Store c.args.self.now c.list.new.connection c.list.ensures.follows h.usable in
    if_no_stray (λ keys. keys.items) (table (state g.S.Store c.args.self.now.connection)) c.in-Ok.rows.items c.as_slice.result.now
    c.as_slice.ensures.value c.keys_in.result c.keys_in.ensures.told
    (c.in-Ok.ensures.listed h.usable.0 sound.schema)
