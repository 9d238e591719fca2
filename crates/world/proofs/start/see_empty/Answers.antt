use Rattle.std.proofs.Common.{inl, rules, vec_len}
use Rattle.world_model.specs.Starting.{failed, told}
use Rattle.world.proofs.UsedStorages.{keys_used}
use Rattle.world.proofs.start.see_empty.Goals as goal

-- it told a key
pub returns-in-Ok-clause-used : goal.returns-in-Ok-clause-used
returns-in-Ok-clause-used g c = λ e.
    keys_used g.S.Stable c.in-Ok.keys.items (vec_len c.in-Ok.keys) c.args.store.now c.keys.new.self (search rules)
    c.if-is_empty.ensures (g.met.S.Stable.laws.looks_reads _ _ c.in-Ok.ensures.ok) c.in-Ok.ensures.told

-- its device failed
pub returns-in-Err-Device-clause-used : goal.returns-in-Err-Device-clause-used
returns-in-Err-Device-clause-used g c = λ e. failed c.keys.new.self (c.in-Err-Device.ensures.device (search rules))

-- it told that a key is stored that is the spelling of none
pub returns-clause-used : goal.returns-clause-used
returns-clause-used g c = λ e. told c.keys.new.self (g.met.S.Stable.laws.looks_reads _ _ (c.in-Err-Damaged.ensures.damaged (search rules)))
    (λ honest. inl (c.in-Err-Damaged.ensures.stray honest (search rules)))
