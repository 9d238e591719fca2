use Rattle.std.proofs.Common.{refl, rules}
use Rattle.std.proofs.lemmas.Result.{err_from_is_err_and}
use Rattle.stable.proofs.FaultLemmas.{device_not_memory, device_not_damaged, memory_not_device, memory_not_damaged, no_fault}
use Rattle.stable.proofs.scripted.Scripted.write.Goals as goal

-- the bytes could not be copied
pub returns-in_err-to_vec : goal.returns-in_err-to_vec
returns-in_err-to_vec g c =
    let exit = err_from_is_err_and c.from_residual.result c.from_residual.ensures.1 in
    rw (exit.1, exit.2) (record {
      inner = tt;
      listed = tt;
      device = λ is. absurd (memory_not_device is);
      unsure = λ is. absurd (memory_not_device is);
      memory = λ _. g.met.S.Stable.laws.reads_none _;
      kept = λ _. refl;
      not_damaged = memory_not_damaged;
    })

-- the list could not grow
pub returns-in_err-try_reserve : goal.returns-in_err-try_reserve
returns-in_err-try_reserve g c =
    let exit = err_from_is_err_and c.from_residual-in_err-try_reserve.result c.from_residual-in_err-try_reserve.ensures.1 in
    rw (exit.1, exit.2) (record {
      inner = tt;
      listed = tt;
      device = λ is. absurd (memory_not_device is);
      unsure = λ is. absurd (memory_not_device is);
      memory = λ _. rw (← c.self.view_is) (g.met.S.Stable.laws.reads_none _);
      kept = λ _. rw (← c.self.view_is, c.try_reserve.ensures.items) refl;
      not_damaged = memory_not_damaged;
    })

-- the put is listed
pub returns-in-Ok : goal.returns-in-Ok
returns-in-Ok g c = record {
  inner = rw (← c.self.view_is) c.in-Ok.ensures.ok;
  listed = search rules;
  device = λ is. absurd (no_fault _ _ is);
  unsure = λ is. absurd (no_fault _ _ is);
  memory = λ is. absurd (no_fault _ _ is);
  kept = λ is. absurd (no_fault _ _ is);
  not_damaged = no_fault _ _;
}

-- the storage inside failed, and the put is unsure
pub returns-in-Err-Device : goal.returns-in-Err-Device
returns-in-Err-Device g c = record {
  inner = tt;
  listed = tt;
  device = search rules;
  unsure = search rules;
  memory = λ is. absurd (device_not_memory is);
  kept = λ is. absurd (device_not_memory is);
  not_damaged = device_not_damaged;
}
