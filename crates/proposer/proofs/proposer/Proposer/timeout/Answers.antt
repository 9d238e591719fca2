use Rattle.std.proofs.Common.{◌≡◌, ◌+◌, ◌<◌, ◌≤◌, ℕ, Err, IsErrOf, max, refl, ap, arith, rules}
use Rattle.std.proofs.lemmas.Result.{err_from_is_err_and}
use Rattle.stable.proofs.FaultLemmas.{no_fault}
use Rattle.proposer.specs.Proposing.{next_round}
use Rattle.proposer.specs.declared.fault.TimeoutFault.TheVariants.{RoundsUsedUp, Device, Memory}
use Rattle.proposer.proofs.proposer.Proposer.timeout.Goals as goal

-- the faults are told apart
module _ {T : Type 0} where
  used_up_not_device : ¬ IsErrOf {T = T} (Err RoundsUsedUp) Device
  used_up_not_device is = absurd (cc)

  used_up_not_memory : ¬ IsErrOf {T = T} (Err RoundsUsedUp) Memory
  used_up_not_memory is = absurd (cc)

  memory_not_used_up : ¬ IsErrOf {T = T} (Err Memory) RoundsUsedUp
  memory_not_used_up is = absurd (cc)

  memory_not_device : ¬ IsErrOf {T = T} (Err Memory) Device
  memory_not_device is = absurd (cc)

  device_not_used_up : ¬ IsErrOf {T = T} (Err Device) RoundsUsedUp
  device_not_used_up is = absurd (cc)

  device_not_memory : ¬ IsErrOf {T = T} (Err Device) Memory
  device_not_memory is = absurd (cc)

-- whether a round is left
none_left : (m n : ℕ) → m ≡ n → ¬ m + 1 < 18446744073709551616 → 18446744073709551616 ≤ n + 1
none_left m n is none = omega arith

one_left : (m n : ℕ) → m ≡ n → m + 1 < 18446744073709551616 → ¬ 18446744073709551616 ≤ n + 1
one_left m n is left used_up = absurd (omega arith)

pub returns-in_default : goal.returns-in_default
returns-in_default g c =
    let used_up : 18446744073709551616 ≤ next_round c.args.self.now =
    rw (← c.self.view_is) (none_left c.max.result (max c.self.inside.round c.self.inside.refused) c.max.ensures c.in_default.ensures) in
    record {
      starts = tt;
      writes = tt;
      used_up = λ _. (used_up, refl, refl);
      used_up_refused = λ _. refl;
      device = λ is. absurd (used_up_not_device is);
      memory = λ is. absurd (used_up_not_memory is);
    }

pub returns-in_err-to_vec : goal.returns-in_err-to_vec
returns-in_err-to_vec g c =
    let exit = err_from_is_err_and c.from_residual.result c.from_residual.ensures.1 in
    let left : ¬ 18446744073709551616 ≤ next_round c.args.self.now =
    rw (← c.self.view_is) (one_left c.max.result (max c.self.inside.round c.self.inside.refused) c.max.ensures c.in-Some.ensures.0) in
    rw (exit.1, exit.2) (record {
      starts = tt;
      writes = tt;
      used_up = λ is. absurd (memory_not_used_up is);
      used_up_refused = λ full. absurd (left full);
      device = λ is. absurd (memory_not_device is);
      memory = λ _. (g.met.S.Stable.laws.reads_none _, refl);
    })

pub returns-in-Ok : goal.returns-in-Ok
returns-in-Ok g c =
    let left : ¬ 18446744073709551616 ≤ next_round c.args.self.now =
    rw (← c.self.view_is) (one_left c.max.result (max c.self.inside.round c.self.inside.refused) c.max.ensures c.in-Some.ensures.0) in
    record {
      starts = search rules;
      writes = search rules;
      used_up = λ is. absurd (no_fault _ _ is);
      used_up_refused = λ full. absurd (left full);
      device = λ is. absurd (no_fault _ _ is);
      memory = λ is. absurd (no_fault _ _ is);
    }

pub returns-in-Err-Memory : goal.returns-in-Err-Memory
returns-in-Err-Memory g c =
    let left : ¬ 18446744073709551616 ≤ next_round c.args.self.now =
    rw (← c.self.view_is) (one_left c.max.result (max c.self.inside.round c.self.inside.refused) c.max.ensures c.in-Some.ensures.0) in
    record {
      starts = tt;
      writes = tt;
      used_up = λ is. absurd (memory_not_used_up is);
      used_up_refused = λ full. absurd (left full);
      device = λ is. absurd (memory_not_device is);
      memory = λ _. (c.in-Err-Memory.ensures.memory (ap Err c.in-Err-Memory.field-0-is), refl);
    }

pub returns-in-Err-Device : goal.returns-in-Err-Device
returns-in-Err-Device g c =
    let left : ¬ 18446744073709551616 ≤ next_round c.args.self.now =
    rw (← c.self.view_is) (one_left c.max.result (max c.self.inside.round c.self.inside.refused) c.max.ensures c.in-Some.ensures.0) in
    record {
      starts = tt;
      writes = tt;
      used_up = λ is. absurd (device_not_used_up is);
      used_up_refused = λ full. absurd (left full);
      device = search rules;
      memory = λ is. absurd (device_not_memory is);
    }
