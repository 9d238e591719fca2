use Rattle.std.proofs.Common.{◌≡◌, ap, refl, rules, length, slice_set, Some}
use Rattle.stable.specs.declared.fault.StableFault.TheVariants.{Device, Memory, Damaged}
use Rattle.stable.proofs.FaultLemmas.{no_fault}
use Rattle.stable.proofs.MemoryLemmas.{vote_stored, same_stored, fixed_stored, no_vote_stored, no_fixed_key}
use Rattle.stable.proofs.memory.MemStableStable.put.Goals as goal

-- a vote
pub returns-in_ok-insert-in-Vote-clause-ok : goal.returns-in_ok-insert-in-Vote-clause-ok
returns-in_ok-insert-in-Vote-clause-ok c =
    vote_stored c.args.self.now c.insert.new.self c.in-Vote.slot c.args.bytes c.args.key c.args.bytes.items c.in-Vote.is refl
    c.in_ok-insert-in-Vote.ensures.stands

pub returns-in_err-insert-in-Vote-clause-memory : goal.returns-in_err-insert-in-Vote-clause-memory
returns-in_err-insert-in-Vote-clause-memory c =
    λ _. same_stored c.args.self.now c.insert.new.self c.in_err-insert-in-Vote.ensures.unchanged

pub returns-in_err-insert-in-Vote-clause-fixed : goal.returns-in_err-insert-in-Vote-clause-fixed
returns-in_err-insert-in-Vote-clause-fixed c = λ none. absurd (no_fixed_key c.args.key c.in-Vote.slot c.in-Vote.is none)

pub returns-in_err-insert-in-Vote-clause-held : goal.returns-in_err-insert-in-Vote-clause-held
returns-in_err-insert-in-Vote-clause-held c = λ held.
    absurd (no_vote_stored c.args.self.now c.args.key c.in-Vote.slot c.in-Vote.is c.in_err-insert-in-Vote.ensures.absent held)

-- a fixed key
pub returns-in_default : goal.returns-in_default
returns-in_default c =
    let self = c.args.self.now in
    let three : length self.fixed ≡ 3 = search rules in record {
      ok = fixed_stored self (slice_set self.fixed c.rank.result (Some c.args.bytes)) c.args.key c.args.bytes c.in_default.not-Vote three
          (ap (λ n. slice_set self.fixed n (Some c.args.bytes)) c.rank.ensures.rank);
      fixed = λ _. refl;
      held = λ _. refl;
      not_device = no_fault tt Device;
      memory = λ is. absurd (no_fault tt Memory is);
      not_damaged = no_fault tt Damaged;
    }
