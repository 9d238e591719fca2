use Rattle.std.proofs.Common.{◌≡◌, Ok, Err, refl, rules, subst}
use Rattle.std.proofs.Math.Logic.{∥∥₁_map}
use Rattle.sqlite.specs.Held.{state}
use Rattle.sqlstable.specs.States.{table}
use Rattle.sqlstable.specs.Rows.{PutsRow}
use Rattle.sqlstable.proofs.Calls.{put_made, read_made, read_failed}
use Rattle.sqlstable.proofs.storage.SqlStable.store.Goals as goal

-- what is done has no fault; `cc` in an answer reads all that is known there, which is dear
no_fault : {A T E : Type 0} {v : T} {e : E} → Ok v ≡ Err e → A
no_fault told = absurd (cc)

pub invariant_of-self : goal.invariant_of-self
invariant_of-self g c = record { settled = ∥∥₁_map c.args.self.now.settled c.write.ensures.follows.settled }

pub returns-in-Ok : goal.returns-in-Ok
returns-in-Ok g c = record {
  ok =
      put_made g.S.Store c.args.self.now c.write.new.connection c.args.key c.args.bytes.now _ c.spelling-length.ensures.valid
      c.write.ensures.follows
      (λ usable sound. subst (λ k. PutsRow k c.args.bytes.now (table (state g.S.Store c.args.self.now.connection))
      (table (state g.S.Store c.write.new.connection))) c.spelling-length.ensures.spelled
      (c.in-Ok.ensures.wrote usable sound)) refl refl;
  device = no_fault;
  memory = no_fault;
  not_damaged = no_fault;
}

pub returns-in-Err-clause-device : goal.returns-in-Err-clause-device
returns-in-Err-clause-device g c is =
    read_failed g.S.Store c.args.self.now c.write.new.connection c.blame.new.self c.write.ensures.follows c.in-Err.ensures.refused
    c.blame.ensures.same (c.blame.ensures.device (search rules))

pub returns-in-Err-clause-memory : goal.returns-in-Err-clause-memory
returns-in-Err-clause-memory g c is =
    read_made g.S.Store c.args.self.now c.write.new.connection c.blame.new.self c.write.ensures.follows c.in-Err.ensures.refused
    c.blame.ensures.same (c.blame.ensures.memory (search rules))

pub returns-in-Err-clause-ok : goal.returns-in-Err-clause-ok
returns-in-Err-clause-ok g c = tt
