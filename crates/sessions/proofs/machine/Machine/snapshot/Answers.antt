use Rattle.std.proofs.Common.{◌≡◌, ℕ, List, sym, subst}
use Rattle.sessions.specs.Machines.{MachineState}
use Rattle.sessions.specs.Snapshots.{IsSnapshot, PartsFit, TellsEach, text_bytes, held}
use Rattle.sessions.proofs.Snapshots.{with_both, tells_each}
use Rattle.sessions.proofs.machine.Machine.snapshot.Goals as goal

pub returns-clause-of_each_list : goal.returns-clause-of_each_list
returns-clause-of_each_list c =
    let fs = c.self.inside.db in
    let hs = held c.self.inside.sessions in
    let m : MachineState = record { features = fs; sessions = c.self.inside.sessions } in
    with_both c.snapshot_text.result (λ text. text.items ≡ text_bytes fs hs) (λ text. TellsEach c.args.self.now text.items)
    (PartsFit fs hs)
    (λ text spelled parts. subst (λ (n : MachineState). TellsEach n text.items) c.self.view_is
    (record {
      tells = λ l s. subst (λ (bytes : List ℕ). IsSnapshot l bytes) (sym spelled)
          (tells_each m (record { parts = parts; clients = c.self.invariant.clients }) l s);
    })) c.snapshot_text.ensures.spelled c.snapshot_text.ensures.fits
