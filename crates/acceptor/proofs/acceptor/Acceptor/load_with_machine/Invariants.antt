use Rattle.std.proofs.Common.{take}
use Rattle.acceptor.specs.Accepting.{RecordsSay}
use Rattle.acceptor.specs.Loading.{records_at, MachineBeginsWith, IsMachineOf}
use Rattle.acceptor.specs.State.{accepting_of}
use Rattle.acceptor.proofs.LoadLemmas.{OfTheirForm}
use Rattle.acceptor.proofs.acceptor.Acceptor.load_with_machine.Given as goal

-- the records under the keys so far are of their form, and say what is loaded and with which commands it begins; the machine is that of the text
abbrev pub invariant-loop-key : goal.invariant-loop-key
invariant-loop-key g l =
    let records = g.S.Stable.contents l.fn.storage in
    let keys = take l.key-index l.key-items in
    g.S.Stable.reads l.initial.storage l.storage
    × (g.S.Stable.IsHonest l.storage → RecordsSay (records_at records keys) (accepting_of l.loaded))
    × (g.S.Stable.IsHonest l.storage → OfTheirForm records keys)
    × (g.S.Stable.IsHonest l.storage → MachineBeginsWith (records_at records keys) l.machine)
    × IsMachineOf (accepting_of l.loaded).text l.machine
