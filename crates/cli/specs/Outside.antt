-- What surrounds a run of the program.
use Rattle.std.specs.Prelude.{◌≡◌, [], ℕ}
use Rattle.cluster.specs.declared.transport.Transport.{Ghosts as Transports}
use Rattle.commands.specs.declared.archive.Archive.{Ghosts as Archives}
use Rattle.stable.specs.Memory.{in_memory}
use Rattle.stable.specs.Script.{Script}
use Rattle.stable.specs.Storages.{scripted}
use Rattle.stable.specs.declared.memory.MemStable.{MemStable}
use Rattle.stable.specs.declared.stable.Stable.{Ghosts}
use Rattle.udp_transport.specs.Counts.{socket_count}
use Rattle.udp_transport.specs.declared.sockets.Sockets.{Sockets}

-- the storages of a run in memory, the archive, the records that it hands out, and the sockets of a loopback, each by what its calls
-- may do
pub record Outside (A F : Type 0) : Type 1 where
  pub storages : Ghosts (Script MemStable)
  pub archive : Archives A F
  pub records : Ghosts F
  pub transport : Transports Sockets

-- of sockets nothing is known
abbrev pub sockets : Transports Sockets
sockets = record { tape = λ _. []; Tells = λ _. ⊥ }

-- around a run over this archive, which hands out such records
abbrev pub around : {A F : Type 0} → Archives A F → Ghosts F → Outside A F
around archive records = record { storages = scripted in_memory; archive = archive; records = records; transport = sockets }

-- each of so many nodes has a socket
abbrev pub OneEach : ℕ → Sockets → Type 0
OneEach count bound = socket_count bound ≡ count
