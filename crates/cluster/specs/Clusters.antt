-- A cluster: a world whose frames go through a transport.
use Rattle.std.specs.Prelude.{◌≡◌, ℕ, List, ◌++◌, length, map, drop}
use Rattle.wire.specs.FrameSpelling.{spelling}
use Rattle.wire.specs.declared.frames.envelope.Envelope.{Envelope}
use Rattle.world_model.specs.Worlds.{WorldState}
use Rattle.cluster.specs.Passages.{Passage, Sent}
use Rattle.cluster.specs.declared.transport.Transport.{Ghosts as Transports}

-- ---- what is given to the transport
-- a frame, as its bytes
abbrev pub sending : Envelope → Passage
sending e = Sent e.from e.to (spelling e)

-- the frames that a call sent, in order
abbrev pub sendings : {S : Type 0} → WorldState S → WorldState S → List Passage
sendings old new = map sending (drop (length old.frames) new.frames)

-- where the transport tells afterwards it told before, and this is what passed
pub record HasPassed {T : Type 0} (transport : Transports T) (old : T) (passed : List Passage) (new : T) : Type 0 where
  pub told : transport.Tells new → transport.Tells old
  pub tape : transport.Tells new → transport.tape new ≡ transport.tape old ++ passed

-- ---- what a cluster is seen as
-- what a pump changes: the world, and how many strangers came, as far as a u64 goes
pub record Pumped (S : Type 0) : Type 0 where
  pub world : WorldState S
  pub strangers : ℕ

pub record ClusterState (S T : Type 0) : Type 0 where
  pub pumped : Pumped S
  pub transport : T
