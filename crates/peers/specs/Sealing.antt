-- Packets: frames behind the name of their run and a digest of both.
use Rattle.std.specs.Prelude.{ℕ, List, ◌++◌, length}
use Rattle.byteorder.specs.Endian.{big_bytes}
use Rattle.peers.specs.Hmac.{keyed_digest}

-- what the nodes of a run share: its name, and its key as a block
pub record Secret : Type 0 where
  pub name : List ℕ
  pub block : List ℕ

-- the name, the digest of the name and the frame, the frame
abbrev pub packet_of : Secret → List ℕ → List ℕ
packet_of run frame = run.name ++ (keyed_digest run.block (run.name ++ frame) ++ frame)

-- a packet on a stream: its length in four bytes stands before it
abbrev pub framed : List ℕ → List ℕ
framed packet = big_bytes 4 (length packet) ++ packet
