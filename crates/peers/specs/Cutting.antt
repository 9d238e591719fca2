-- How a stream of bytes is cut into packets.
use Rattle.std.specs.Prelude.{◌≡◌, ℕ, ◌+◌, ◌<◌, ◌≤◌, ◌⊎◌, List, [], ◌∷◌, ◌++◌, length, take}
use Rattle.byteorder.specs.Endian.{big_bytes, big_number}
use Rattle.peers.specs.Sealing.{framed}
use Rattle.peers.specs.declared.run.TheConstants.{LONGEST_PACKET}

-- a packet may be so long
abbrev pub IsPacket : List ℕ → Type 0
IsPacket packet = length packet ≤ LONGEST_PACKET

-- the length that stands before the next packet
abbrev pub announced : List ℕ → ℕ
announced bytes = big_number 4 bytes

-- not all bytes of the next packet and its length are there
pub data IsIncomplete (bytes : List ℕ) : Type 0 where
  in_length : length bytes < 4 → IsIncomplete bytes
  in_packet : announced bytes ≤ LONGEST_PACKET → length bytes < 4 + announced bytes → IsIncomplete bytes

-- the next packet is longer than any
pub record IsTooLong (bytes : List ℕ) : Type 0 where
  pub has_length : 4 ≤ length bytes
  pub beyond : LONGEST_PACKET < announced bytes

-- all bytes of a packet so long come next, behind their length
pub record IsAhead (bytes : List ℕ) (len : ℕ) : Type 0 where
  pub fits : len ≤ LONGEST_PACKET
  pub spelled : take 4 bytes ≡ big_bytes 4 len
  pub is_there : 4 + len ≤ length bytes

-- the bytes begin with a packet
pub record StartsWithPacket (bytes : List ℕ) : Type 0 where
  pub packet : List ℕ
  pub rest : List ℕ
  pub parts : bytes ≡ framed packet ++ rest
  pub fits : IsPacket packet

-- no packet comes next
abbrev pub Stops : List ℕ → Type 0
Stops bytes = IsIncomplete bytes ⊎ IsTooLong bytes

-- a stream that was fed these bytes, in any pieces, handed out these packets, between any of them, and holds the rest
pub data Streams : List ℕ → List (List ℕ) → List ℕ → Type 0 where
  empty : Streams [] [] []
  fed : (fed rest bytes : List ℕ) (packets : List (List ℕ)) → Streams fed packets rest
      → Streams (fed ++ bytes) packets (rest ++ bytes)
  handed_out : (fed rest packet : List ℕ) (packets : List (List ℕ)) → IsPacket packet
      → Streams fed packets (framed packet ++ rest) → Streams fed (packets ++ packet ∷ []) rest
