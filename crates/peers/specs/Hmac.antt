-- HMAC-SHA-256 (RFC 2104) on lists of bytes.
use Rattle.std.specs.Prelude.{ℕ, ◌-◌, nat_lt, if◌then◌else◌, List, ◌++◌, length, map, replicate, bit_xor}
use Rattle.sha2.specs.Sha256.{sha256}

-- with zeros up to a block of the hash function
abbrev pub padded : List ℕ → List ℕ
padded key = key ++ replicate (64 - length key) 0

-- a key as one block: a longer one is hashed first
abbrev pub block_of : List ℕ → List ℕ
block_of key = if nat_lt 64 (length key) then padded (sha256 key) else padded key

abbrev pub masked : ℕ → List ℕ → List ℕ
masked mask block = map (λ byte. bit_xor byte mask) block

-- the digest under the key of this block
abbrev pub keyed_digest : List ℕ → List ℕ → List ℕ
keyed_digest block message = sha256 (masked 0x5C block ++ sha256 (masked 0x36 block ++ message))
