use Rattle.std.proofs.Common.{◌≡◌, map, take, length}
use Rattle.std.specs.Prelude.{bit_xor}
use Rattle.peers.proofs.key.masked.Given as goal

abbrev pub invariant-bytes : goal.invariant-bytes
invariant-bytes l = (length l.out ≡ 64) × (take l.i l.out ≡ map (λ byte. bit_xor byte l.mask) (take l.i l.block))
