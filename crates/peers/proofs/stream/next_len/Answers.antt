use Rattle.std.proofs.Common.{arith}
use Rattle.peers.proofs.CutLemmas.{ahead}
use Rattle.peers.proofs.stream.next_len.Goals as goal

pub returns-clause-whole : goal.returns-clause-whole
returns-clause-whole c =
    ahead c.args.bytes.now c.read_u32-len.result (λ i. omega (arith, c.type_inv.bytes i)) c.read_u32-len.ensures
    (omega (arith, c.if-len-gt-LONGEST_PACKET.false)) (omega (arith, c.if-bytes-len.false))
