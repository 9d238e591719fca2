use Rattle.std.proofs.Common.{◌+◌, drop, take}
use Rattle.peers.proofs.CutLemmas.{cut, cut_fits}
use Rattle.peers.proofs.stream.Stream.next.Goals as goal

-- the packet is ahead, and memory ran out
pub returns-in_err-packet-clause-memory : goal.returns-in_err-packet-clause-memory
returns-in_err-packet-clause-memory c =
    let bytes = c.self.inside.held.items in
    let len = c.in-Some.len in
    let ahead = rw (c.in-Some.is, c.as_slice.ensures) at c.in_ok-len.ensures.whole in
    λ _. record {
      packet = drop 4 (take (4 + len) bytes);
      rest = drop (4 + len) bytes;
      parts = rw (← c.self.view_is) (cut bytes len ahead);
      fits = cut_fits bytes len ahead;
    }

pub returns-clause-packet : goal.returns-clause-packet
returns-clause-packet c =
    let ahead = rw (c.in-Some.is, c.as_slice.ensures) at c.in_ok-len.ensures.whole in
    rw (← c.self.view_is, c.advance.ensures.items, c.in_ok-packet.ensures.front, c.in_ok-packet.ensures.rest.0)
    (cut c.self.inside.held.items c.in-Some.len ahead)
