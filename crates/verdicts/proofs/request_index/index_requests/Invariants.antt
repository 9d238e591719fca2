use Rattle.std.proofs.Common.{ℕ, take}
use Rattle.std.specs.BTreeMap.{get}
use Rattle.verdicts.specs.RequestIndex.{IsFound, key_cmp}
use Rattle.verdicts.proofs.request_index.index_requests.Given as goal

abbrev pub invariant-loop-at : goal.invariant-loop-at
invariant-loop-at l = (client number : ℕ) → IsFound (take l.at l.requests) client number (get key_cmp l.index (client, number))
