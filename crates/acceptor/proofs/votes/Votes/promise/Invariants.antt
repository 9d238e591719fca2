use Rattle.std.proofs.Common.{◌-◌}
use Rattle.acceptor.proofs.RangeLemmas.{IsToldTo, held, end_of}
use Rattle.acceptor.proofs.votes.Votes.promise.Given as goal

-- the votes below the next slot to look at were taken in
abbrev pub invariant-loop-from : goal.invariant-loop-from
invariant-loop-from l = IsToldTo (held l.fn.self.by_slot l.fn.first) l.fn.first (end_of l.from) l.entries.items

abbrev pub decreases-loop-from : goal.decreases-loop-from
decreases-loop-from l = 65536 - end_of l.from
