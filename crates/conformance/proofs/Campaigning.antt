-- A learner that a proposer's campaign asks how far it is.
use Rattle.std.proofs.Common.{ℕ, ◌<◌, arith}
use Rattle.learner.specs.Learning.{unlearnt, prefix, first_unlearnt}
use Rattle.synod.specs.declared.slot.TheConstants.{SLOTS}

-- a learner that has learnt nothing has all of the log before it
pub log_has_room : (nodes : ℕ) → prefix (unlearnt nodes) < SLOTS
unfolding prefix first_unlearnt
log_has_room nodes = omega arith
