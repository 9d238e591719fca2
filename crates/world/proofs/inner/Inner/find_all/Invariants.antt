use Rattle.std.proofs.Common.{ℕ, ◌<◌, get_or, vec_len}
use Rattle.world.proofs.inner.Inner.find_all.Given as goal

abbrev pub invariant-loop-member : goal.invariant-loop-member
invariant-loop-member g l = (k d : ℕ) → k < l.member-index → get_or l.members k d < vec_len l.self.nodes
