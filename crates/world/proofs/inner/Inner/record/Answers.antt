use Rattle.std.proofs.Common.{sym, subst}
use Rattle.world_model.specs.Memberships.{IsMembership}
use Rattle.world.proofs.inner.Inner.record.Goals as goal

-- the node shows what it showed before it had its room back
pub invariant_of-self-clause-membership : goal.invariant_of-self-clause-membership
invariant_of-self-clause-membership g c =
    subst (λ nodes. IsMembership nodes c.join-sends.new.self.frames.items) (sym c.recycle_sends.ensures) c.join-sends.new.self.membership
