use Rattle.std.proofs.Common.{◌<◌, sym, subst}
use Rattle.learner.specs.Learning.{prefix}
use Rattle.synod.specs.declared.slot.TheConstants.{SLOTS}
use Rattle.conformance.proofs.Campaigning.{log_has_room}
use Rattle.conformance.proofs.timing.leader.Leader.new.Goals as goal

pub campaign-requires : goal.campaign-requires
campaign-requires c = subst (λ l. prefix l < SLOTS) (sym c.new-learner.ensures) (log_has_room c.unwrap.result)
