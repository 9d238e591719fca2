use Rattle.std.proofs.Common.{None}
use Rattle.learner.specs.Places.{place_learnt, place_heard}
use Rattle.learner.proofs.SlotLemmas.{all_updated}
use Rattle.learner.proofs.slots.Slots.forget.Goals as goal

pub returns-clause-learnt : goal.returns-clause-learnt
returns-clause-learnt c = all_updated place_learnt c.args.self.now.by_slot c.remove.new.self c.args.slot None c.remove.ensures.updates

pub returns-clause-heard : goal.returns-clause-heard
returns-clause-heard c = all_updated place_heard c.args.self.now.by_slot c.remove.new.self c.args.slot None c.remove.ensures.updates
