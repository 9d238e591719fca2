use Rattle.learner.proofs.PrefixLemmas.{nothing_learnt_yet}
use Rattle.learner.specs.Known.{known_learnt}
use Rattle.learner.proofs.learner.Learner.start_at.Goals as goal

pub invariant_of-result : goal.invariant_of-result
invariant_of-result c = record { counted = nothing_learnt_yet (known_learnt c.new.result) c.args.first c.requires c.new.ensures.learnt }
