use Rattle.std.proofs.Common.{rules}
use Rattle.learner.specs.Known.{known_learnt}
use Rattle.learner.proofs.PrefixLemmas.{learnt_on}
use Rattle.learner.proofs.SlotLemmas.{some_put}
use Rattle.learner.proofs.learner.Learner.on_decided.Goals as goal

-- the prefix goes on from where it was
pub invariant_of-self-2 : goal.invariant_of-self-2
invariant_of-self-2 c =
    let self = c.args.self.now in record {
      counted = rw c.first_unlearnt-self.ensures.learnt (c.first_unlearnt-self.ensures.prefix self.first
          (learnt_on (known_learnt self.slots) (known_learnt c.learn.new.self) self.first self.prefix
          (some_put (known_learnt self.slots) c.args.slot c.args.command (known_learnt c.learn.new.self) c.in_ok-learn.ensures.learnt)
          self.counted.learnt_to));
    }

pub returns-then-value-self-clause-hears : goal.returns-then-value-self-clause-hears
returns-then-value-self-clause-hears c = search rules

pub learn-requires : goal.learn-requires
learn-requires c = search rules

pub returns-in_err-learn-clause-unlearnt : goal.returns-in_err-learn-clause-unlearnt
returns-in_err-learn-clause-unlearnt c = search rules

pub returns-clause-hears : goal.returns-clause-hears
returns-clause-hears c = search rules
