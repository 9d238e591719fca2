use Rattle.std.proofs.Common.{rules, arith, subst, sym, true, false}
use Rattle.learner.specs.Prefixes.{IsPrefix}
use Rattle.learner.specs.Known.{known_learnt, known_heard}
use Rattle.learner.specs.State.{learning_of}
use Rattle.learner.proofs.HearLemmas.{hears_nothing_new}
use Rattle.learner.proofs.PrefixLemmas.{learnt_on}
use Rattle.learner.proofs.SlotLemmas.{hears_so, learnt_before, nothing_learnt}
use Rattle.learner.proofs.learner.Learner.on_accepted.Goals as goal

-- nothing is newly learnt, so the prefix stays
pub invariant_of-self-then-not-learns : goal.invariant_of-self-then-not-learns
invariant_of-self-then-not-learns c =
    let self = c.args.self.now in
    let hears = hears_so c.in_ok-learns.learns false (search rules) c.in_ok-learns.ensures.hears in record {
      counted = subst (λ learnt. IsPrefix learnt self.first self.prefix) (sym (nothing_learnt hears)) self.counted;
    }

pub returns-then-not-learns-clause-hears : goal.returns-then-not-learns-clause-hears
returns-then-not-learns-clause-hears c =
    let self = c.args.self.now in
    hears_nothing_new (learning_of self) c.args.from c.args.vote.now (known_learnt c.hear.new.self) (known_heard c.hear.new.self)
    (omega (arith, c.if-value-count.false, c.value.ensures.value, c.count.ensures.value))
    (omega (arith, c.if-value-self.false, c.value-else-value-count.ensures.value, self.counted.learnt_to.from))
    (hears_so c.in_ok-learns.learns false (search rules) c.in_ok-learns.ensures.hears)

-- the prefix goes on from where it was
pub invariant_of-self-2 : goal.invariant_of-self-2
invariant_of-self-2 c =
    let self = c.args.self.now in
    let hears = hears_so c.in_ok-learns.learns true (search rules) c.in_ok-learns.ensures.hears in record {
      counted = rw c.first_unlearnt-self.ensures.learnt (c.first_unlearnt-self.ensures.prefix self.first
          (learnt_on (known_learnt self.slots) (known_learnt c.hear.new.self) self.first self.prefix (learnt_before hears)
          self.counted.learnt_to));
    }
