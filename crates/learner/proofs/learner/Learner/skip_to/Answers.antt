use Rattle.std.proofs.Common.{◌≡◌, ◌∙◌, ◌<◌, sym, arith}
use Rattle.learner.specs.Known.{known_learnt, known_heard}
use Rattle.learner.specs.Learning.{prefix}
use Rattle.learner.specs.State.{learning_of}
use Rattle.learner.proofs.PrefixLemmas.{prefix_only, skipped_on, skipped_none}
use Rattle.learner.proofs.learner.Learner.skip_to.Goals as goal

-- nothing is passed over
pub returns-then-position-self : goal.returns-then-position-self
returns-then-position-self c =
    let self = c.args.self.now in
    sym (skipped_none (learning_of self) c.args.position
    (omega (arith, c.if-position-self.true, prefix_only (learning_of self) self.prefix self.counted)))

-- nothing below the slot counts from now on
pub invariant_of-self : goal.invariant_of-self
invariant_of-self c = record {
  counted = rw c.first_unlearnt-self.ensures.learnt (c.first_unlearnt-self.ensures.prefix c.args.position
      (record { from = omega arith; in_log = c.requires; below = λ s a b. absurd (omega (arith, a, b)) }));
}

pub returns : goal.returns
returns c =
    let self = c.args.self.now in
    let learnt : known_learnt c.first_unlearnt-self.new.self ≡ known_learnt self.slots =
    c.first_unlearnt-self.ensures.learnt ∙ c.skip_to.ensures.learnt in
    let heard : known_heard c.first_unlearnt-self.new.self ≡ known_heard self.slots =
    c.first_unlearnt-self.ensures.heard ∙ c.skip_to.ensures.heard in
    let above : prefix (learning_of self) < c.args.position =
    omega (arith, c.if-position-self.false, prefix_only (learning_of self) self.prefix self.counted) in
    rw (learnt, heard) (sym (skipped_on (learning_of self) c.args.position above))
