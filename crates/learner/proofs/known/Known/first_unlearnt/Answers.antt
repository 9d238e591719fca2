use Rattle.std.proofs.Common.{rules, ◌≡◌, ◌∙◌, sym, subst, true, false, is_some, arith}
use Rattle.learner.specs.Known.{known_learnt}
use Rattle.learner.specs.Prefixes.{IsLearntTo}
use Rattle.learner.proofs.PrefixLemmas.{one_more}
use Rattle.learner.proofs.KnownLemmas.{tells_of}
use Rattle.learner.proofs.known.Known.first_unlearnt.Goals as goal

-- whether the slot is learnt is what it was at first
pub returns-then-not-is_learnt-clause-prefix : goal.returns-then-not-is_learnt-clause-prefix
returns-then-not-is_learnt-clause-prefix c = λ first to.
    let not : is_some (known_learnt c.args.self.now c.loop-value.value) ≡ false =
    tells_of (known_learnt c.loop-value.self) _ c.loop-value.invariant.learnt c.loop-value.value _ (search rules)
    (sym c.settle-is_learnt.ensures.is ∙ search rules) in record {
      learnt_to = c.loop-value.invariant.learnt_to first to;
      here = λ _ is. let bad : false ≡ true = sym not ∙ is in cc;
    }

pub loop-value-preserved : goal.loop-value-preserved
loop-value-preserved c =
    let is : is_some (known_learnt c.args.self.now c.loop-value.value) ≡ true =
    tells_of (known_learnt c.loop-value.self) _ c.loop-value.invariant.learnt c.loop-value.value _ (search rules)
    (sym c.settle-is_learnt.ensures.is ∙ search rules) in record {
      learnt = c.settle-is_learnt.ensures.learnt ∙ c.loop-value.invariant.learnt;
      heard = c.settle-is_learnt.ensures.heard ∙ c.loop-value.invariant.heard;
      learnt_to = λ first to. subst (IsLearntTo (known_learnt c.args.self.now) first) (omega arith)
          (one_more (known_learnt c.args.self.now) first c.loop-value.value (c.loop-value.invariant.learnt_to first to) (search rules) is);
    }

pub returns-clause-prefix : goal.returns-clause-prefix
returns-clause-prefix c = search rules
