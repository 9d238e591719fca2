use Rattle.std.proofs.Common.{◌≡◌, ℕ}
use Rattle.learner.specs.Known.{known_learnt, known_heard}
use Rattle.learner.specs.Prefixes.{IsLearntTo}
use Rattle.learner.proofs.known.Known.first_unlearnt.Given as goal

abbrev pub invariant-loop-value : goal.invariant-loop-value
invariant-loop-value l = record {
  learnt : known_learnt l.self ≡ known_learnt l.initial.self;
  heard : known_heard l.self ≡ known_heard l.initial.self;
  learnt_to : (first : ℕ) → IsLearntTo (known_learnt l.initial.self) first l.from → IsLearntTo (known_learnt l.initial.self) first l.value;
}
