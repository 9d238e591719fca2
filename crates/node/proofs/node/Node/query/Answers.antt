use Rattle.std.proofs.Common.{List, ℕ, sym, subst, rules}
use Rattle.sessions.specs.Standing.{AnswersAll}
use Rattle.node.specs.Replica.{replica_of}
use Rattle.node_model.proofs.Meanings.{meaning_answers}
use Rattle.node.proofs.node.Node.query.Goals as goal

-- what the machine answers for each list that it stands for
pub returns-clause-meaning : goal.returns-clause-meaning
returns-clause-meaning g c = record {
  answers = λ base. meaning_answers base _ (replica_of c.in-Some.replica) c.args.query.now c.new.result (search rules)
      (subst (λ (t : List ℕ). AnswersAll (replica_of c.in-Some.replica).machine c.args.query.now t) (sym c.new.ensures)
      c.in_ok-text.ensures.answers);
}

pub returns-clause-answers : goal.returns-clause-answers
returns-clause-answers g c = search rules
