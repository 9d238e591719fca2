use Rattle.std.proofs.Common.{◌≡◌, List, ap, subst}
use Rattle.std.proofs.lemmas.Result.{IfOk-weaker}
use Rattle.mfjson.specs.declared.feature.Feature.{Feature}
use Rattle.store.specs.Answers.{IsAnswer}
use Rattle.sessions.specs.Machines.{MachineState}
use Rattle.sessions.proofs.Keeping.{answers_all}
use Rattle.sessions.proofs.machine.Machine.answer.Goals as goal

pub returns-clause-answers : goal.returns-clause-answers
returns-clause-answers c =
    let same : c.self.inside.db ≡ c.args.self.now.features = ap (λ (m : MachineState). m.features) c.self.view_is in
    IfOk-weaker c.answer.result _ _ (λ text says. answers_all c.args.self.now c.args.query.now text.items
    (subst (λ (fs : List Feature). IsAnswer fs c.args.query.now text.items) same says)) c.answer.ensures
