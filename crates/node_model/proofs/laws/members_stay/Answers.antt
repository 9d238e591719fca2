use Rattle.node_model.proofs.Between.{steps_between}
use Rattle.node_model.proofs.Members.{steps_member}
use Rattle.node_model.proofs.laws.members_stay.Goals as goal

pub returns-clause-stays : goal.returns-clause-stays
returns-clause-stays g c = λ id nodes old new input result steps is. steps_member g.S.Stable id nodes old new input is result steps

pub returns-clause-sends : goal.returns-clause-sends
returns-clause-sends g c = λ id nodes old new input result steps is there. steps_between g.S.Stable id nodes old new input is there result
    steps
