use Rattle.node_model.proofs.AllowedLoading.{loaded_holds, loaded_stands}
use Rattle.node_model.proofs.allowed.loading_is_allowed.Goals as goal

pub returns-clause-holds : goal.returns-clause-holds
returns-clause-holds c = λ records id nodes m a round loads holds. loaded_holds records id nodes m loads a round holds

pub returns-clause-stands : goal.returns-clause-stands
returns-clause-stands c = λ records id nodes m a round x loads holds stands none.
    loaded_stands records id nodes m loads a round x holds stands none
