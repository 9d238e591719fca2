use Rattle.node_model.proofs.Learnt.{fresh_begins, fresh_has_learnt_nothing, learnt_behind, loaded_means}
use Rattle.node_model.proofs.Meanings.{as_many}
use Rattle.node_model.proofs.laws.meanings_are_of_learnt_slots.Goals as goal

pub returns-clause-as_many : goal.returns-clause-as_many
returns-clause-as_many c = as_many

pub returns-clause-learnt : goal.returns-clause-learnt
returns-clause-learnt c = learnt_behind

pub returns-clause-fresh : goal.returns-clause-fresh
returns-clause-fresh c = λ id nodes m h. (fresh_begins id nodes m h, fresh_has_learnt_nothing id nodes m h)

pub returns-clause-loaded : goal.returns-clause-loaded
returns-clause-loaded c = loaded_means
