use Rattle.store.proofs.DatabaseLemmas.{none_database, effect_database}
use Rattle.store.proofs.laws.features_stay_a_database.Goals as goal

pub returns-clause-start : goal.returns-clause-start
returns-clause-start c = none_database

pub returns-clause-kept : goal.returns-clause-kept
returns-clause-kept c = effect_database
