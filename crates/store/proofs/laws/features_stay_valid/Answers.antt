use Rattle.store.proofs.ValidLemmas.{none_valid, effect_valid}
use Rattle.store.proofs.laws.features_stay_valid.Goals as goal

pub returns-clause-start : goal.returns-clause-start
returns-clause-start c = none_valid

pub returns-clause-kept : goal.returns-clause-kept
returns-clause-kept c = effect_valid
