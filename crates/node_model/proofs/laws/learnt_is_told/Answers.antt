use Rattle.node_model.proofs.Learnt.{takes_tells, takes_restored}
use Rattle.node_model.proofs.LearntSlots.{taken_in_log}
use Rattle.node_model.proofs.laws.learnt_is_told.Goals as goal

pub returns-clause-told : goal.returns-clause-told
returns-clause-told c = λ old new input said k. (takes_tells old new said input k).told

pub returns-clause-news : goal.returns-clause-news
returns-clause-news c = λ old new input said k. (takes_tells old new said input k).news

pub returns-clause-in_log : goal.returns-clause-in_log
returns-clause-in_log c = λ old new i said fits takes. taken_in_log old new said i fits takes

pub returns-clause-restoring : goal.returns-clause-restoring
returns-clause-restoring c = λ old new input said k. takes_restored old new said input k
