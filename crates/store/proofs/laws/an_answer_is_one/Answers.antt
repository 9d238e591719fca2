use Rattle.store.proofs.OneAnswer.{answer_one}
use Rattle.store.proofs.laws.an_answer_is_one.Goals as goal

pub returns : goal.returns
returns c = λ fs q a b valid h k. answer_one fs valid q a b h k
