use Rattle.node_model.proofs.RefusalLemmas.{refusal_goes_on}
use Rattle.node_model.proofs.allowed.refusals_go_on.Goals as goal

pub returns : goal.returns
returns c = λ m i f refused. refusal_goes_on m i f refused
