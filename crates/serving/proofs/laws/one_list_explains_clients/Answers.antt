use Rattle.serving.proofs.ClusterLemmas.{log_explains}
use Rattle.serving.proofs.laws.one_list_explains_clients.Goals as goal

pub returns : goal.returns
returns g c = log_explains g.met.S.Stable.laws
