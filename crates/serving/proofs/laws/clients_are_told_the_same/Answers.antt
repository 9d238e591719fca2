use Rattle.serving.proofs.ClusterLemmas.{answers_are_one, replies_are_one}
use Rattle.serving.proofs.laws.clients_are_told_the_same.Goals as goal

pub returns : goal.returns
returns g c = record {
  answers = answers_are_one g.met.S.Stable.laws;
  replies = replies_are_one g.met.S.Stable.laws;
}
