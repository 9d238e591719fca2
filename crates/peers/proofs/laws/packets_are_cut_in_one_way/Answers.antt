use Rattle.peers.proofs.StreamLemmas.{streams_one, streams_together}
use Rattle.peers.proofs.laws.packets_are_cut_in_one_way.Goals as goal

pub returns-clause-together : goal.returns-clause-together
returns-clause-together c = streams_together

pub returns-clause-one : goal.returns-clause-one
returns-clause-one c = streams_one
