use Rattle.stable.specs.Storages.{scripted}
use Rattle.world_model.proofs.OneLog.Tellings.{start_tells}
use Rattle.world_model.proofs.explanation.start_keeps_lists.Goals as goal

pub returns : goal.returns
returns g c = start_tells {S = g.row.S.Denot} (scripted g.S.Stable)
