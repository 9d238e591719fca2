use Rattle.node_model.specs.Taking.RestoresText.{restores}
use Rattle.node.proofs.replica.Replica.restore.Goals as goal

-- the text is that of the machine from which it goes on
pub returns-in_ok-go_on_from-in-Ok-clause-restores : goal.returns-in_ok-go_on_from-in-Ok-clause-restores
returns-in_ok-go_on_from-in-Ok-clause-restores c = λ before is.
    restores c.in-Ok.machine (record { fits = c.in-Ok.ensures.fits; is = c.in-Ok.ensures.restored }) (c.in_ok-go_on_from-in-Ok.ensures before is)
