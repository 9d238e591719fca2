-- What a world is seen as: its run.
use Rattle.stable.specs.declared.stable.Stable.{Ghosts}
use Rattle.world.specs.declared.world.World.{World}
use Rattle.world_model.specs.Worlds.{WorldState}
use Rattle.world.specs.Inner.{inner_of}

abbrev pub world_of : {S : Type 0} {storage : Ghosts S} → World S storage → WorldState S
world_of w = inner_of w.inner
