-- A process goes on only while its node is up.
use Rattle.std.specs.Prelude.{◌≡◌, IsSome, Result, Err}
use Rattle.stable.specs.declared.stable.Stable.{Ghosts}
use Rattle.node_model.specs.Nodes.{NodeState}
use Rattle.node_model.specs.Outputs.{Response}
use Rattle.node_model.specs.declared.fault.NodeFault.{NodeFault}
use Rattle.node_model.specs.declared.input.Input.{Input}
use Rattle.world_model.specs.Lives.{Took}
use Rattle.life.specs.Lives.{GoesOn, LifeState}
use Rattle.serving.specs.Refusals.{IsRefused}

-- a node that was up is up
pub record StaysUp {S : Type 0} (old new : NodeState S) : Type 0 where
  pub stays : IsSome old.up → IsSome new.up

-- the node took the input, or refused it and is up; all that it told of it is held
pub record WasGiven {S : Type 0} (storages : Ghosts S) (old : LifeState S) (input : Input) (new : LifeState S) : Type 0 where
  pub result : Result Response NodeFault
  pub takes : GoesOn storages old (Took input result) new
  pub goes_on : (fault : NodeFault) → result ≡ Err fault → IsRefused fault
