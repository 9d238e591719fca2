-- How a process ends: with which fault, and what happened to its node last.
use Rattle.std.specs.Prelude.{◌≡◌, ◌⊎◌, ⊤, Option, Some, None, IfSome, Err}
use Rattle.stable.specs.declared.stable.Stable.{Ghosts}
use Rattle.node_model.specs.Nodes.{NodeState}
use Rattle.node_model.specs.declared.fault.NodeFault.{NodeFault}
use Rattle.node_model.specs.declared.fault.NodeFault.TheVariants as node_fault
use Rattle.node_model.specs.declared.input.Input.{Input}
use Rattle.world_model.specs.Lives.{Asked, Happening, Happens, Took}
use Rattle.serving.specs.Refusals.{IsRefused}
use Rattle.serving.specs.Turns.{IsOfProcess}
use Rattle.serving.specs.declared.fault.TurnFault.{TurnFault}
use Rattle.serving.specs.declared.fault.TurnFault.TheVariants as turn_fault

-- ---- what happens to a node
-- it is given this input
abbrev pub IsGiven : Input → Happening → Type 0
IsGiven given (Took input result) = input ≡ given
IsGiven given other = ⊥

-- a message or a request comes to it
abbrev pub IsOfOthers : Happening → Type 0
IsOfOthers (Took input result) = ¬ IsOfProcess input
IsOfOthers other = ⊥

-- it is asked
abbrev pub IsAsked : Happening → Type 0
IsAsked (Asked query result) = ⊤
IsAsked other = ⊥

-- the fault with which it refuses, or goes down
abbrev pub fault_in : Happening → Option NodeFault
fault_in (Took input (Err fault)) = Some fault
fault_in (Asked query (Err fault)) = Some fault
fault_in other = None

-- ---- the fault with which a process ends
-- the device failed, or the node was down already
abbrev pub IsCause : NodeFault → Type 0
IsCause fault = (fault ≡ node_fault.Device) ⊎ (fault ≡ node_fault.Down)

-- it ends so for this fault of its node
abbrev pub IsFor : NodeFault → TurnFault → Type 0
IsFor found turn_fault.Memory = found ≡ node_fault.Memory
IsFor found (turn_fault.Node fault) = (found ≡ fault) × IsCause fault

-- at most one such thing happened to its node, and it ends with this fault
pub data EndsAt {S : Type 0} (storages : Ghosts S) (IsSuch : Happening → Type 0) (old : NodeState S)
    : TurnFault → NodeState S → Type 0 where
  -- memory was wanting before it happened
  before : (new : NodeState S) → new ≡ old → EndsAt storages IsSuch old turn_fault.Memory new
  -- or behind it: the node did it, or refused it and is up
  behind : (what : Happening) (new : NodeState S) → IsSuch what → Happens storages old what new → IfSome (fault_in what) IsRefused
      → EndsAt storages IsSuch old turn_fault.Memory new
  -- or it ends for the fault that its node then had
  at_it : (what : Happening) (found : NodeFault) (fault : TurnFault) (new : NodeState S) → IsSuch what → Happens storages old what new
      → fault_in what ≡ Some found → IsFor found fault → EndsAt storages IsSuch old fault new

-- it ends with a fault of its node only where that is down, and says why
abbrev pub HasEnded : {S : Type 0} → NodeState S → TurnFault → Type 0
HasEnded n turn_fault.Memory = ⊤
HasEnded n (turn_fault.Node fault) = IsCause fault × (n.up ≡ None)
