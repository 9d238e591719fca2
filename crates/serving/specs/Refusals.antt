-- What a process makes of what its node refuses.
use Rattle.std.specs.Prelude.{◌≡◌, ◌≢◌, ◌⊎◌, true, false, Option, Some, None, Result, Ok, Err, IsOk}
use Rattle.node_model.specs.Faults.{is_stop_fault}
use Rattle.node_model.specs.declared.fault.NodeFault.{NodeFault}
use Rattle.node_model.specs.declared.fault.NodeFault.TheVariants as node_fault
use Rattle.life.specs.declared.fault.LifeFault.{LifeFault}
use Rattle.life.specs.declared.fault.LifeFault.TheVariants as life_fault
use Rattle.serving.specs.declared.fault.TurnFault.{TurnFault}
use Rattle.serving.specs.declared.fault.TurnFault.TheVariants as turn_fault

-- the node is down, or goes down with it
abbrev pub IsEnd : NodeFault → Type 0
IsEnd fault = (is_stop_fault fault ≡ true) ⊎ (fault ≡ node_fault.Down)

-- it stays up
abbrev pub IsRefused : NodeFault → Type 0
IsRefused fault = (is_stop_fault fault ≡ false) × (fault ≢ node_fault.Down)

-- None: the node did it. A fault: it refused it and is still up. An error: the process can't go on, as memory was wanting, here or for the
-- node, or as that is down
abbrev pub IsRefusal : Result (Unit {0}) LifeFault → Result (Option NodeFault) TurnFault → Type 0
IsRefusal outcome (Ok None) = IsOk outcome
IsRefusal outcome (Ok (Some fault)) = (outcome ≡ Err (life_fault.Node fault)) × IsRefused fault
IsRefusal outcome (Err turn_fault.Memory) = (outcome ≡ Err life_fault.Memory) ⊎ (outcome ≡ Err (life_fault.Node node_fault.Memory))
IsRefusal outcome (Err (turn_fault.Node fault)) = (outcome ≡ Err (life_fault.Node fault)) × IsEnd fault × (fault ≢ node_fault.Memory)
