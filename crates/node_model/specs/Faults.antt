-- The numbers and the texts of faults.
use Rattle.std.specs.Prelude.{ℕ, Bool, true, false, List, codes}
use Rattle.proposer.specs.declared.fault.SubmitFault.{SubmitFault}
use Rattle.proposer.specs.declared.fault.SubmitFault.TheVariants as submit_fault
use Rattle.proposer.specs.declared.fault.TimeoutFault.{TimeoutFault}
use Rattle.proposer.specs.declared.fault.TimeoutFault.TheVariants as timeout_fault
use Rattle.stable.specs.declared.fault.StableFault.{StableFault}
use Rattle.stable.specs.declared.fault.StableFault.TheVariants as stable_fault
use Rattle.node_model.specs.declared.fault.NodeFault.{NodeFault}
use Rattle.node_model.specs.declared.fault.NodeFault.TheVariants.{Down, LogFull, RoundsUsedUp, QueueFull, TooLong, NothingNew, Device, Memory, Damaged}

-- the number under which it is told
abbrev pub node_code : NodeFault → ℕ
node_code Down = 41
node_code LogFull = 42
node_code RoundsUsedUp = 43
node_code QueueFull = 44
node_code TooLong = 45
node_code Device = 46
node_code Memory = 47
node_code Damaged = 48
node_code NothingNew = 49

-- the node goes down with it
abbrev pub is_stop_fault : NodeFault → Bool
is_stop_fault Down = false
is_stop_fault LogFull = false
is_stop_fault RoundsUsedUp = false
is_stop_fault QueueFull = false
is_stop_fault TooLong = false
is_stop_fault NothingNew = false
is_stop_fault Device = true
is_stop_fault Memory = true
is_stop_fault Damaged = true

-- ---- the faults of what a node stands on, as its own
abbrev pub of_storage : StableFault → NodeFault
of_storage stable_fault.Device = Device
of_storage stable_fault.Memory = Memory
of_storage stable_fault.Damaged = Damaged

abbrev pub of_submit : SubmitFault → NodeFault
of_submit submit_fault.QueueFull = QueueFull
of_submit submit_fault.Memory = Memory

abbrev pub of_timeout : TimeoutFault → NodeFault
of_timeout timeout_fault.RoundsUsedUp = RoundsUsedUp
of_timeout timeout_fault.Device = Device
of_timeout timeout_fault.Memory = Memory

-- ---- what is printed
abbrev pub fault_text : NodeFault → List ℕ
fault_text Down = codes "the node is down"
fault_text LogFull = codes "the whole log is executed"
fault_text RoundsUsedUp = codes "no round is left"
fault_text QueueFull = codes "as many requests wait as may"
fault_text TooLong = codes "the sequence is too long for a request"
fault_text NothingNew = codes "nothing was executed since the last checkpoint"
fault_text Device = codes "the storage failed"
fault_text Memory = codes "out of memory"
fault_text Damaged = codes "a record is damaged"
