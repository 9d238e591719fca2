-- The numbers and the texts of a world's faults.
use Rattle.std.specs.Prelude.{ℕ, List, codes}
use Rattle.events.specs.declared.fault.WorldFault.{WorldFault}
use Rattle.events.specs.declared.fault.WorldFault.TheVariants as world_fault

abbrev pub world_code : WorldFault → ℕ
world_code world_fault.NoSuchFrame = 51
world_code world_fault.NoSuchNode = 52
world_code world_fault.FlushLimit = 53
world_code world_fault.Memory = 54
world_code world_fault.NotEmpty = 55

-- what is printed of a fault
abbrev pub fault_text : WorldFault → List ℕ
fault_text world_fault.NoSuchFrame = codes "no frame of this number was sent"
fault_text world_fault.NoSuchNode = codes "the run has no such node"
fault_text world_fault.FlushLimit = codes "a frame still waits after the most that a flush delivers"
fault_text world_fault.Memory = codes "out of memory"
fault_text world_fault.NotEmpty = codes "a storage holds a record already"
