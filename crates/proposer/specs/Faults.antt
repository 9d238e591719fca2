-- The texts of faults.
use Rattle.std.specs.Prelude.{ℕ, List, codes}
use Rattle.proposer.specs.declared.fault.SubmitFault.{SubmitFault}
use Rattle.proposer.specs.declared.fault.SubmitFault.TheVariants as submit_fault
use Rattle.proposer.specs.declared.fault.TimeoutFault.{TimeoutFault}
use Rattle.proposer.specs.declared.fault.TimeoutFault.TheVariants as timeout_fault

-- what is printed where a request is turned away
abbrev pub submit_text : SubmitFault → List ℕ
submit_text submit_fault.QueueFull = codes "as many requests wait as may"
submit_text submit_fault.Memory = codes "out of memory"

-- what is printed where no campaign starts
abbrev pub timeout_text : TimeoutFault → List ℕ
timeout_text timeout_fault.RoundsUsedUp = codes "no round is left"
timeout_text timeout_fault.Device = codes "the device failed"
timeout_text timeout_fault.Memory = codes "out of memory"
